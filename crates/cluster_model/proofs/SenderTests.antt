-- The sender of a round: for each guard a state in which just it fails, and what is said then.
use Rattle.std.proofs.Common.{◌≡◌, true, ◌==◌, [], ◌∷◌, Some, refl}
use Rattle.dlm_modes.specs.First.{first_such}
use Rattle.mdc_types.specs.declared.events.Event.TheVariants.{AskToken, AskMessage, WriteSuper, Publish, FinishRound, Quit, LockDevice}
use Rattle.mdc_types.specs.declared.refusals.Refusal.TheVariants.{NoLeg, NotPhase, Blocked, ReceiverBusy, Draining, Reading, NotTarget, NotWritten}
use Rattle.mdc_types.specs.declared.refusals.Part.TheVariants as parts
use Rattle.mdc_types.specs.declared.refusals.Word.TheVariants as words
use Rattle.mdc_types.specs.declared.roles.NodeState.TheVariants as states
use Rattle.mdc_types.specs.declared.events.Wish.TheVariants as wishes
use Rattle.msg_rounds.specs.declared.phases.SenderPhase.TheVariants as senders
use Rattle.dlm_space.specs.Locks.{new_lock}
use Rattle.dlm_modes.specs.declared.mode.Mode.TheVariants.{CR}
use Rattle.cluster_model.specs.Table.{guards}
use Rattle.cluster_model.proofs.Small.{failing, if_at, base, sends, a_meta, offering, a_range, announced, waiting, a_write, a_read}

token_not_up : failing (guards (record base { state = λ n. states.Joining }) (AskToken 0)) ≡ (NotPhase parts.State words.Joining) ∷ []
unfolding first_such
token_not_up = refl

token_twice : failing (guards (record base { sender = λ n. senders.TokenHeld }) (AskToken 0)) ≡ (NotPhase parts.Sender words.TokenHeld) ∷ []
unfolding first_such
token_twice = refl

token_busy : failing (guards (record base { receiver = λ n. waiting }) (AskToken 0)) ≡ (ReceiverBusy words.Waiting) ∷ []
unfolding first_such
token_busy = refl

message_joining : failing (guards (record (sends senders.TokenHeld) { state = λ n. states.Joining }) (AskMessage 0)) ≡ (NotPhase parts.State words.Joining) ∷ []
unfolding first_such
message_joining = refl

message_early : failing (guards base (AskMessage 0)) ≡ (NotPhase parts.Sender words.Idle) ∷ []
unfolding first_such
message_early = refl

message_busy : failing (guards (record (sends senders.TokenHeld) { receiver = λ n. waiting }) (AskMessage 0)) ≡ (ReceiverBusy words.Waiting) ∷ []
unfolding first_such
message_busy = refl

quit_published : failing (guards (sends senders.Published) (Quit 0)) ≡ (NotPhase parts.Sender words.Published) ∷ []
unfolding first_such
quit_published = refl

lockdev_not_up : failing (guards (record announced { state = λ n. states.Loaded }) (LockDevice 0)) ≡ (NotPhase parts.State words.Loaded) ∷ []
unfolding first_such
lockdev_not_up = refl

lockdev_early : failing (guards (record announced { sender = λ n. senders.Idle }) (LockDevice 0)) ≡ (NotPhase parts.Sender words.Idle) ∷ []
unfolding first_such
lockdev_early = refl

lockdev_nothing : failing (guards (sends senders.TokenHeld) (LockDevice 0)) ≡ (NotPhase parts.Addition words.Nothing) ∷ []
unfolding first_such
lockdev_nothing = refl

lockdev_blocked : failing (guards (record announced { locks = λ r. record new_lock { held = λ n. if_at n 2 (Some CR) } }) (LockDevice 0)) ≡ (Blocked 2) ∷ []
unfolding first_such
lockdev_blocked = refl

sb_no_leg : failing (guards (offering a_meta) (WriteSuper 0 5)) ≡ (NoLeg 5) ∷ (NotTarget 5) ∷ []
unfolding first_such
sb_no_leg = refl

sb_early : failing (guards (record (offering a_meta) { sender = λ n. senders.MessageHeld }) (WriteSuper 0 1)) ≡ (NotPhase parts.Sender words.MessageHeld) ∷ []
unfolding first_such
sb_early = refl

sb_range : failing (guards (offering (record a_meta { wish = wishes.Range a_range })) (WriteSuper 0 1)) ≡ (NotPhase parts.Sender words.Offered) ∷ []
unfolding first_such
sb_range = refl

sb_not_target : failing (guards (offering a_meta) (WriteSuper 0 2)) ≡ (NotTarget 2) ∷ []
unfolding first_such
sb_not_target = refl

publish_early : failing (guards (record (offering (record a_meta { written = λ l. true })) { sender = λ n. senders.MessageHeld }) (Publish 0)) ≡ (NotPhase parts.Sender words.MessageHeld) ∷ []
unfolding first_such
publish_early = refl

publish_unwritten : failing (guards (offering (record a_meta { written = λ l. l == 0 })) (Publish 0)) ≡ (NotWritten 1) ∷ []
unfolding first_such
publish_unwritten = refl

publish_draining : failing (guards (record (offering (record a_meta { wish = wishes.Range a_range })) { writes = λ n. a_write ∷ [] }) (Publish 0)) ≡ (Draining 7) ∷ []
unfolding first_such
publish_draining = refl

publish_unclean_draining : failing (guards (record (offering (record a_meta { wish = wishes.Unclean })) { writes = λ n. a_write ∷ [] }) (Publish 0)) ≡ (Draining 7) ∷ []
unfolding first_such
publish_unclean_draining = refl

publish_unclean_reading : failing (guards (record (offering (record a_meta { wish = wishes.Unclean })) { reads = λ n. a_read ∷ [] }) (Publish 0)) ≡ (Reading 5) ∷ []
unfolding first_such
publish_unclean_reading = refl

finish_early : failing (guards (sends senders.Published) (FinishRound 0)) ≡ (NotPhase parts.Sender words.Published) ∷ []
unfolding first_such
finish_early = refl
