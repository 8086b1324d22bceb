-- The receiver of a round: for each guard a state in which just it fails, and what is said then.
use Rattle.std.proofs.Common.{◌≡◌, true, [], ◌∷◌, Some, refl}
use Rattle.dlm_modes.specs.First.{first_such}
use Rattle.mdc_types.specs.declared.events.Event.TheVariants.{Take, Processed, Resume, DropMessage}
use Rattle.mdc_types.specs.declared.refusals.Refusal.TheVariants.{NotPhase, NotCalled, SenderGone, SenderLive, NotGranted, Draining}
use Rattle.mdc_types.specs.declared.refusals.Part.TheVariants as parts
use Rattle.mdc_types.specs.declared.refusals.Word.TheVariants as words
use Rattle.mdc_types.specs.declared.roles.NodeState.TheVariants as states
use Rattle.mdc_types.specs.declared.resources.Res.TheVariants as resources
use Rattle.dlm_space.specs.Locks.{new_lock}
use Rattle.dlm_modes.specs.declared.mode.Mode.TheVariants.{PR}
use Rattle.cluster_model.specs.Table.{guards}
use Rattle.cluster_model.proofs.Small.{failing, base, taken_one, waiting, range_message, called, a_write}

take_not_up : failing (guards (record called { state = λ n. states.Loaded }) (Take 0)) ≡ (NotPhase parts.State words.Loaded) ∷ []
unfolding first_such
take_not_up = refl

take_busy : failing (guards (record called { receiver = λ n. waiting }) (Take 0)) ≡ (NotPhase parts.Receiver words.Waiting) ∷ []
unfolding first_such
take_busy = refl

take_not_called : failing (guards base (Take 0)) ≡ NotCalled ∷ []
unfolding first_such
take_not_called = refl

processed_early : failing (guards base (Processed 0)) ≡ (NotPhase parts.Receiver words.Idle) ∷ []
unfolding first_such
processed_early = refl

processed_gone : failing (guards (record base { receiver = λ n. record taken_one { gone = true } }) (Processed 0)) ≡ (SenderGone 1) ∷ []
unfolding first_such
processed_gone = refl

processed_draining : failing (guards (record base { receiver = λ n. taken_one; heard = λ n. Some range_message; writes = λ n. a_write ∷ [] }) (Processed 0)) ≡ (Draining 7) ∷ []
unfolding first_such
processed_draining = refl

resume_early : failing (guards (record base { receiver = λ n. taken_one; locks = λ r. record new_lock { held = λ n. Some PR } }) (Resume 0)) ≡ (NotPhase parts.Receiver words.Taken) ∷ []
unfolding first_such
resume_early = refl

resume_not_granted : failing (guards (record base { receiver = λ n. waiting }) (Resume 0)) ≡ (NotGranted resources.Message) ∷ []
unfolding first_such
resume_not_granted = refl

drop_early : failing (guards (record base { receiver = λ n. record waiting { gone = true } }) (DropMessage 0)) ≡ (NotPhase parts.Receiver words.Waiting) ∷ []
unfolding first_such
drop_early = refl

drop_live : failing (guards (record base { receiver = λ n. taken_one }) (DropMessage 0)) ≡ (SenderLive 1) ∷ []
unfolding first_such
drop_live = refl
