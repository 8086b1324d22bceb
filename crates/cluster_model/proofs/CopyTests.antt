-- Copying: for each guard a state in which just it fails, and what is said then.
use Rattle.std.proofs.Common.{◌≡◌, ◌==◌, [], ◌∷◌, Some, None, refl}
use Rattle.dlm_modes.specs.First.{first_such}
use Rattle.mdc_types.specs.declared.events.Event.TheVariants.{AskResync, Gather, PassOwn, PassFull, PassAgain, CopyIn, CopyOut, Settle, EndPass}
use Rattle.mdc_types.specs.declared.refusals.Refusal.TheVariants.{NoLeg, NotPhase, Unacked, NotTarget, NotWritten, NotRead, Window, NothingLeft}
use Rattle.mdc_types.specs.declared.refusals.Part.TheVariants as parts
use Rattle.mdc_types.specs.declared.refusals.Word.TheVariants as words
use Rattle.mdc_types.specs.declared.roles.NodeState.TheVariants as states
use Rattle.mdc_types.specs.declared.events.Wish.TheVariants as wishes
use Rattle.msg_rounds.specs.declared.phases.SenderPhase.TheVariants as senders
use Rattle.disk_addition.specs.declared.addition.Addition.TheVariants.{Again}
use Rattle.cluster_model.specs.Changes.{not_adding}
use Rattle.cluster_model.specs.Table.{guards}
use Rattle.cluster_model.proofs.Small.{failing, unacked_view, base, a_meta, offering, a_range, asked_copy, holding_resync, a_pass, with_buffer, copies, gathering, all_gathered, a_recovery}

resync_not_up : failing (guards (record base { state = λ n. states.Loaded }) (AskResync 0)) ≡ (NotPhase parts.State words.Loaded) ∷ []
unfolding first_such
resync_not_up = refl

resync_leaving : failing (guards (offering (record a_meta { wish = wishes.Unclean })) (AskResync 0)) ≡ (NotPhase parts.Sender words.Offered) ∷ []
unfolding first_such
resync_leaving = refl

resync_twice : failing (guards (record base { copy = λ n. asked_copy }) (AskResync 0)) ≡ (NotPhase parts.Copy words.Asked) ∷ []
unfolding first_such
resync_twice = refl

gather_not_up : failing (guards (record gathering { state = λ n. states.Loaded }) (Gather 0)) ≡ (NotPhase parts.State words.Loaded) ∷ []
unfolding first_such
gather_not_up = refl

gather_not_held : failing (guards (record gathering { copy = λ n. asked_copy }) (Gather 0)) ≡ (NotPhase parts.Copy words.Asked) ∷ []
unfolding first_such
gather_not_held = refl

gather_nothing : failing (guards (record gathering { adding = λ n. not_adding }) (Gather 0)) ≡ (NotPhase parts.Addition words.Nothing) ∷ []
unfolding first_such
gather_nothing = refl

gather_unacked : failing (guards (record gathering { view = λ n. unacked_view }) (Gather 0)) ≡ (Unacked 1) ∷ []
unfolding first_such
gather_unacked = refl

gather_all : failing (guards (record gathering { adding = λ n. all_gathered }) (Gather 0)) ≡ NothingLeft ∷ []
unfolding first_such
gather_all = refl

pass_not_up : failing (guards (record holding_resync { state = λ n. states.Loaded }) (PassOwn 0)) ≡ (NotPhase parts.State words.Loaded) ∷ []
unfolding first_such
pass_not_up = refl

pass_twice : failing (guards (copies a_pass None) (PassFull 0)) ≡ (NotPhase parts.Copy words.Pass) ∷ []
unfolding first_such
pass_twice = refl

pass_unacked : failing (guards (record holding_resync { view = λ n. unacked_view }) (PassOwn 0)) ≡ (Unacked 1) ∷ []
unfolding first_such
pass_unacked = refl

again_no_leg : failing (guards (record gathering { adding = λ n. record all_gathered { addition = Again 5 } }) (PassAgain 0 5)) ≡ (NoLeg 5) ∷ []
unfolding first_such
again_no_leg = refl

again_other : failing (guards (record gathering { adding = λ n. all_gathered }) (PassAgain 0 1)) ≡ (NotPhase parts.Addition words.Again) ∷ []
unfolding first_such
again_other = refl

again_not_read : failing (guards gathering (PassAgain 0 2)) ≡ (NotRead 0) ∷ []
unfolding first_such
again_not_read = refl

ci_not_up : failing (guards (record (copies a_pass (Some a_range)) { state = λ n. states.Loaded }) (CopyIn 0)) ≡ (NotPhase parts.State words.Loaded) ∷ []
unfolding first_such
ci_not_up = refl

ci_buffer : failing (guards (copies with_buffer (Some a_range)) (CopyIn 0)) ≡ (NotPhase parts.Copy words.Buffer) ∷ []
unfolding first_such
ci_buffer = refl

ci_unacked : failing (guards (record (copies a_pass (Some a_range)) { view = λ n. unacked_view }) (CopyIn 0)) ≡ (Unacked 1) ∷ []
unfolding first_such
ci_unacked = refl

ci_nothing_left : failing (guards (copies (record a_pass { todo = λ c. c == 3 }) (Some a_range)) (CopyIn 0)) ≡ NothingLeft ∷ []
unfolding first_such
ci_nothing_left = refl

co_no_leg : failing (guards (copies with_buffer (Some a_range)) (CopyOut 0 5)) ≡ (NoLeg 5) ∷ (NotTarget 5) ∷ []
unfolding first_such
co_no_leg = refl

co_no_buffer : failing (guards (copies a_pass (Some a_range)) (CopyOut 0 1)) ≡ (NotPhase parts.Copy words.Window) ∷ []
unfolding first_such
co_no_buffer = refl

co_not_target : failing (guards (copies with_buffer (Some a_range)) (CopyOut 0 2)) ≡ (NotTarget 2) ∷ []
unfolding first_such
co_not_target = refl

co_unacked : failing (guards (record (copies with_buffer (Some a_range)) { view = λ n. unacked_view }) (CopyOut 0 0)) ≡ (Unacked 1) ∷ []
unfolding first_such
co_unacked = refl

settle_no_buffer : failing (guards (copies a_pass (Some a_range)) (Settle 0)) ≡ (NotPhase parts.Copy words.Window) ∷ []
unfolding first_such
settle_no_buffer = refl

settle_unacked : failing (guards (record (copies with_buffer (Some a_range)) { view = λ n. unacked_view }) (Settle 0)) ≡ (Unacked 1) ∷ []
unfolding first_such
settle_unacked = refl

settle_not_written : failing (guards (copies with_buffer (Some a_range)) (Settle 0)) ≡ (NotWritten 1) ∷ []
unfolding first_such
settle_not_written = refl

done_not_up : failing (guards (record holding_resync { state = λ n. states.Loaded }) (EndPass 0)) ≡ (NotPhase parts.State words.Loaded) ∷ []
unfolding first_such
done_not_up = refl

done_sending : failing (guards (record holding_resync { sender = λ n. senders.Granted }) (EndPass 0)) ≡ (NotPhase parts.Sender words.Granted) ∷ []
unfolding first_such
done_sending = refl

done_nothing : failing (guards base (EndPass 0)) ≡ (NotPhase parts.Copy words.Nothing) ∷ []
unfolding first_such
done_nothing = refl

done_recovering : failing (guards (record holding_resync { recovery = λ n. Some a_recovery }) (EndPass 0)) ≡ (NotPhase parts.Recovery words.Open) ∷ []
unfolding first_such
done_recovering = refl

done_window : failing (guards (copies a_pass (Some a_range)) (EndPass 0)) ≡ (Window 4) ∷ []
unfolding first_such
done_window = refl

again_not_up : failing (guards (record gathering { state = λ n. states.Loaded; adding = λ n. all_gathered }) (PassAgain 0 2)) ≡ (NotPhase parts.State words.Loaded) ∷ []
unfolding first_such
again_not_up = refl

again_not_held : failing (guards (record gathering { copy = λ n. asked_copy; adding = λ n. all_gathered }) (PassAgain 0 2)) ≡ (NotPhase parts.Copy words.Asked) ∷ []
unfolding first_such
again_not_held = refl

again_unacked : failing (guards (record gathering { view = λ n. unacked_view; adding = λ n. all_gathered }) (PassAgain 0 2)) ≡ (Unacked 1) ∷ []
unfolding first_such
again_unacked = refl

co_not_up : failing (guards (record (copies with_buffer (Some a_range)) { state = λ n. states.Loaded }) (CopyOut 0 1)) ≡ (NotPhase parts.State words.Loaded) ∷ []
unfolding first_such
co_not_up = refl

settle_not_up : failing (guards (record (copies with_buffer (Some a_range)) { state = λ n. states.Loaded }) (Settle 0)) ≡ (NotPhase parts.State words.Loaded) ∷ (NotWritten 1) ∷ []
unfolding first_such
settle_not_up = refl
