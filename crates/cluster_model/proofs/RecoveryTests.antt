-- Recovery: for each guard a state in which just it fails, and what is said then.
use Rattle.std.proofs.Common.{◌≡◌, true, ◌==◌, [], ◌∷◌, Some, refl}
use Rattle.dlm_modes.specs.First.{first_such}
use Rattle.mdc_types.specs.declared.events.Event.TheVariants.{Recover, SlotIn, SlotOut, Recovered}
use Rattle.mdc_types.specs.declared.refusals.Refusal.TheVariants.{NoNode, NoLeg, NotPhase, NoPage, NotPending, HeirPending, Unacked, NotTarget, NotWorking, NotWritten, NotRead, BitMissing, Needed}
use Rattle.mdc_types.specs.declared.refusals.Part.TheVariants as parts
use Rattle.mdc_types.specs.declared.refusals.Word.TheVariants as words
use Rattle.mdc_types.specs.declared.roles.NodeState.TheVariants as states
use Rattle.std.specs.Prelude.{not}
use Rattle.cluster_model.specs.Table.{guards}
use Rattle.cluster_model.proofs.Small.{failing, unacked_view, up_members, fresh_bitmap, base, asked_copy, pending_three, a_recovery, recovering, read_recovery, all_read, cleared_recovery, all_cleared}

rec_not_up : failing (guards (record pending_three { state = λ n. states.Loaded }) (Recover 0 3)) ≡ (NotPhase parts.State words.Loaded) ∷ []
unfolding first_such
rec_not_up = refl

rec_not_held : failing (guards (record pending_three { copy = λ n. asked_copy }) (Recover 0 3)) ≡ (NotPhase parts.Copy words.Asked) ∷ []
unfolding first_such
rec_not_held = refl

rec_twice : failing (guards (record pending_three { recovery = λ n. Some a_recovery }) (Recover 0 3)) ≡ (NotPhase parts.Recovery words.Open) ∷ []
unfolding first_such
rec_twice = refl

rec_no_node : failing (guards (record pending_three { members = record up_members { pending = λ n. true } }) (Recover 0 9)) ≡ (NoNode 9) ∷ []
unfolding first_such
rec_no_node = refl

rec_not_pending : failing (guards pending_three (Recover 0 4)) ≡ (NotPending 4) ∷ []
unfolding first_such
rec_not_pending = refl

rec_heir_pending : failing (guards (record pending_three { members = record up_members { pending = λ n. not (n == 0); heir = λ d. Some 2 } }) (Recover 0 3)) ≡ (HeirPending 2) ∷ []
unfolding first_such
rec_heir_pending = refl

slotin_no_leg : failing (guards recovering (SlotIn 0 0 5)) ≡ (NoLeg 5) ∷ (NotWorking 5) ∷ []
unfolding first_such
slotin_no_leg = refl

slotin_not_up : failing (guards (record recovering { state = λ n. states.Loaded }) (SlotIn 0 0 1)) ≡ (NotPhase parts.State words.Loaded) ∷ []
unfolding first_such
slotin_not_up = refl

slotin_none : failing (guards base (SlotIn 0 0 1)) ≡ (NotPhase parts.Recovery words.Nothing) ∷ []
unfolding first_such
slotin_none = refl

slotin_no_page : failing (guards recovering (SlotIn 0 1 1)) ≡ (NoPage 1) ∷ []
unfolding first_such
slotin_no_page = refl

slotin_not_working : failing (guards recovering (SlotIn 0 0 2)) ≡ (NotWorking 2) ∷ []
unfolding first_such
slotin_not_working = refl

slotout_no_leg : failing (guards all_read (SlotOut 0 0 5)) ≡ (NoLeg 5) ∷ (NotTarget 5) ∷ []
unfolding first_such
slotout_no_leg = refl

slotout_none : failing (guards base (SlotOut 0 0 1)) ≡ (NotPhase parts.Recovery words.Nothing) ∷ []
unfolding first_such
slotout_none = refl

slotout_no_page : failing (guards all_read (SlotOut 0 1 1)) ≡ (NoPage 1) ∷ []
unfolding first_such
slotout_no_page = refl

slotout_not_target : failing (guards all_read (SlotOut 0 0 2)) ≡ (NotTarget 2) ∷ []
unfolding first_such
slotout_not_target = refl

slotout_unacked : failing (guards (record all_read { view = λ n. unacked_view }) (SlotOut 0 0 0)) ≡ (Unacked 1) ∷ []
unfolding first_such
slotout_unacked = refl

slotout_not_read : failing (guards (record all_read { recovery = λ n. Some (record read_recovery { read = λ p l. l == 0 }) }) (SlotOut 0 0 0)) ≡ (NotRead 1) ∷ []
unfolding first_such
slotout_not_read = refl

slotout_bit_missing : failing (guards (record all_read { bitmap = λ n. record fresh_bitmap { set = λ c. true; marks = λ c l. l == 0 } }) (SlotOut 0 0 0)) ≡ (BitMissing 1) ∷ []
unfolding first_such
slotout_bit_missing = refl

recovered_not_up : failing (guards (record all_cleared { state = λ n. states.Loaded }) (Recovered 0)) ≡ (NotPhase parts.State words.Loaded) ∷ []
unfolding first_such
recovered_not_up = refl

recovered_none : failing (guards base (Recovered 0)) ≡ (NotPhase parts.Recovery words.Nothing) ∷ []
unfolding first_such
recovered_none = refl

recovered_unacked : failing (guards (record all_cleared { view = λ n. unacked_view }) (Recovered 0)) ≡ (Unacked 1) ∷ []
unfolding first_such
recovered_unacked = refl

recovered_not_read : failing (guards (record all_cleared { recovery = λ n. Some (record cleared_recovery { read = λ p l. l == 1 }) }) (Recovered 0)) ≡ (NotRead 0) ∷ []
unfolding first_such
recovered_not_read = refl

recovered_not_written : failing (guards (record all_cleared { recovery = λ n. Some (record cleared_recovery { cleared = λ p l. l == 1 }) }) (Recovered 0)) ≡ (NotWritten 0) ∷ []
unfolding first_such
recovered_not_written = refl

recovered_needed : failing (guards (record all_cleared { bitmap = λ n. record fresh_bitmap { need = λ c. true } }) (Recovered 0)) ≡ (Needed 2) ∷ []
unfolding first_such
recovered_needed = refl

slotout_not_up : failing (guards (record all_read { state = λ n. states.Loaded }) (SlotOut 0 0 0)) ≡ (NotPhase parts.State words.Loaded) ∷ []
unfolding first_such
slotout_not_up = refl
