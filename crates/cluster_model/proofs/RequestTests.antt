-- Writes, reads and bits: for each guard a state in which just it fails, and what is said then.
use Rattle.std.proofs.Common.{◌≡◌, true, ◌==◌, [], ◌∷◌, Some, refl}
use Rattle.dlm_modes.specs.First.{first_such}
use Rattle.mdc_types.specs.declared.events.Event.TheVariants.{AskWrite, WritePage, Out, EndWrite, BreakWrite, AskRead, In, Clear}
use Rattle.mdc_types.specs.declared.refusals.Refusal.TheVariants.{NoLeg, NotPhase, NoSector, NoPage, NoChunk, NoWrite, NoRead, NotNeeded, Unacked, Draining, NotTarget, NotWritten, BitMissing, Suspended, InFlight, Full, Needed, Degraded}
use Rattle.mdc_types.specs.declared.refusals.Part.TheVariants as parts
use Rattle.mdc_types.specs.declared.refusals.Word.TheVariants as words
use Rattle.mdc_types.specs.declared.roles.NodeState.TheVariants as states
use Rattle.mdc_types.specs.declared.roles.Role.TheVariants as roles
use Rattle.mdc_types.specs.declared.events.Wish.TheVariants as wishes
use Rattle.msg_rounds.specs.declared.phases.SenderPhase.TheVariants as senders
use Rattle.cluster_model.specs.Table.{guards}
use Rattle.cluster_model.proofs.Small.{failing, if_at, calls_leg, unacked_view, fresh_bitmap, base, a_meta, a_range, v, a_write, a_read, writes_at, many_writes, many_reads, writing, done_writing, clearing}

w_not_up : failing (guards (record base { state = λ n. states.Loaded }) (AskWrite 0 5 v)) ≡ (NotPhase parts.State words.Loaded) ∷ []
unfolding first_such
w_not_up = refl

w_leaving : failing (guards (record base { sender = λ n. senders.Granted; offer = λ n. Some (record a_meta { wish = wishes.Unclean }) }) (AskWrite 0 5 v)) ≡ (NotPhase parts.Sender words.Granted) ∷ []
unfolding first_such
w_leaving = refl

w_no_sector : failing (guards base (AskWrite 0 12 v)) ≡ (NoSector 12) ∷ []
unfolding first_such
w_no_sector = refl

w_suspended : failing (guards (record base { suspended = λ n o. if_at o 3 (Some a_range) }) (AskWrite 0 5 v)) ≡ (Suspended 3) ∷ []
unfolding first_such
w_suspended = refl

w_in_flight : failing (guards (record base { writes = λ n. writes_at n 1 }) (AskWrite 0 5 v)) ≡ (InFlight 1) ∷ []
unfolding first_such
w_in_flight = refl

w_full : failing (guards (record base { writes = λ n. many_writes }) (AskWrite 0 5 v)) ≡ (Full 0) ∷ []
unfolding first_such
w_full = refl

out_no_leg : failing (guards writing (Out 0 7 5)) ≡ (NoLeg 5) ∷ (NotTarget 5) ∷ []
unfolding first_such
out_no_leg = refl

out_not_up : failing (guards (record writing { state = λ n. states.Loaded }) (Out 0 7 1)) ≡ (NotPhase parts.State words.Loaded) ∷ []
unfolding first_such
out_not_up = refl

out_no_write : failing (guards writing (Out 0 8 1)) ≡ (NoWrite 8) ∷ []
unfolding first_such
out_no_write = refl

out_not_target : failing (guards writing (Out 0 7 2)) ≡ (NotTarget 2) ∷ []
unfolding first_such
out_not_target = refl

out_unacked : failing (guards (record writing { view = λ n. unacked_view }) (Out 0 7 0)) ≡ (Unacked 1) ∷ []
unfolding first_such
out_unacked = refl

out_bit_missing : failing (guards (record writing { bitmap = λ n. record fresh_bitmap { marks = λ c l. l == 0 } }) (Out 0 7 0)) ≡ (BitMissing 1) ∷ []
unfolding first_such
out_bit_missing = refl

ok_not_up : failing (guards (record done_writing { state = λ n. states.Loaded }) (EndWrite 0 7)) ≡ (NotPhase parts.State words.Loaded) ∷ []
unfolding first_such
ok_not_up = refl

ok_no_write : failing (guards done_writing (EndWrite 0 8)) ≡ (NoWrite 8) ∷ []
unfolding first_such
ok_no_write = refl

ok_unacked : failing (guards (record done_writing { view = λ n. unacked_view }) (EndWrite 0 7)) ≡ (Unacked 1) ∷ []
unfolding first_such
ok_unacked = refl

ok_not_written : failing (guards writing (EndWrite 0 7)) ≡ (NotWritten 0) ∷ []
unfolding first_such
ok_not_written = refl

break_not_up : failing (guards (record writing { state = λ n. states.Loaded; view = λ n. unacked_view }) (BreakWrite 0 7)) ≡ (NotPhase parts.State words.Loaded) ∷ []
unfolding first_such
break_not_up = refl

break_no_write : failing (guards (record writing { view = λ n. unacked_view }) (BreakWrite 0 8)) ≡ (NoWrite 8) ∷ []
unfolding first_such
break_no_write = refl

break_not_needed : failing (guards writing (BreakWrite 0 7)) ≡ NotNeeded ∷ []
unfolding first_such
break_not_needed = refl

r_not_up : failing (guards (record base { state = λ n. states.Loaded }) (AskRead 0 5)) ≡ (NotPhase parts.State words.Loaded) ∷ []
unfolding first_such
r_not_up = refl

r_leaving : failing (guards (record base { sender = λ n. senders.Granted; offer = λ n. Some (record a_meta { wish = wishes.Unclean }) }) (AskRead 0 5)) ≡ (NotPhase parts.Sender words.Granted) ∷ []
unfolding first_such
r_leaving = refl

r_no_sector : failing (guards base (AskRead 0 12)) ≡ (NoSector 12) ∷ []
unfolding first_such
r_no_sector = refl

r_full : failing (guards (record base { reads = λ n. many_reads }) (AskRead 0 5)) ≡ (Full 0) ∷ []
unfolding first_such
r_full = refl

in_not_up : failing (guards (record base { state = λ n. states.Loaded; reads = λ n. a_read ∷ [] }) (In 0 5)) ≡ (NotPhase parts.State words.Loaded) ∷ []
unfolding first_such
in_not_up = refl

in_no_read : failing (guards base (In 0 5)) ≡ (NoRead 5) ∷ []
unfolding first_such
in_no_read = refl

bit_no_leg : failing (guards base (WritePage 0 0 5)) ≡ (NoLeg 5) ∷ (NotTarget 5) ∷ []
unfolding first_such
bit_no_leg = refl

bit_not_up : failing (guards (record base { state = λ n. states.Loaded }) (WritePage 0 0 1)) ≡ (NotPhase parts.State words.Loaded) ∷ []
unfolding first_such
bit_not_up = refl

bit_no_page : failing (guards base (WritePage 0 1 1)) ≡ (NoPage 1) ∷ []
unfolding first_such
bit_no_page = refl

bit_not_target : failing (guards base (WritePage 0 0 2)) ≡ (NotTarget 2) ∷ []
unfolding first_such
bit_not_target = refl

clear_not_up : failing (guards (record clearing { state = λ n. states.Loaded }) (Clear 0 1)) ≡ (NotPhase parts.State words.Loaded) ∷ []
unfolding first_such
clear_not_up = refl

clear_no_chunk : failing (guards clearing (Clear 0 4)) ≡ (NoChunk 4) ∷ []
unfolding first_such
clear_no_chunk = refl

clear_not_needed : failing (guards base (Clear 0 1)) ≡ NotNeeded ∷ []
unfolding first_such
clear_not_needed = refl

clear_draining : failing (guards (record clearing { writes = λ n. a_write ∷ [] }) (Clear 0 1)) ≡ (Draining 7) ∷ []
unfolding first_such
clear_draining = refl

clear_needed : failing (guards (record clearing { bitmap = λ n. record fresh_bitmap { set = λ c. true; need = λ c. true } }) (Clear 0 1)) ≡ (Needed 1) ∷ []
unfolding first_such
clear_needed = refl

clear_unacked : failing (guards (record clearing { view = λ n. unacked_view }) (Clear 0 1)) ≡ (Unacked 1) ∷ []
unfolding first_such
clear_unacked = refl

clear_degraded : failing (guards (record clearing { view = λ n. calls_leg roles.Rebuilding }) (Clear 0 1)) ≡ (Degraded 2) ∷ []
unfolding first_such
clear_degraded = refl
