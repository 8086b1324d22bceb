-- What each row keeps of a node's emptiness, where it is the node's own row and it is up.
use Rattle.std.proofs.Common.{◌≡◌, inl, inr, ℕ, Bool, true, not, Option, Some, None, refl, sym, ap, ◌∙◌, subst, arith, ◌&&◌}
use Rattle.std.specs.Option.{option_map}
use Rattle.dlm_modes.specs.Points.{with_at}
use Rattle.mdc_types.specs.declared.events.Event.TheVariants as events
use Rattle.mdc_types.specs.declared.numbers.Sector.{Sector}
use Rattle.mdc_types.specs.declared.outcomes.Outcome.{Outcome}
use Rattle.mdc_types.specs.declared.outcomes.Outcome.TheVariants as outcomes
use Rattle.mirror_io.specs.Flight.{write_in, read_in, start_in, done_in, without_write, without_read}
use Rattle.msg_rounds.specs.Phases.{has_published}
use Rattle.node_bitmaps.specs.Bitmap.{Bitmap}
use Rattle.resync_worker.specs.Copying.{copied}
use Rattle.node_recovery.specs.Progress.{Recovering}
use Rattle.resync_worker.specs.declared.buffer.Buffer.{Buffer}
use Rattle.cluster_model.specs.State.{Core, Copy}
use Rattle.cluster_model.specs.Phases.{is_unclean, offers}
use Rattle.cluster_model.specs.Changes.{headed, with_copy}
use Rattle.cluster_model.specs.Writes.{ask_write, out_done, write_sector, start_write, write_ended}
use Rattle.cluster_model.specs.Reads.{ask_read, end_read, read_sector}
use Rattle.cluster_model.specs.Bits.{clear, page_written}
use Rattle.cluster_model.specs.Passes.{ask_resync, end_pass}
use Rattle.cluster_model.specs.Copying.{next_sector, filled_with, buffer_of, buffer_sector, copied_out, settle_buffer}
use Rattle.cluster_model.specs.Recovering.{recover, page_found, page_cleared, slot_recovered}
use Rattle.cluster_model.specs.After.{done}
use Rattle.laws_locks.proofs.Keeping.{here}
use Rattle.laws_locks.proofs.Emptied.{other_at, same_or_not, Own}

here_at : {A : Type 0} (f : ℕ → A) (n : ℕ) (v : A) → with_at f n v n ≡ v
here_at f n v = rw (here n) refl

no_both : (b : Bool) → b ≡ true → not b ≡ true → ⊥
no_both b e f = grind arith

pub nothing_own : (core : Core) (n : ℕ) → Own core core n
nothing_own core n = record { state = refl; sender = refl; offer = refl; writes = λ m ne. refl; reads = λ m ne. refl; copy = λ m ne. refl; recovery = λ m ne. refl; set = λ m c ne. refl; need = λ m c ne. refl; no_writes = λ h e. e; no_reads = λ h e. e }

pub write_own : (core : Core) (n s : ℕ) (v : Sector) → not (has_published (core.sender n) && offers is_unclean (core.offer n)) ≡ true → Own (ask_write core n s v) core n
write_own core n s v g = record { state = refl; sender = refl; offer = refl; writes = λ m ne. other_at core.writes n _ m ne; reads = λ m ne. refl; copy = λ m ne. refl; recovery = λ m ne. refl; set = λ m c ne. ap (λ b. b.set c) (other_at core.bitmap n _ m ne); need = λ m c ne. ap (λ b. b.need c) (other_at core.bitmap n _ m ne); no_writes = λ h e. absurd (no_both _ h g); no_reads = λ h e. e }

pub read_own : (core : Core) (n s : ℕ) → not (has_published (core.sender n) && offers is_unclean (core.offer n)) ≡ true → Own (ask_read core n s) core n
read_own core n s g = record { state = refl; sender = refl; offer = refl; writes = λ m ne. refl; reads = λ m ne. other_at core.reads n _ m ne; copy = λ m ne. refl; recovery = λ m ne. refl; set = λ m c ne. refl; need = λ m c ne. refl; no_writes = λ h e. e; no_reads = λ h e. absurd (no_both _ h g) }

pub start_own : (core : Core) (n w : ℕ) → Own (start_write core n w) core n
start_own core n w = record { state = refl; sender = refl; offer = refl; writes = λ m ne. other_at core.writes n _ m ne; reads = λ m ne. refl; copy = λ m ne. refl; recovery = λ m ne. refl; set = λ m c ne. refl; need = λ m c ne. refl; no_writes = λ h e. here_at core.writes n _ ∙ ap (start_in w) e; no_reads = λ h e. e }

pub ended_own : (core : Core) (n w : ℕ) (b : Bool) → Own (write_ended core n w b) core n
ended_own core n w b = record { state = refl; sender = refl; offer = refl; writes = λ m ne. other_at core.writes n _ m ne; reads = λ m ne. refl; copy = λ m ne. refl; recovery = λ m ne. refl; set = λ m c ne. ap (λ b. b.set c) (other_at core.bitmap n _ m ne); need = λ m c ne. ap (λ b. b.need c) (other_at core.bitmap n _ m ne); no_writes = λ h e. here_at core.writes n _ ∙ ap (without_write w) e; no_reads = λ h e. e }

headed_write : (core : Core) (n w l : ℕ) (s : Option ℕ) → Own (record (headed core n l s) { writes = with_at core.writes n (done_in w l (start_in w (core.writes n))) }) core n
headed_write core n w l None = record { state = refl; sender = refl; offer = refl; writes = λ m ne. other_at core.writes n _ m ne; reads = λ m ne. refl; copy = λ m ne. refl; recovery = λ m ne. refl; set = λ m c ne. refl; need = λ m c ne. refl; no_writes = λ h e. here_at core.writes n _ ∙ ap (λ ws. done_in w l (start_in w ws)) e; no_reads = λ h e. e }
headed_write core n w l (Some s) = record { state = refl; sender = refl; offer = refl; writes = λ m ne. other_at core.writes n _ m ne; reads = λ m ne. refl; copy = λ m ne. refl; recovery = λ m ne. refl; set = λ m c ne. refl; need = λ m c ne. refl; no_writes = λ h e. here_at core.writes n _ ∙ ap (λ ws. done_in w l (start_in w ws)) e; no_reads = λ h e. e }

pub out_own : (core : Core) (n w l : ℕ) → Own (out_done core n w l) core n
out_own core n w l = headed_write core n w l (write_sector (write_in w (core.writes n)))

pub end_read_own : (core : Core) (n w : ℕ) → Own (end_read core n w) core n
end_read_own core n w = record { state = refl; sender = refl; offer = refl; writes = λ m ne. refl; reads = λ m ne. other_at core.reads n _ m ne; copy = λ m ne. refl; recovery = λ m ne. refl; set = λ m c ne. refl; need = λ m c ne. refl; no_writes = λ h e. e; no_reads = λ h e. here_at core.reads n _ ∙ ap (without_read w) e }

headed_read : (core : Core) (n w l : ℕ) (s : Option ℕ) → Own (headed (end_read core n w) n l s) core n
headed_read core n w l None = record { state = refl; sender = refl; offer = refl; writes = λ m ne. refl; reads = λ m ne. other_at core.reads n _ m ne; copy = λ m ne. refl; recovery = λ m ne. refl; set = λ m c ne. refl; need = λ m c ne. refl; no_writes = λ h e. e; no_reads = λ h e. here_at core.reads n _ ∙ ap (without_read w) e }
headed_read core n w l (Some s) = record { state = refl; sender = refl; offer = refl; writes = λ m ne. refl; reads = λ m ne. other_at core.reads n _ m ne; copy = λ m ne. refl; recovery = λ m ne. refl; set = λ m c ne. refl; need = λ m c ne. refl; no_writes = λ h e. e; no_reads = λ h e. here_at core.reads n _ ∙ ap (without_read w) e }

pub in_own : (core : Core) (n w : ℕ) (o : Outcome) → Own (done core (events.In n w) o) core n
in_own core n w (outcomes.Value l v) = headed_read core n w l (read_sector (read_in w (core.reads n)))
in_own core n w o = nothing_own core n

pub clear_own : (core : Core) (n c : ℕ) → Own (clear core n c) core n
clear_own core n c = record { state = refl; sender = refl; offer = refl; writes = λ m ne. refl; reads = λ m ne. refl; copy = λ m ne. refl; recovery = λ m ne. refl; set = λ m j ne. ap (λ b. b.set j) (other_at core.bitmap n _ m ne); need = λ m j ne. ap (λ b. b.need j) (other_at core.bitmap n _ m ne); no_writes = λ h e. e; no_reads = λ h e. e }

pub copy_own : (core : Core) (n : ℕ) (c : Copy) → Own (with_copy core n c) core n
copy_own core n c = record { state = refl; sender = refl; offer = refl; writes = λ m ne. refl; reads = λ m ne. refl; copy = λ m ne. other_at core.copy n _ m ne; recovery = λ m ne. refl; set = λ m c ne. refl; need = λ m c ne. refl; no_writes = λ h e. e; no_reads = λ h e. e }

pub ask_own : (core : Core) (n : ℕ) → Own (ask_resync core n) core n
ask_own core n = record { state = refl; sender = refl; offer = refl; writes = λ m ne. refl; reads = λ m ne. refl; copy = λ m ne. other_at core.copy n _ m ne; recovery = λ m ne. refl; set = λ m c ne. refl; need = λ m c ne. refl; no_writes = λ h e. e; no_reads = λ h e. e }

pub end_own : (core : Core) (n : ℕ) → Own (end_pass core n) core n
end_own core n = record { state = refl; sender = refl; offer = refl; writes = λ m ne. refl; reads = λ m ne. refl; copy = λ m ne. other_at core.copy n _ m ne; recovery = λ m ne. refl; set = λ m c ne. refl; need = λ m c ne. refl; no_writes = λ h e. e; no_reads = λ h e. e }

filled_own : (core : Core) (n l : ℕ) (s : Option ℕ) (v : Sector) → Own (filled_with core n s l v) core n
filled_own core n l None v = nothing_own core n
filled_own core n l (Some s) v = record { state = refl; sender = refl; offer = refl; writes = λ m ne. refl; reads = λ m ne. refl; copy = λ m ne. other_at core.copy n _ m ne; recovery = λ m ne. refl; set = λ m c ne. refl; need = λ m c ne. refl; no_writes = λ h e. e; no_reads = λ h e. e }

pub copy_in_own : (core : Core) (n : ℕ) (o : Outcome) → Own (done core (events.CopyIn n) o) core n
copy_in_own core n (outcomes.Value l v) = filled_own core n l (next_sector core n) v
copy_in_own core n o = nothing_own core n

headed_copy : (core : Core) (n l : ℕ) (s : Option ℕ) (f : Copy → Copy) → Own (with_copy (headed core n l s) n (f ((headed core n l s).copy n))) core n
headed_copy core n l None f = record { state = refl; sender = refl; offer = refl; writes = λ m ne. refl; reads = λ m ne. refl; copy = λ m ne. other_at core.copy n _ m ne; recovery = λ m ne. refl; set = λ m c ne. refl; need = λ m c ne. refl; no_writes = λ h e. e; no_reads = λ h e. e }
headed_copy core n l (Some s) f = record { state = refl; sender = refl; offer = refl; writes = λ m ne. refl; reads = λ m ne. refl; copy = λ m ne. other_at core.copy n _ m ne; recovery = λ m ne. refl; set = λ m c ne. refl; need = λ m c ne. refl; no_writes = λ h e. e; no_reads = λ h e. e }

pub copy_out_own : (core : Core) (n l : ℕ) → Own (copied_out core n l) core n
copy_out_own core n l = headed_copy core n l (buffer_sector (buffer_of core n)) (λ c. record c { pass = option_map (λ p. copied p l) c.pass })

pub settle_own : (core : Core) (n : ℕ) (b : Option Buffer) → Own (settle_buffer core n b) core n
settle_own core n None = nothing_own core n
settle_own core n (Some b) = record { state = refl; sender = refl; offer = refl; writes = λ m ne. refl; reads = λ m ne. refl; copy = λ m ne. other_at core.copy n _ m ne; recovery = λ m ne. refl; set = λ m c ne. ap (λ b. b.set c) (other_at core.bitmap n _ m ne); need = λ m c ne. ap (λ b. b.need c) (other_at core.bitmap n _ m ne); no_writes = λ h e. e; no_reads = λ h e. e }

pub recover_own : (core : Core) (n d : ℕ) → Own (recover core n d) core n
recover_own core n d = record { state = refl; sender = refl; offer = refl; writes = λ m ne. refl; reads = λ m ne. refl; copy = λ m ne. refl; recovery = λ m ne. other_at core.recovery n _ m ne; set = λ m c ne. refl; need = λ m c ne. refl; no_writes = λ h e. e; no_reads = λ h e. e }

pub recovered_own : (core : Core) (n : ℕ) (r : Option Recovering) → Own (slot_recovered core n r) core n
recovered_own core n None = nothing_own core n
recovered_own core n (Some r) = record { state = refl; sender = refl; offer = refl; writes = λ m ne. refl; reads = λ m ne. refl; copy = λ m ne. refl; recovery = λ m ne. other_at core.recovery n _ m ne; set = λ m c ne. refl; need = λ m c ne. refl; no_writes = λ h e. e; no_reads = λ h e. e }

found_own : (core : Core) (n : ℕ) (r : Option Recovering) (p l : ℕ) (v : Sector) → Own (page_found core n r p l v) core n
found_own core n None p l v = nothing_own core n
found_own core n (Some r) p l v = record { state = refl; sender = refl; offer = refl; writes = λ m ne. refl; reads = λ m ne. refl; copy = λ m ne. refl; recovery = λ m ne. other_at core.recovery n _ m ne; set = λ m c ne. ap (λ b. b.set c) (other_at core.bitmap n _ m ne); need = λ m c ne. ap (λ b. b.need c) (other_at core.bitmap n _ m ne); no_writes = λ h e. e; no_reads = λ h e. e }

pub slot_in_own : (core : Core) (n p l : ℕ) (o : Outcome) → Own (done core (events.SlotIn n p l) o) core n
slot_in_own core n p l (outcomes.Page v) = found_own core n (core.recovery n) p l v
slot_in_own core n p l o = nothing_own core n

-- a bitmap keeps its set and what it needs
pub marks_set : (bitmap : ℕ → Bitmap) (k : ℕ) (b : Bitmap) → b.set ≡ (bitmap k).set → (m c : ℕ) → (with_at bitmap k b m).set c ≡ (bitmap m).set c
marks_set bitmap k b e m c = elim (same_or_not m k) [
  | inl s ↦ subst (λ j. (with_at bitmap k b j).set c ≡ (bitmap j).set c) (sym s) (ap (λ (x : Bitmap). x.set c) (here_at bitmap k b) ∙ ap (λ f. f c) e)
  | inr ne ↦ ap (λ (x : Bitmap). x.set c) (other_at bitmap k b m ne)
]

pub marks_need : (bitmap : ℕ → Bitmap) (k : ℕ) (b : Bitmap) → b.need ≡ (bitmap k).need → (m c : ℕ) → (with_at bitmap k b m).need c ≡ (bitmap m).need c
marks_need bitmap k b e m c = elim (same_or_not m k) [
  | inl s ↦ subst (λ j. (with_at bitmap k b j).need c ≡ (bitmap j).need c) (sym s) (ap (λ (x : Bitmap). x.need c) (here_at bitmap k b) ∙ ap (λ f. f c) e)
  | inr ne ↦ ap (λ (x : Bitmap). x.need c) (other_at bitmap k b m ne)
]

pub cleared_own : (core : Core) (n : ℕ) (r : Option Recovering) (p l : ℕ) → Own (page_cleared core n r p l) core n
cleared_own core n None p l = nothing_own core n
cleared_own core n (Some r) p l = record { state = refl; sender = refl; offer = refl; writes = λ m ne. refl; reads = λ m ne. refl; copy = λ m ne. refl; recovery = λ m ne. other_at core.recovery n _ m ne; set = λ m c ne. marks_set core.bitmap r.slot _ refl m c; need = λ m c ne. marks_need core.bitmap r.slot _ refl m c; no_writes = λ h e. e; no_reads = λ h e. e }

pub page_own : (core : Core) (n p l : ℕ) → Own (page_written core n p l) core n
page_own core n p l = record { state = refl; sender = refl; offer = refl; writes = λ m ne. refl; reads = λ m ne. refl; copy = λ m ne. refl; recovery = λ m ne. refl; set = λ m c ne. marks_set core.bitmap n _ refl m c; need = λ m c ne. marks_need core.bitmap n _ refl m c; no_writes = λ h e. e; no_reads = λ h e. e }
