-- When a sector is settled that completes its chunk, no other sector of the chunk is undecided.
use Rattle.std.proofs.Common.{◌≡◌, ◌≢◌, ℕ, ◌==◌, if◌then◌else◌, Bool, true, false, Some, None, refl, ap, arith}
use Rattle.std.specs.Prelude.{is_some}
use Rattle.std.proofs.lemmas.Bool.Decides.{nat_tests}
use Rattle.dlm_modes.specs.Points.{with_at}
use Rattle.mdc_types.specs.Geometry.{Sizes, chunk_of}
use Rattle.node_bitmaps.specs.Bitmap.{Bitmap}
use Rattle.resync_worker.specs.Copying.{Passing, completes, settled_at}
use Rattle.resync_worker.specs.Sectors.{ends_chunk}
use Rattle.resync_worker.specs.declared.buffer.Buffer.{Buffer}
use Rattle.cluster_model.specs.Copying.{need_met}
use Rattle.storage_ways.proofs.Parts.{Part, chunk_in}
use Rattle.storage_ways.proofs.Sound.{Sound}
use Rattle.storage_ways.proofs.Ways.{Settles}
use Rattle.laws_writes.proofs.Ghosts.{Ghost, undecided}
use Rattle.laws_writes.proofs.Contents.{Contents}
use Rattle.laws_writes.proofs.Places.{before_next, past_last}

pub need_met_at : (g : Sizes) (m : Bitmap) (b : Buffer) (c : ℕ) → (ends_chunk g b.sector ≡ true → (c == chunk_of g b.sector) ≡ false)
    → (need_met m (completes g b)).need c ≡ m.need c
need_met_at g m b c other = by (ends_chunk g b.sector) refl
  where
    by : (x : Bool) → ends_chunk g b.sector ≡ x → (need_met m (if x then Some (chunk_of g b.sector) else None)).need c ≡ m.need c
    by true e = let apart = other e in grind arith
    by false e = refl

pub todo_at : (g : Sizes) (p : Passing) (b : Buffer) (c : ℕ) → (ends_chunk g b.sector ≡ true → (c == chunk_of g b.sector) ≡ false)
    → (settled_at g p b).todo c ≡ p.todo c
todo_at g p b c other = by (ends_chunk g b.sector) refl
  where
    by : (x : Bool) → ends_chunk g b.sector ≡ x → (if x then with_at p.todo (chunk_of g b.sector) false else p.todo) c ≡ p.todo c
    by true e = let apart = other e in grind arith
    by false e = refl

pub apart_when_settled : (w : Part) (g : Ghost) → Sound w → Contents w g → (n : ℕ) (p : Passing) (b : Buffer) → Settles w n p b
    → (t : ℕ) → undecided g t ≡ true → (t == b.sector) ≡ false
    → ends_chunk w.geometry b.sector ≡ true → (chunk_in w t == chunk_in w b.sector) ≡ false
apart_when_settled w g s c n p b x t two other last = by (chunk_in w t == chunk_in w b.sector) refl
  where
    by : (y : Bool) → (chunk_in w t == chunk_in w b.sector) ≡ y → y ≡ false
    by true e =
        let same : chunk_in w t ≡ chunk_in w b.sector = grind (arith, nat_tests) in
        let apart : t ≢ b.sector = grind (arith, nat_tests) in
        let lower = past_last w.geometry t b.sector s.within.geometry last same (c.undecided_within t two) apart in
        let next = c.buffer_place n p b x.buffers.pass x.buffers.buffer in
        let done = before_next w n t b.sector s.within.geometry (ap is_some x.buffers.pass) next same lower in
        let decided = c.settled_decided n t done in cc
    by false e = refl

pub need_when_settled : (w : Part) (g : Ghost) → Sound w → Contents w g → (n : ℕ) (p : Passing) (b : Buffer) → Settles w n p b
    → (t : ℕ) → undecided g t ≡ true → (t == b.sector) ≡ false
    → (need_met (w.bitmap n) (completes w.geometry b)).need (chunk_in w t) ≡ (w.bitmap n).need (chunk_in w t)
need_when_settled w g s c n p b x t two other =
    need_met_at w.geometry (w.bitmap n) b (chunk_in w t) (λ last. apart_when_settled w g s c n p b x t two other last)

pub todo_when_settled : (w : Part) (g : Ghost) → Sound w → Contents w g → (n : ℕ) (p : Passing) (b : Buffer) → Settles w n p b
    → (t : ℕ) → undecided g t ≡ true → (t == b.sector) ≡ false
    → (settled_at w.geometry p b).todo (chunk_in w t) ≡ p.todo (chunk_in w t)
todo_when_settled w g s c n p b x t two other =
    todo_at w.geometry p b (chunk_in w t) (λ last. apart_when_settled w g s c n p b x t two other last)
