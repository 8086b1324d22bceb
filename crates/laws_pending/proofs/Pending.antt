-- Pending slots: what each has to say still, its heirs, and the leg that was to work when it became
-- pending.
use Rattle.std.specs.Prelude.{◌≡◌, ℕ, ◌<◌, ◌≤◌, true, false, ◌||◌, Some, is_some}
use Rattle.mdc_types.specs.Roles.{is_working}
use Rattle.laws_roles.proofs.Parts.{promotes, wished, number}
use Rattle.storage_ways.proofs.Parts.{Part, chunk_in, recovers, found_in, read_in}
use Rattle.laws_writes.proofs.Ghosts.{Ghost, undecided}
use Rattle.laws_writes.proofs.Settled.{Since}
use Rattle.laws_pending.proofs.Ghosts.{Pend, serves, calls}

-- Legs that there are: pages are read from them, and current superblocks stand on them.

abbrev pub ReadLeg : Part → Type 0
ReadLeg w = (n p l : ℕ) → read_in (w.recovery n) p l ≡ true → l < w.geometry.legs

abbrev pub SuperLeg : Part → Type 0
SuperLeg w = (k : ℕ) → w.completed ≤ number (w.super k) → k < w.geometry.legs

-- Heirs.

abbrev pub BornNow : Part → Pend → Type 0
BornNow w p = (d : ℕ) → w.pending d ≡ true → p.born d ≤ p.count

-- along the line of heirs slots became pending later and later
abbrev pub Line : Part → Pend → Type 0
Line w p = (d h : ℕ) → w.pending d ≡ true → w.heir d ≡ Some h → w.pending h ≡ true
    → p.born d < p.born h

-- what was settled since the heir began, or became pending, was settled since the slot is pending
abbrev pub SinceLine : Part → Since → Type 0
SinceLine w z = (d h s : ℕ) → w.pending d ≡ true → w.heir d ≡ Some h
    → (w.pending h || recovers (w.recovery h) d) ≡ true → z.since h s ≡ true → z.since d s ≡ true

abbrev pub WasHeir : Part → Pend → Type 0
WasHeir w p = (n d : ℕ) → w.pending n ≡ true → p.was n ≡ Some d → w.heir d ≡ Some n

-- a sector that was settled since, and is undecided, has a write that started since
abbrev pub SinceYoung : Part → Ghost → Since → Pend → Type 0
SinceYoung w g z p = (d s : ℕ) → w.pending d ≡ true → z.since d s ≡ true → undecided g s ≡ true
    → p.young d s ≡ true

-- The leg that is to work.

-- while a slot is pending no other leg comes to be offered to work
abbrev pub WorkPending : Part → Pend → Type 0
WorkPending w p = (d n l : ℕ) → w.pending d ≡ true → wished promotes (w.offer n) l ≡ true
    → p.promoted d l ≡ true

abbrev pub OnePromoted : Part → Pend → Type 0
OnePromoted w p = (d l k : ℕ) → w.pending d ≡ true → p.promoted d l ≡ true
    → p.promoted d k ≡ true → l ≡ k

-- once that leg works, the good legs are those that are agreed to work
abbrev pub Solo : Part → Pend → Type 0
Solo w p = (d l x : ℕ) → w.pending d ≡ true → p.promoted d l ≡ true
    → is_working (w.ghost.agreed.role l) ≡ true → w.ghost.good x ≡ true
    → is_working (w.ghost.agreed.role x) ≡ true

-- Marks that stay.

abbrev pub Full : Part → Pend → Type 0
Full w p = (d c l : ℕ) → w.pending d ≡ true → p.full d c ≡ true → p.moved d c ≡ false
    → w.ghost.good l ≡ true → l < w.geometry.legs → w.bit d c l ≡ true

-- on legs that are trusted, but the one that was to work
abbrev pub OwedServed : Part → Pend → Type 0
OwedServed w p = (d c l n : ℕ) → w.pending d ≡ true → p.owed d c ≡ true → p.moved d c ≡ false
    → serves w n l ≡ true → l < w.geometry.legs → p.promoted d l ≡ false → w.bit d c l ≡ true

abbrev pub OwedCalled : Part → Pend → Type 0
OwedCalled w p = (d c l k : ℕ) → w.pending d ≡ true → p.owed d c ≡ true → p.moved d c ≡ false
    → calls w k l ≡ true → l < w.geometry.legs → p.promoted d l ≡ false → w.bit d c l ≡ true

-- What was moved, and isn't settled since: its live heir has found it, and marks it on each good leg.

abbrev pub MovedFound : Part → Since → Pend → Type 0
MovedFound w z p = (d h s : ℕ) → w.pending d ≡ true → s < w.geometry.room
    → p.moved d (chunk_in w s) ≡ true → z.since d s ≡ false → w.heir d ≡ Some h
    → w.pending h ≡ false → recovers (w.recovery h) d ≡ true

abbrev pub MovedKept : Part → Since → Pend → Type 0
MovedKept w z p = (d h s : ℕ) → w.pending d ≡ true → s < w.geometry.room
    → p.moved d (chunk_in w s) ≡ true → z.since d s ≡ false → w.heir d ≡ Some h
    → w.pending h ≡ false → found_in (w.recovery h) (chunk_in w s) ≡ true

abbrev pub MovedBit : Part → Since → Pend → Type 0
MovedBit w z p = (d h s l : ℕ) → w.pending d ≡ true → s < w.geometry.room
    → p.moved d (chunk_in w s) ≡ true → z.since d s ≡ false → w.heir d ≡ Some h
    → w.pending h ≡ false → w.ghost.good l ≡ true → w.bit h (chunk_in w s) l ≡ true

abbrev pub MovedHeir : Part → Since → Pend → Type 0
MovedHeir w z p = (d s : ℕ) → w.pending d ≡ true → s < w.geometry.room
    → p.moved d (chunk_in w s) ≡ true → z.since d s ≡ false → is_some (w.heir d) ≡ true

-- a pending heir marked it on each good leg
abbrev pub MovedFull : Part → Since → Pend → Type 0
MovedFull w z p = (d h s : ℕ) → w.pending d ≡ true → s < w.geometry.room
    → p.moved d (chunk_in w s) ≡ true → z.since d s ≡ false → w.heir d ≡ Some h
    → w.pending h ≡ true → p.full h (chunk_in w s) ≡ true

pub record Pendings (w : Part) (g : Ghost) (z : Since) (p : Pend) : Type 0 where
  pub read_leg : ReadLeg w
  pub super_leg : SuperLeg w
  pub born_now : BornNow w p
  pub line : Line w p
  pub since_line : SinceLine w z
  pub was_heir : WasHeir w p
  pub since_young : SinceYoung w g z p
  pub work_pending : WorkPending w p
  pub one_promoted : OnePromoted w p
  pub solo : Solo w p
  pub full : Full w p
  pub owed_served : OwedServed w p
  pub owed_called : OwedCalled w p
  pub moved_found : MovedFound w z p
  pub moved_kept : MovedKept w z p
  pub moved_bit : MovedBit w z p
  pub moved_heir : MovedHeir w z p
  pub moved_full : MovedFull w z p
