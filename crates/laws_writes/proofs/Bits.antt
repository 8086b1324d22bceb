-- The bitmap of a node: its marks, what it needs to copy, its live writes, and the guard.
use Rattle.std.specs.Prelude.{◌≡◌, ℕ, ◌==◌, true}
use Rattle.storage_ways.proofs.Parts.{Part, chunk_in, write_of, writes_at}

-- where a bit surely stands it stands
abbrev pub MarkBit : Part → Type 0
MarkBit w = (n c l : ℕ) → (w.bitmap n).marks c l ≡ true → w.bit n c l ≡ true

abbrev pub NeedSet : Part → Type 0
NeedSet w = (n c : ℕ) → (w.bitmap n).need c ≡ true → (w.bitmap n).set c ≡ true

abbrev pub WriteSet : Part → Type 0
WriteSet w = (n k s : ℕ) → writes_at (write_of w n k) s ≡ true
    → (w.bitmap n).set (chunk_in w s) ≡ true

-- one live write of a sector
abbrev pub OneWriter : Part → Type 0
OneWriter w = (n m k j s : ℕ) → writes_at (write_of w n k) s ≡ true
    → writes_at (write_of w m j) s ≡ true → (n == m) ≡ true

abbrev pub OneWrite : Part → Type 0
OneWrite w = (n m k j s : ℕ) → writes_at (write_of w n k) s ≡ true
    → writes_at (write_of w m j) s ≡ true → (k == j) ≡ true

pub record Bits (w : Part) : Type 0 where
  pub mark_bit : MarkBit w
  pub need_set : NeedSet w
  pub write_set : WriteSet w
  pub one_writer : OneWriter w
  pub one_write : OneWrite w
