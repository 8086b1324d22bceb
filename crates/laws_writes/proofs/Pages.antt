-- What an open recovery has read of its slot, and cleared there.
use Rattle.std.specs.Prelude.{◌≡◌, ℕ, true, false, None}
use Rattle.mdc_types.specs.Geometry.{page_of}
use Rattle.storage_ways.proofs.Parts.{Part, recovers, found_in, read_in, cleared_in, is_heir}

abbrev pub NoHeir : Part → Type 0
NoHeir w = (d : ℕ) → w.pending d ≡ false → w.heir d ≡ None

abbrev pub RecoveryHeir : Part → Type 0
RecoveryHeir w = (n d : ℕ) → recovers (w.recovery n) d ≡ true → is_heir (w.heir d) n ≡ true

-- each chunk that stands on a page that was read was found
abbrev pub ReadFound : Part → Type 0
ReadFound w = (n d c l : ℕ) → recovers (w.recovery n) d ≡ true
    → read_in (w.recovery n) (page_of c) l ≡ true → w.bit d c l ≡ true
    → found_in (w.recovery n) c ≡ true

abbrev pub Cleared : Part → Type 0
Cleared w = (n d c l : ℕ) → recovers (w.recovery n) d ≡ true
    → cleared_in (w.recovery n) (page_of c) l ≡ true → w.bit d c l ≡ false

pub record Pages (w : Part) : Type 0 where
  pub no_heir : NoHeir w
  pub recovery_heir : RecoveryHeir w
  pub read_found : ReadFound w
  pub cleared : Cleared w
