-- What is wrong with the slots of a leg, and the bits that stand in them.
use Rattle.std.specs.Prelude.{◌≡◌, ℕ, ◌<◌, nat_lt, Bool, not, ◌&&◌, ◌||◌, false, List, get_or}
use Rattle.std.specs.Prelude.{Option, Some, None, is_some}
use Rattle.dlm_modes.specs.First.{first_such}
use Rattle.mdc_types.specs.Geometry.{Sizes, slot_pages, page_of, page_sector}
use Rattle.mdc_types.specs.Sectors.{zero_sector, IsSector}
use Rattle.mdc_types.specs.declared.numbers.Sector.{Sector}
use Rattle.slot_pages.specs.Faults.{slot_fault}
use Rattle.slot_pages.specs.Slot.{page_has}

-- page p of slot k, among the leg's sectors
abbrev pub page_bytes : Sizes → List Sector → ℕ → ℕ → List ℕ
page_bytes g leg k p = (get_or leg (page_sector g k p) zero_sector).bytes

abbrev pub page_is_wrong : Sizes → List ℕ → List Sector → ℕ → ℕ → Bool
page_is_wrong g uuid leg k p = is_some (slot_fault g uuid p (page_bytes g leg k p))

-- some page of the slot is wrong, also one that isn't in use
abbrev pub slot_is_wrong : Sizes → List ℕ → List Sector → ℕ → Bool
slot_is_wrong g uuid leg k =
    is_some (first_such (page_is_wrong g uuid leg k) 0 (slot_pages g))

-- the bit of chunk c stands in slot k
abbrev pub slot_bit : Sizes → List Sector → ℕ → ℕ → Bool
slot_bit g leg k c = page_has g (page_of c) (page_bytes g leg k (page_of c)) c

-- a slot was judged, where the leg tells what it holds
abbrev pub JudgesSlot : Option (List Sector) → Sizes → List ℕ → ℕ → Bool → Type 0
JudgesSlot None g uuid k sound = Unit {0}
JudgesSlot (Some leg) g uuid k sound = sound ≡ not (slot_is_wrong g uuid leg k)

-- the old chunks, and those that stand in the first n pages of the slot
pub record AddsPages (g : Sizes) (leg : List Sector) (k n : ℕ) (old new : List Bool) : Type 0 where
  pub each : (c : ℕ)
      → get_or new c false ≡ (get_or old c false || (nat_lt (page_of c) n && slot_bit g leg k c))

abbrev pub AddsTo : Option (List Sector) → Sizes → ℕ → ℕ → List Bool → List Bool → Type 0
AddsTo None g k n old new = Unit {0}
AddsTo (Some leg) g k n old new = AddsPages g leg k n old new

-- the old chunks, and those of the slot, where the leg tells what it holds
abbrev pub AddsSlot : Option (List Sector) → Sizes → ℕ → List Bool → List Bool → Type 0
AddsSlot told g k old new = AddsTo told g k (slot_pages g) old new

-- the first n pages of the slot are sectors, where the leg tells what it holds
abbrev pub ArePages : Option (List Sector) → Sizes → ℕ → ℕ → Type 0
ArePages None g k n = Unit {0}
ArePages (Some leg) g k n = (p : ℕ) → p < n → IsSector (page_bytes g leg k p)
