-- Which transfers of a leg fail, where that is told.
use Rattle.std.specs.Prelude.{◌≡◌, ℕ, ◌+◌, ◌-◌, ◌^◌, ◌==◌, Bool, min, if◌then◌else◌, List, []}
use Rattle.std.specs.Prelude.{◌∷◌, Option, Some, None, is_none}
use Rattle.mdc_types.specs.declared.numbers.Sector.{Sector}
use Rattle.leg_store.specs.Leg.{put}
use Rattle.leg_store.specs.declared.memory.Left.{Left}
use Rattle.leg_store.specs.declared.memory.Left.TheVariants.{Old, New}

-- a count of 64 bits, which stays at its last value
abbrev pub one_more : ℕ → ℕ
one_more count = min (count + 1) (2 ^ 64 - 1)

-- which transfers of a leg fail, and what a write leaves then, and how many there were
pub record Plan : Type 0 where
  pub failing : List (ℕ × Left)
  pub transfers : ℕ

-- what the first entry for this number says
abbrev pub entry_for : ℕ → List (ℕ × Left) → Option Left
entry_for number [] = None
entry_for number (entry ∷ entries) = if entry.0 == number then Some entry.1 else entry_for number entries

-- how the next transfer fails: None where it succeeds
abbrev pub planned_failure : Plan → Option Left
planned_failure p = entry_for p.transfers p.failing

abbrev pub one_later : Plan → Plan
one_later p = record p { transfers = one_more p.transfers }

-- a transfer went as the plan says, where the leg tells it
abbrev pub GoesByPlan : Option Plan → Bool → Option Plan → Type 0
GoesByPlan None succeeds later = later ≡ None
GoesByPlan (Some p) succeeds later =
    (succeeds ≡ is_none (planned_failure p)) × (later ≡ Some (one_later p))

-- what a write leaves that fails so, or doesn't fail
abbrev pub LeftAs : Option Left → Option (List Sector) → ℕ → Sector → Option (List Sector)
    → Type 0
LeftAs None old at v new = new ≡ put old at v
LeftAs (Some New) old at v new = new ≡ put old at v
LeftAs (Some Old) old at v new = new ≡ old

-- a write leaves what the plan says
abbrev pub LeavesByPlan : Option Plan → Option (List Sector) → ℕ → Sector → Option (List Sector)
    → Type 0
LeavesByPlan None old at v new = Unit {0}
LeavesByPlan (Some p) old at v new = LeftAs (planned_failure p) old at v new
