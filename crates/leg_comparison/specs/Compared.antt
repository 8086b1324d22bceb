-- What a comparison of legs tells.
use Rattle.std.specs.Prelude.{◌≡◌, ◌<◌, ◌+◌, ℕ, true, map, reverse, List, [], ◌∷◌, Option, Some, None}
use Rattle.std.specs.List.{range_with_len}
use Rattle.leg_failure.specs.Views.{works}
use Rattle.mdc_types.specs.Geometry.{Sizes, data_offset}
use Rattle.mdc_types.specs.declared.numbers.Sector.{Sector}
use Rattle.cluster_model.specs.State.{Core, Legs, sizes}
use Rattle.crew_check.specs.Rows.{first_where_two_differ}
use Rattle.driver_rules.specs.Wants.{least_member}
use Rattle.driver_rules.specs.Storms.{those_below}
use Rattle.world_state.specs.Told.{LegsSeen}
use Rattle.leg_comparison.specs.Reads.{Failing, Row, AllGave, legs_in, sectors_in}
use Rattle.leg_comparison.specs.declared.comparing.Comparison.{Comparison}
use Rattle.leg_comparison.specs.declared.comparing.Comparison.TheVariants.{Equal, Differ, Unread}

-- the least sector in which two differ, if there is one
abbrev pub told : Option ℕ → Comparison
told None = Equal
told (Some s) = Differ s

-- the legs below l that the node reads from, in rising order
abbrev pub working_below : Core → ℕ → ℕ → List ℕ
working_below core n l = those_below (works (core.view n)) l

-- The legs that the least member reads from are read whole, leg after leg in rising order. The
-- first read that fails ends it.
pub data Compares (core : Core) (before now : LegsSeen) (answer : Comparison) : Type 0 where
  -- there is no member: nothing is read
  Nobody : least_member core ≡ None → now ≡ before → answer ≡ Equal
      → Compares core before now answer
  -- all were read
  AllRead : (n : ℕ) (rows : List Row) → least_member core ≡ Some n
      → legs_in rows ≡ reverse (working_below core n 8)
      → AllGave (sizes core) before rows now
      → answer ≡ told (first_where_two_differ (sizes core).room (sectors_in rows))
      → Compares core before now answer
  -- a leg's read failed
  ReadFailed : (n l : ℕ) (rows : List Row) (mid : LegsSeen) → least_member core ≡ Some n
      → works (core.view n) l ≡ true → l < 8
      → legs_in rows ≡ reverse (working_below core n l)
      → AllGave (sizes core) before rows mid → Failing (sizes core) l mid now
      → answer ≡ Unread l → Compares core before now answer

-- Where legs tell what they hold.

-- the data sectors of a leg
abbrev pub data_of : Sizes → Legs → ℕ → List Sector
data_of g legs l = map (λ s. legs.content l (data_offset g + s)) (range_with_len 0 g.room)

abbrev pub data_of_all : Sizes → Legs → List ℕ → List (List Sector)
data_of_all g legs [] = []
data_of_all g legs (l ∷ ls) = data_of g legs l ∷ data_of_all g legs ls

-- what a comparison tells that reads all
abbrev pub difference : Core → Legs → ℕ → Comparison
difference core legs n = told (first_where_two_differ (sizes core).room
    (data_of_all (sizes core) legs (reverse (working_below core n 8))))

-- where all legs that the least member reads from tell what they hold, and no read fails, the
-- answer is a function of that
abbrev pub TellsOfContents : Core → Legs → Comparison → Type 0
TellsOfContents core legs answer = (n : ℕ) → least_member core ≡ Some n
    → ((l : ℕ) → works (core.view n) l ≡ true → legs.told l ≡ true)
    → ((l : ℕ) → answer ≡ Unread l → ⊥) → answer ≡ difference core legs n
