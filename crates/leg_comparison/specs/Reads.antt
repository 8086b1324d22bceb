-- Reads of legs, over no node's path.
use Rattle.std.specs.Prelude.{◌≡◌, ◌<◌, ◌+◌, ℕ, false, List, [], ◌∷◌, reverse, length, Ok, Err}
use Rattle.mdc_types.specs.Geometry.{Sizes, data_offset}
use Rattle.mdc_types.specs.declared.numbers.Sector.{Sector}
use Rattle.mdc_types.specs.declared.failed.Failed.{Failed}
use Rattle.crew_check.specs.Rows.{Kept, IsKeptOf}
use Rattle.world_state.specs.Told.{LegsSeen, Received, told_by}

-- reads of a leg, one sector after another from its first data sector on, gave these, the last one
-- first
abbrev pub Gave : Sizes → ℕ → LegsSeen → List Sector → LegsSeen → Type 0
Gave g l start [] end = end ≡ start
Gave g l start (v ∷ earlier) end = (mid : LegsSeen)
    × Gave g l start earlier mid
    × Received false l (data_offset g + length earlier) (Ok v) mid end

-- all data sectors of a leg were read, and these are what it gave
pub record GaveAll (g : Sizes) (l : ℕ) (start : LegsSeen) (sectors : List Sector)
    (end : LegsSeen) : Type 0 where
  pub all : length sectors ≡ g.room
  pub gave : Gave g l start (reverse sectors) end

-- a read of a data sector failed, and those before it didn't
pub record Failing (g : Sizes) (l : ℕ) (start end : LegsSeen) : Type 0 where
  pub sectors : List Sector
  pub mid : LegsSeen
  pub gave : Gave g l start (reverse sectors) mid
  pub few : length sectors < g.room
  pub why : Failed
  pub failed : Received false l (data_offset g + length sectors) (Err why) mid end

-- the legs hold what they held, and are as long
pub record HoldSame (before now : LegsSeen) : Type 0 where
  pub contents : told_by now ≡ told_by before
  pub sizes : now.sizes ≡ before.sizes

-- a leg, and its data sectors in their order
pub record Row : Type 0 where
  pub leg : ℕ
  pub sectors : List Sector

-- all data sectors of these legs were read, leg after leg, the last one first
abbrev pub AllGave : Sizes → LegsSeen → List Row → LegsSeen → Type 0
AllGave g start [] end = end ≡ start
AllGave g start (row ∷ earlier) end = (mid : LegsSeen)
    × AllGave g start earlier mid × GaveAll g row.leg mid row.sectors end

abbrev pub legs_in : List Row → List ℕ
legs_in [] = []
legs_in (row ∷ rows) = row.leg ∷ legs_in rows

abbrev pub sectors_in : List Row → List (List Sector)
sectors_in [] = []
sectors_in (row ∷ rows) = row.sectors ∷ sectors_in rows

-- a leg was read whole, and is one row more of those that are compared
pub record TakesIn (g : Sizes) (l : ℕ) (before now : LegsSeen) (kept later : Kept) : Type 0 where
  pub sectors : List Sector
  pub gave : GaveAll g l before sectors now
  pub adds : (rows : List (List Sector)) → IsKeptOf g.room rows kept
      → IsKeptOf g.room (sectors ∷ rows) later
