-- The data of the legs that work: their values, and where they differ and nothing is marked. The data
-- is a function of the leg and the sector.
use Rattle.std.specs.Prelude.{◌≡◌, ℕ, zero, suc, ◌+◌, ◌-◌, ◌<◌, ◌≤◌, Bool, true, not, ◌&&◌}
use Rattle.std.specs.Prelude.{if◌then◌else◌, List, [], length, get_or, Option, Some, None}
use Rattle.std.specs.Prelude.{Result, Ok, Err, is_some, unwrap_or}
use Rattle.std.specs.Option.{option_map}
use Rattle.std.specs.Str.{bytes_eq}
use Rattle.dlm_modes.specs.First.{first_such}
use Rattle.mdc_types.specs.Geometry.{nodes_of, chunk_of}
use Rattle.mdc_types.specs.Sectors.{zero_sector}
use Rattle.mdc_types.specs.declared.numbers.Sector.{Sector}
use Rattle.mdc_types.specs.declared.roles.Roles.{Roles}
use Rattle.image_faults.specs.Compare.{first_difference}
use Rattle.image_faults.specs.declared.faults.ImageFault.TheVariants.{Unmarked}
use Rattle.image_faults.specs.declared.faults.ImageError.{ImageError}
use Rattle.image_faults.specs.declared.faults.ImageError.TheVariants.{Image, Shelf, Device, Memory}
use Rattle.image_faults.specs.declared.legs.LegImage.{LegImage}
use Rattle.cluster_model.specs.Contents.{with_new}
use Rattle.image_array.specs.Legs.{sizes_at, mark_at}
use Rattle.image_array.specs.Heads.{works}
use Rattle.image_array.specs.declared.heads.Head.{Head}

-- the distinct values of one sector, in rising order of the legs below n that work
unfoldable pub values_of : Roles → (ℕ → Sector) → ℕ → List Sector
values_of roles at zero = []
values_of roles at (suc n) =
    if works roles n then with_new (at n) (values_of roles at n) else values_of roles at n

-- the least leg that works
abbrev pub first_working : Roles → ℕ
first_working roles = unwrap_or (first_such (works roles) 0 8) 0

-- leg l works, and differs from the first that works
abbrev pub differs : Roles → (ℕ → Sector) → ℕ → Bool
differs roles at l = works roles l && not (bytes_eq (at l).bytes (at (first_working roles)).bytes)

abbrev pub differing_leg : Roles → (ℕ → Sector) → Option ℕ
differing_leg roles at = first_such (differs roles at) 0 8

-- some slot marks chunk c on leg l
abbrev pub marks_on : List LegImage → ℕ → ℕ → Bool
marks_on images c l =
    is_some (first_such (λ k. mark_at images l k c) 0 (nodes_of (sizes_at images l)))

-- some slot marks chunk c on a leg that works
abbrev pub is_marked : List LegImage → Roles → ℕ → Bool
is_marked images roles c =
    is_some (first_such (λ l. works roles l && marks_on images c l) 0 8)

-- where legs that work differ in sector s and nothing marks its chunk: the leg that is told
abbrev pub unmarked_leg : Head → List LegImage → (ℕ → ℕ → Sector) → ℕ → Option ℕ
unmarked_leg h images stored s =
    if is_marked images h.roles (chunk_of h.geometry s) then None
    else differing_leg h.roles (λ l. stored l s)

abbrev pub is_unmarked : Head → List LegImage → (ℕ → ℕ → Sector) → ℕ → Bool
is_unmarked h images stored s = is_some (unmarked_leg h images stored s)

-- the first such sector from this one on, among so many
abbrev pub first_unmarked : Head → List LegImage → (ℕ → ℕ → Sector) → ℕ → ℕ → Option ℕ
first_unmarked h images stored from count = first_such (is_unmarked h images stored) from count

-- it is told with the first leg that works and differs there from the first leg that works
abbrev pub unmarked_error : Head → List LegImage → (ℕ → ℕ → Sector) → ℕ → ImageError
unmarked_error h images stored s =
    Image (unwrap_or (unmarked_leg h images stored s) 0) (Unmarked s)

-- these sectors were judged
abbrev pub JudgesData : Head → List LegImage → (ℕ → ℕ → Sector) → ℕ → ℕ → Result (Unit {0}) ImageError
    → Type 0
JudgesData h images stored from count (Ok u) = first_unmarked h images stored from count ≡ None
JudgesData h images stored from count (Err (Image l f)) =
    option_map (unmarked_error h images stored) (first_unmarked h images stored from count) ≡ Some (Image l f)
JudgesData h images stored from count (Err (Memory e)) = Unit {0}
JudgesData h images stored from count (Err (Shelf l)) = ⊥
JudgesData h images stored from count (Err (Device l)) = ⊥

-- the data in rows, one a leg, that begin with sector `from`
abbrev pub in_rows : List (List Sector) → ℕ → ℕ → ℕ → Sector
in_rows rows from l s = get_or (get_or rows l []) (s - from) zero_sector

-- each leg that works has a row of so many sectors
pub record AreRows (roles : Roles) (count : ℕ) (rows : List (List Sector)) : Type 0 where
  pub there : (l : ℕ) → l < 8 → works roles l ≡ true → l < length rows
  pub long : (l : ℕ) → l < 8 → works roles l ≡ true → length (get_or rows l []) ≡ count

-- leg l has the row of the first leg that works, if it works itself
abbrev pub HasFirstRow : Roles → List (List Sector) → ℕ → Type 0
HasFirstRow roles rows l = works roles l ≡ true
    → first_difference (get_or rows l []) (get_or rows (first_working roles) []) ≡ None

-- to the values of the sectors below `from` came those of so many more
pub record AddsValues (h : Head) (stored : ℕ → ℕ → Sector) (from count : ℕ)
    (old new : List (List Sector)) : Type 0 where
  pub many : length new ≡ from + count
  pub before : (s : ℕ) → s < from → get_or new s [] ≡ get_or old s []
  pub values : (s : ℕ) → from ≤ s → s < from + count
      → get_or new s [] ≡ values_of h.roles (λ l. stored l s) 8

-- the base below sector n: the values of the legs that work, and no sector is unmarked
pub record IsBase (h : Head) (images : List LegImage) (stored : ℕ → ℕ → Sector) (n : ℕ)
    (base : List (List Sector)) : Type 0 where
  pub many : length base ≡ n
  pub values : (s : ℕ) → s < n → get_or base s [] ≡ values_of h.roles (λ l. stored l s) 8
  pub marked : first_unmarked h images stored 0 n ≡ None
