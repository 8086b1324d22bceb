-- What a slot marks.
use Rattle.std.proofs.Common.{◌≡◌, ℕ, ◌-◌, ◌<◌, List, [], length, get_or, Bool, false, Option, ◌∙◌, ap, arith}
use Rattle.std.specs.Prelude.{is_some}
use Rattle.dlm_modes.specs.First.{first_such}
use Rattle.mdc_types.specs.Geometry.{nodes_of, chunks_of}
use Rattle.image_faults.specs.declared.legs.LegImage.{LegImage}
use Rattle.image_array.specs.Legs.{sizes_at, slots_at, AreLegs}
use Rattle.image_array.specs.Heads.{has_marks}

-- the first chunk of a slot tells whether there is one
pub any_is : (images : List LegImage) (l k : ℕ) (set : List Bool) (first : Option ℕ) → AreLegs images → l < length images → k < nodes_of (sizes_at images l)
    → set ≡ get_or (slots_at images l) k [] → first ≡ first_such (λ c. get_or set c false) 0 (length set - 0) → is_some first ≡ has_marks images k l
any_is images l k set first legs lt slot is found =
    let size : length (get_or (slots_at images l) k []) ≡ chunks_of (sizes_at images l) = (legs.each l lt).sets.each k slot in
    let count : length set - 0 ≡ chunks_of (sizes_at images l) = omega (arith, ap length is, size) in
    ap is_some found ∙ ap (λ n. is_some (first_such (λ c. get_or set c false) 0 n)) count
    ∙ ap (λ xs. is_some (first_such (λ c. get_or xs c false) 0 (chunks_of (sizes_at images l)))) is
