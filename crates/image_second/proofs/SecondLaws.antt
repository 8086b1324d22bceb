-- The sectors of a new image, one after another.
use Rattle.std.proofs.Common.{◌≡◌, ℕ, ◌+◌, List, [], map, ◌++◌, ap, sym, ◌∙◌, arith, Option, Some, None}
use Rattle.std.proofs.lemmas.List.{flat_map_more}
use Rattle.std.proofs.lemmas.List.FromFn.{map-range_with_len_more}
use Rattle.std.specs.List.{range_with_len}
use Rattle.mdc_types.specs.declared.numbers.Sector.{Sector}
use Rattle.leg_shelf.specs.Images.{bytes_of}
use Rattle.image_second.specs.Second.{WasRead, second_sector, GivesSecond, MadeTo}

one_more : (f : ℕ → Sector) (k : ℕ) → bytes_of (map f (range_with_len 0 k)) ++ (f k).bytes ≡ bytes_of (map f (range_with_len 0 (k + 1)))
one_more f k = flat_map_more (λ s. s.bytes) [] (map f (range_with_len 0 k)) (f k)
    ∙ ap bytes_of (sym (map-range_with_len_more f 0 k k (omega arith)))

-- a sector more
pub made_more : (r : WasRead) (told : Option (List Sector)) (n : ℕ) (bytes new : List ℕ) (v : Sector)
    → MadeTo r told n bytes → GivesSecond r told n v → new ≡ bytes ++ v.bytes → MadeTo r told (n + 1) new
made_more r None n bytes new v made gives is = tt
made_more r (Some leg) n bytes new v made gives is =
    is ∙ ap (λ xs. xs ++ v.bytes) made
    ∙ ap (λ u. bytes_of (map (second_sector r leg) (range_with_len 0 n)) ++ u.bytes) gives
    ∙ one_more (second_sector r leg) n
