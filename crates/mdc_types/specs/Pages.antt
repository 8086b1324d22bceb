-- Which pages of a slot are done, by page and leg, and the first that is left.
use Rattle.std.specs.Prelude.{ℕ, Bool, true, false, not, ◌&&◌, List, slice_index, slice_set, Option, Some, None, is_some, option_map}
use Rattle.dlm_modes.specs.First.{first_such, each_such}
use Rattle.dlm_modes.specs.Points.{with_at}
use Rattle.mdc_types.specs.Bits.{has_bit, with_bit}

-- pages as they are kept: by page, one bit for each leg on which it is done
abbrev pub bits_of : List ℕ → ℕ → ℕ → Bool
bits_of bits p l = has_bit (slice_index bits p) l

-- the bits with that of page p and leg l
abbrev pub with_page : List ℕ → ℕ → ℕ → List ℕ
with_page bits p l = slice_set bits p (with_bit (slice_index bits p) l)

-- nothing is done
abbrev pub none_done : ℕ → ℕ → Bool
none_done p l = false

-- page p is done on leg l too
abbrev pub done_at : (ℕ → ℕ → Bool) → ℕ → ℕ → ℕ → ℕ → Bool
done_at is_done p l = with_at is_done p (with_at (is_done p) l true)

-- the least leg of a set on which the page isn't done
abbrev pub leg_without : (ℕ → ℕ → Bool) → (ℕ → Bool) → ℕ → Option ℕ
leg_without is_done in_set p = first_such (λ l. in_set l && not (is_done p l)) 0 8

-- the page with that leg
abbrev pub with_its_leg : (ℕ → ℕ → Bool) → (ℕ → Bool) → Option ℕ → Option (ℕ × ℕ)
with_its_leg is_done in_set None = None
with_its_leg is_done in_set (Some p) = option_map (λ l. (p, l)) (leg_without is_done in_set p)

-- the least page that a leg of the set is without, and the least such leg
abbrev pub first_page_left : (ℕ → ℕ → Bool) → (ℕ → Bool) → ℕ → Option (ℕ × ℕ)
first_page_left is_done in_set pages =
    with_its_leg is_done in_set (first_such (λ p. is_some (leg_without is_done in_set p)) 0 pages)

-- each page is done on the leg
abbrev pub is_whole : (ℕ → ℕ → Bool) → ℕ → ℕ → Bool
is_whole is_done pages l = each_such (λ p. is_done p l) 0 pages

-- the least leg of the set that is without a page
abbrev pub leg_left : (ℕ → ℕ → Bool) → (ℕ → Bool) → ℕ → Option ℕ
leg_left is_done in_set pages = first_such (λ l. in_set l && not (is_whole is_done pages l)) 0 8
