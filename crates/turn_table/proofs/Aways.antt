-- A seat away from the turn, cut in two.
use Rattle.std.proofs.Common.{◌≡◌, ◌≢◌, ℕ, zero, suc, ◌+◌, ◌-◌, ◌<◌, ◌≤◌, List, [], ◌∷◌, ◌++◌, length, refl, sym, ap, ◌∙◌, subst, arith}
use Rattle.turn_table.specs.Lists.{own, times, Has, from, first_of, last_of, all_but_last}
use Rattle.turn_table.specs.Views.{left, right}
use Rattle.turn_table.specs.Away.{IsAway, NoneElse}
use Rattle.turn_table.specs.declared.views.View.{View}
use Rattle.turn_table.proofs.ListLemmas.{from_cut, from_last, length-from, times_cut, times_one, times_first}

from_less : (first count : ℕ) → 0 < count → all_but_last (from first count) ≡ from first (count - 1)
from_less first zero h = absurd (omega arith)
from_less first (suc k) h = let e : k ≡ suc k - 1 = omega arith in from_cut first k ∙ ap (from first) e

last_from : (first count : ℕ) → 0 < count → last_of (from first count) ≡ first + (count - 1)
last_from first zero h = absurd (omega arith)
last_from first (suc k) h = let e : k ≡ suc k - 1 = omega arith in from_last first k ∙ ap (λ m. first + m) e

pub first_from : (first count : ℕ) → 0 < count → first_of (from first count) ≡ first
first_from first zero h = absurd (omega arith)
first_from first (suc k) h = refl

module _ {I O : Type 0} where
  pub count_is : (first count : ℕ) (v : View I O) → IsAway first count v → length v.numbers ≡ count
  count_is first count v a = ap length a.numbers_are ∙ length-from first count

  pub first_is : (first count : ℕ) (v : View I O) → IsAway first count v → first_of v.numbers ≡ first
  first_is first count v a = ap first_of a.numbers_are ∙ first_from first count a.some_number

  pub has_first : (first count : ℕ) (v : View I O) → IsAway first count v → Has v.numbers (first_of v.numbers)
  has_first first count v a =
      subst (λ ns. Has ns (first_of ns)) (sym a.numbers_are)
      (subst (λ n. Has (from first count) n) (sym (first_from first count a.some_number)) (times_first first count a.some_number))

  pub last_is : (first count : ℕ) (v : View I O) → IsAway first count v → last_of v.numbers ≡ first + (count - 1)
  last_is first count v a = ap last_of a.numbers_are ∙ last_from first count a.some_number

  pub away_left : (first count : ℕ) (v : View I O) → IsAway first count v → 1 < length v.numbers → IsAway first (count - 1) (left v)
  away_left first count v a two = let n = count_is first count v a in record {
    outside = a.outside;
    nothing_told = a.nothing_told;
    nothing_more = a.nothing_more;
    numbers_are = ap all_but_last a.numbers_are ∙ from_less first count a.some_number;
    some_number = omega arith;
    in_range = (let r = a.in_range in omega arith);
    few = a.few;
  }

  pub away_right : (first count : ℕ) (v : View I O) → IsAway first count v → IsAway (first + (count - 1)) 1 (right v)
  away_right first count v a = record {
    outside = refl;
    nothing_told = refl;
    nothing_more = refl;
    numbers_are = ap (λ (n : ℕ). n ∷ []) (last_is first count v a);
    some_number = omega arith;
    in_range = (let r = a.in_range in let s = a.some_number in omega arith);
    few = a.few;
  }

  pub none_left : (number : I → ℕ) (first : ℕ) (v : View I O) → 0 < length v.numbers → NoneElse number first v → NoneElse number first (left v)
  none_left number first v nonempty none n has ne = none n (let t = times_cut n v.numbers nonempty in omega arith) ne

  pub none_right : (number : I → ℕ) (first count : ℕ) (v : View I O) → IsAway first count v → NoneElse number (first + (count - 1)) (right v)
  none_right number first count v a n has ne = absurd (ne (times_one n (last_of v.numbers) has ∙ last_is first count v a))

  -- the last of two numbers or more has no entry
  pub none_last : (number : I → ℕ) (first count : ℕ) (v : View I O) → IsAway first count v → 1 < length v.numbers
      → NoneElse number first v → own number (last_of v.numbers) v.seen ≡ []
  none_last number first count v a two none =
      none (last_of v.numbers)
      (let t = times_cut (last_of v.numbers) v.numbers (omega arith) in
      let one = times_first (last_of v.numbers) 1 (omega arith) in omega arith)
      (λ e. let l = last_is first count v a in let n = count_is first count v a in omega arith)
