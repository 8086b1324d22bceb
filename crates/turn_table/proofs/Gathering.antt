-- A seat is taken in, one after another.
use Rattle.std.proofs.Common.{◌≡◌, ◌⊎◌, ℕ, zero, suc, ◌+◌, ◌<◌, false, List, [], ◌∷◌, ◌++◌, length, get_or, refl, sym, ap, ◌∙◌, subst, inl, inr, ⊎_elim, arith, length-append}
use Rattle.std.specs.Prelude.{All, Any, sum_by}
use Rattle.std.proofs.lemmas.List.Elements.{All-append, All-nil, All-cons}
use Rattle.std.proofs.lemmas.List.Sums.{sum_by-cons}
use mathlib.Core.Logic.{dite}
use native.Mathlib.Decide.{dec_le}
use Rattle.turn_table.specs.Lists.{BeginsWith, longer, own, times, Has}
use Rattle.turn_table.specs.Views.{learned, told}
use Rattle.turn_table.specs.Seats.{seen, numbers, all_numbers}
use Rattle.turn_table.specs.Gathered.{KnowsAll, Gathers}
use Rattle.turn_table.specs.declared.stories.Story.{Ghosts}
use Rattle.turn_table.specs.declared.seats.Seat.{Seat}
use Rattle.turn_table.specs.declared.views.View.{View}
use Rattle.turn_table.proofs.ListLemmas.{begins_itself, begins_through, times-append}

module _ {X : Type 0} (P : X → Type 0) where
  pub all_front : (xs ys : List X) → All P (xs ++ ys) → All P xs
  all_front [] ys h = All-nil P
  all_front (x ∷ xs) ys h = All-cons P x xs (h 0 x (omega arith)) (all_front xs ys (λ k d lt. h (suc k) d (omega arith)))

  pub all_last : (xs : List X) (y : X) → All P (xs ++ y ∷ []) → P y
  all_last [] y h = h 0 y (omega arith)
  all_last (x ∷ xs) y h = all_last xs y (λ k d lt. h (suc k) d (omega arith))

  pub any_here : (x : X) (xs : List X) → P x → Any P (x ∷ xs)
  any_here x xs p = (0, x, omega arith, refl, p)

  pub any_there : (x : X) (xs : List X) → Any P xs → Any P (x ∷ xs)
  any_there x xs (k, y, lt, is, p) = (suc k, y, omega arith, is, p)

  pub any_front : (xs ys : List X) → Any P xs → Any P (xs ++ ys)
  any_front [] ys (k, y, lt, is, p) = absurd (omega arith)
  any_front (x ∷ xs) ys (zero, y, lt, is, p) = (0, y, omega arith, is, p)
  any_front (x ∷ xs) ys (suc k, y, lt, is, p) = any_there x (xs ++ ys) (any_front xs ys (k, y, omega arith, is, p))

  pub any_last : (xs : List X) (y : X) → P y → Any P (xs ++ y ∷ [])
  any_last [] y p = any_here y [] p
  any_last (x ∷ xs) y p = any_there x (xs ++ y ∷ []) (any_last xs y p)

module _ {T I O : Type 0} {g : Ghosts T I O} where
  -- none
  pub gathers_none : (v : View I O) → v.inside ≡ false → v.more ≡ [] → Gathers {g = g} v [] v
  gathers_none v outside no_more = record {
    outside = outside;
    nothing_more = no_more;
    many = omega arith;
    begins = begins_itself v.seen;
    begins_each = All-nil _;
    knows = λ n h. (h, refl);
    knows_each = All-nil _;
    only = λ n h. inl h;
  }

  -- one more
  pub gathers_more : (v w : View I O) (done : List (Seat T I O g)) (s : Seat T I O g) (w' : View I O) → Gathers v done w
      → w' ≡ learned (told w s.place.me.0) → BeginsWith w'.seen w.seen → BeginsWith w'.seen (seen s)
      → ((n : ℕ) → Has w.numbers n → own g.number n w.seen ≡ own g.number n w'.seen)
      → ((n : ℕ) → Has (numbers s) n → own g.number n (seen s) ≡ own g.number n w'.seen)
      → Gathers v (s ∷ done) w'
  gathers_more v w done s w' k is old new own_old own_new =
      let numbers_are : w'.numbers ≡ w.numbers ++ numbers s = ap (λ (x : View I O). x.numbers) is in
      let has_old : (n : ℕ) → Has w.numbers n → Has w'.numbers n = λ n h.
      (let a = times-append n w.numbers (numbers s) in let b : times n w'.numbers ≡ times n (w.numbers ++ numbers s) = ap (times n) numbers_are in omega arith) in
      let has_new : (n : ℕ) → Has (numbers s) n → Has w'.numbers n = λ n h.
      (let a = times-append n w.numbers (numbers s) in let b : times n w'.numbers ≡ times n (w.numbers ++ numbers s) = ap (times n) numbers_are in omega arith) in
      let keep : (ns : List ℕ) (l : List I) → KnowsAll g.number w ns l → KnowsAll g.number w' ns l = λ ns l f n h.
      (has_old n (f n h).0, (f n h).1 ∙ own_old n (f n h).0) in
      record {
        outside = ap (λ (x : View I O). x.inside) is ∙ k.outside;
        nothing_more = ap (λ (x : View I O). x.more) is;
        many = (let a : length w'.numbers ≡ length (w.numbers ++ numbers s) = ap length numbers_are in
            let b = length-append w.numbers (numbers s) in let c = k.many in
            let d = sum_by-cons (λ (x : Seat T I O g). length (numbers x)) s done in omega arith);
        begins = begins_through w'.seen w.seen v.seen old k.begins;
        begins_each = All-cons (λ x. BeginsWith w'.seen (seen x)) s done new
            (λ i d lt. begins_through w'.seen w.seen _ old (k.begins_each i d lt));
        knows = keep v.numbers v.seen k.knows;
        knows_each = All-cons (λ x. KnowsAll g.number w' (numbers x) (seen x)) s done
            (λ n h. (has_new n h, own_new n h))
            (λ i d lt. keep _ _ (k.knows_each i d lt));
        only = λ n h. dite (dec_le 1 (times n w.numbers))
            (λ here. ⊎_elim inl (λ some_seat. inr (any_there (λ x. Has (numbers x) n) s done some_seat)) (k.only n here))
            (λ no. inr (any_here (λ x. Has (numbers x) n) s done
            (let a = times-append n w.numbers (numbers s) in let b : times n w'.numbers ≡ times n (w.numbers ++ numbers s) = ap (times n) numbers_are in omega arith)));
      }
