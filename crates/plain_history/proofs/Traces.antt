-- A trace, oldest entry first, as far as a loop has come.
use Rattle.std.proofs.Common.{◌≡◌, ℕ, ◌+◌, ◌<◌, List, [], ◌∷◌, ◌++◌, length, take, drop, reverse, map, sym, ◌∙◌, ap, subst, arith}
use Rattle.std.specs.Prelude.{get_or}
use Rattle.std.proofs.lemmas.List.{length-map, get_or-map, take_more, take-append-drop, reverse-append}
use Rattle.mdc_types.specs.declared.numbers.Sector.{Sector}
use Rattle.mdc_types.specs.declared.outcomes.Entry.{Entry}
use Rattle.plain_history.specs.History.{Legal, LegalAfter}
use Rattle.plain_history.specs.Tables.{Tables, Follows}
use Rattle.plain_history.specs.Runs.{Takes, IsFirstBad}
use Rattle.plain_history.proofs.SeenLaw.{Legal-before}

reverse_more : (trace : List Entry) (i : ℕ) (d : Entry) → i < length trace → reverse (take (i + 1) trace) ≡ get_or trace i d ∷ reverse (take i trace)
reverse_more trace i d lt = ap reverse (take_more trace i d lt) ∙ reverse-append (take i trace) (get_or trace i d ∷ [])

module _ (base : ℕ → List Sector) (trace : List Entry) (i : ℕ) (lt : i < length trace) (legal : Legal base (reverse (take i trace))) where
  pub Legal-more : (d : Entry) (t : Tables) → Takes base (reverse (take i trace)) (get_or trace i d) t → Legal base (reverse (take (i + 1) trace))
  Legal-more d t takes = rw (reverse_more trace i d lt) (takes.legal, legal)

  pub Follows-more : (d : Entry) (t : Tables) → Takes base (reverse (take i trace)) (get_or trace i d) t → Follows base (reverse (take (i + 1) trace)) t
  Follows-more d t takes = rw (reverse_more trace i d lt) takes.follows

  pub first_bad : (d : Entry) → ¬ LegalAfter base (reverse (take i trace)) (get_or trace i d) → IsFirstBad base trace i
  first_bad d bad = record { place = lt; before = legal; bad = λ all. let here : Legal base (get_or trace i d ∷ reverse (take i trace)) = subst (Legal base) (reverse_more trace i d lt) all in bad here.0 }

-- what a whole trace is, its front is
Legal-front : (base : ℕ → List Sector) (trace : List Entry) (i : ℕ) → Legal base (reverse trace) → Legal base (reverse (take i trace))
Legal-front base trace i legal =
    let e : reverse trace ≡ reverse (drop i trace) ++ reverse (take i trace) = ap reverse (sym (take-append-drop i trace)) ∙ reverse-append (take i trace) (drop i trace) in
    Legal-before base (reverse (drop i trace)) (reverse (take i trace)) (subst (Legal base) e legal)

pub not_legal : (base : ℕ → List Sector) (trace : List Entry) (i : ℕ) → IsFirstBad base trace i → ¬ Legal base (reverse trace)
not_legal base trace i first legal = first.bad (Legal-front base trace (i + 1) legal)

-- a list more
pub map-take_more : {X : Type 0} (f : X → List Sector) (xs : List X) (i : ℕ) (x : X) → i < length xs → x ≡ get_or xs i x → take (i + 1) (map f xs) ≡ take i (map f xs) ++ f x ∷ []
map-take_more f xs i x lt is =
    let lt' : i < length (map f xs) = omega (arith, lt, length-map xs f) in
    take_more (map f xs) i [] lt' ∙ ap (λ v. take i (map f xs) ++ v ∷ []) (get_or-map f xs i x [] lt ∙ ap f (sym is))
