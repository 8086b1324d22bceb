-- What the end shows of the seats.
use Rattle.std.proofs.Common.{◌≡◌, ◌≢◌, ◌⊎◌, ℕ, zero, suc, ◌+◌, ◌<◌, Bool, true, false, List, [], ◌∷◌, ◌++◌, length, get_or, refl, sym, ap, ◌∙◌, subst, inl, inr, ⊎_elim, arith, eq-eqb}
use Rattle.std.specs.Prelude.{All, Any, ◌==◌, if◌then◌else◌}
use Rattle.std.proofs.lemmas.List.Elements.{All-append, All-nil, All-cons}
use Rattle.std.proofs.lemmas.List.Sums.{sum_by_push}
use mathlib.Core.Option.{some, some-injective}
use lib.ListN.{get_elem?}
use Rattle.atomic_table.specs.Table.{Final, Seen}
use mathlib.Core.Logic.{dite}
use native.Mathlib.Decide.{ℕ_discrete}
use Rattle.turn_table.specs.Lists.{BeginsWith, own, Has, first_of}
use Rattle.turn_table.specs.Rule.{Kept}
use Rattle.turn_table.specs.Seats.{seen, numbers, number_of, mine, all_numbers}
use Rattle.turn_table.specs.Gathered.{KnowsAll, Gathers}
use Rattle.turn_table.specs.declared.stories.Story.{Ghosts}
use Rattle.turn_table.specs.declared.seats.Seat.{Seat}
use Rattle.turn_table.specs.declared.views.View.{View}
use Rattle.turn_table.proofs.ListLemmas.{begins_through}
use Rattle.turn_table.proofs.Keeping.{closes}
use Rattle.turn_table.proofs.Aways.{first_is, has_first}
use Rattle.turn_table.proofs.Gathering.{any_front, any_last}

module _ {I : Type 0} (number : I → ℕ) where
  taken_or : (b : Bool) (x : I) (xs : List I) → (if b then x ∷ xs else xs) ≡ [] → xs ≡ []
  taken_or true x xs e = absurd (cc)
  taken_or false x xs e = e

  -- an entry of a list is among the entries of its number
  own_has : (xs : List I) (i : ℕ) (d : I) → i < length xs → own number (number (get_or xs i d)) xs ≢ []
  own_has [] i d lt e = absurd (omega arith)
  own_has (x ∷ xs) zero d lt e =
      let there : x ∷ own number (number x) xs ≡ [] =
      ap (λ b. if b then x ∷ own number (number x) xs else own number (number x) xs) (sym (eq-eqb (number x) (number x) refl)) ∙ e in
      absurd (cc)
  own_has (x ∷ xs) (suc i) d lt e =
      own_has xs i d (omega arith)
      (taken_or (number x == number (get_or xs i d)) x (own number (number (get_or xs i d)) xs) e)

module _ {T I O : Type 0} {g : Ghosts T I O} where
  -- a number of a seat that names an entry is the first of its numbers
  is_first : (s : Seat T I O g) (w : View I O) (y : T) (i : ℕ) (d : I) → i < length (g.entries y)
      → KnowsAll g.number w (numbers s) (seen s)
      → ((n : ℕ) → Has w.numbers n → own g.number n w.seen ≡ own g.number n (g.entries y))
      → Has (numbers s) (g.number (get_or (g.entries y) i d)) → g.number (get_or (g.entries y) i d) ≡ number_of s
  is_first s w y i d lt knows shows has =
      let n : ℕ = g.number (get_or (g.entries y) i d) in
      dite (ℕ_discrete n s.first) (λ e. e ∙ sym (first_is s.first s.count s.place.me.0 s.away.0))
      (λ ne. absurd (own_has g.number (g.entries y) i d lt
      (sym ((knows n has).1 ∙ shows n (knows n has).0) ∙ s.none_else n has ne)))

  pub shown : (seats : ℕ) (rest : List (Seat T I O g)) (p : Seat T I O g) (w : View I O) (y : T) → Gathers p.place.me.0 rest w
      → BeginsWith (g.entries y) w.seen
      → ((n : ℕ) → Has w.numbers n → own g.number n w.seen ≡ own g.number n (g.entries y))
      → ((n : ℕ) → n < seats → Has w.numbers n) → All (λ x. g.number x < seats) (g.entries y)
      → All (λ s. BeginsWith (g.entries y) (seen s)) (rest ++ p ∷ [])
      × All (λ s. own g.number (number_of s) (g.entries y) ≡ mine s) (rest ++ p ∷ [])
      × All (λ x. Any (λ s. g.number x ≡ number_of s) (rest ++ p ∷ [])) (g.entries y)
  shown seats rest p w y k begins shows has_all named =
      let first_has = λ (s : Seat T I O g). has_first s.first s.count s.place.me.0 s.away.0 in
      let own_of = λ (s : Seat T I O g) (f : KnowsAll g.number w (numbers s) (seen s)).
      sym ((f (number_of s) (first_has s)).1 ∙ shows (number_of s) (f (number_of s) (first_has s)).0) in (
        All-append (λ s. BeginsWith (g.entries y) (seen s)) rest (p ∷ [])
            (λ i d lt. begins_through (g.entries y) w.seen _ begins (k.begins_each i d lt))
            (All-cons (λ s. BeginsWith (g.entries y) (seen s)) p [] (begins_through (g.entries y) w.seen (seen p) begins k.begins) (All-nil _)),
        All-append (λ s. own g.number (number_of s) (g.entries y) ≡ mine s) rest (p ∷ [])
            (λ i d lt. own_of (get_or rest i d) (k.knows_each i d lt))
            (All-cons (λ s. own g.number (number_of s) (g.entries y) ≡ mine s) p [] (own_of p k.knows) (All-nil _)),
        (λ i d lt.
            let x : I = get_or (g.entries y) i d in
            let P : Seat T I O g → Type 0 = λ s. g.number x ≡ number_of s in
            ⊎_elim
            (λ (h : Has p.place.me.0.numbers (g.number x)). any_last P rest p (is_first p w y i d lt k.knows shows h))
            (λ (h : Any (λ s. Has (numbers s) (g.number x)) rest). any_front P rest (p ∷ [])
            (h.0, h.1, h.2, h.3, is_first h.1 w y i d lt (subst (λ s. KnowsAll g.number w (numbers s) (seen s)) h.3 (k.knows_each h.0 h.1 h.2)) shows h.4))
            (k.only (g.number x) (has_all (g.number x) (named i d lt)))),
      )

  -- what `close` promises of the value in the slot
  pub ends : (origin : O) (count : ℕ) (items rest : List (Seat T I O g)) (p : Seat T I O g) (w : View I O) (id : ℕ)
      (words : List ℕ) (xs : List T) (value : T) → items ≡ rest ++ p ∷ [] → all_numbers items ≡ count → Gathers p.place.me.0 rest w
      → Final (Seen (Kept g.entries g.origin g.number origin count) id w) words xs → get_elem? xs 0 ≡ some value
      → (g.origin value ≡ origin) × All (λ s. BeginsWith (g.entries value) (seen s)) items
      × All (λ s. own g.number (number_of s) (g.entries value) ≡ mine s) items
      × All (λ x. Any (λ s. g.number x ≡ number_of s) items) (g.entries value)
  ends origin count items rest p w id words xs value items_are whole k end at =
      let f : Seat T I O g → ℕ = λ s. length (numbers s) in
      let many = k.many in
      let sum : all_numbers items ≡ all_numbers rest + f p = ap all_numbers items_are ∙ sum_by_push f rest p in
      let r = closes g.entries g.origin g.number origin count words xs id w k.outside k.nothing_more (omega arith) end in
      let same : r.0 ≡ value = some-injective r.0 value (sym r.1 ∙ at) in
      let all = shown count rest p w r.0 k r.3 r.4 r.5 r.6 in
      let P : List (Seat T I O g) → T → Type 0 = λ l v. All (λ s. BeginsWith (g.entries v) (seen s)) l
      × All (λ s. own g.number (number_of s) (g.entries v) ≡ mine s) l
      × All (λ x. Any (λ s. g.number x ≡ number_of s) l) (g.entries v) in
      let done : P items value = subst (λ l. P l value) (sym items_are) (subst (P (rest ++ p ∷ [])) same all) in
      (ap g.origin (sym same) ∙ r.2, done.0, done.1, done.2)
