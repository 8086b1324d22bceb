-- The turn's rule, and what each step tells.
use Rattle.std.specs.Prelude.{◌≡◌, ◌≢◌, ◌⊎◌, ℕ, ◌+◌, ◌<◌, ◌==◌, nat_lt, if◌then◌else◌, MatchBool, true, false, List, [], ◌∷◌, ◌++◌, length, All, Option, Some}
use mathlib.Core.Option.{some, none}
use lib.ListN.{get_elem?}
use Rattle.atomic_table.specs.Table.{State, Me, Step}
use Rattle.turn_table.specs.Lists.{BeginsWith, longer, own, times, Has, first_of}
use Rattle.turn_table.specs.Views.{learned}
use Rattle.turn_table.specs.declared.views.View.{View}

-- f of each, added up
abbrev pub total : {A : Type 0} → (A → ℕ) → List A → ℕ
total f [] = 0
total f (x ∷ xs) = f x + total f xs

-- 1 where n is below this, else 0
abbrev pub once_below : ℕ → ℕ → ℕ
once_below n seats = if nat_lt n seats then 1 else 0

module _ {I O : Type 0} where
  -- how often a view has the number n
  abbrev pub has_times : ℕ → View I O → ℕ
  has_times n v = times n v.numbers + times n v.more

  -- how many numbers a view has
  abbrev pub how_many : View I O → ℕ
  how_many v = length v.numbers + length v.more

-- the list of the value in hand
abbrev pub in_hand : {T I : Type 0} → (T → List I) → List (ℕ × T) → List I
in_hand entries [] = []
in_hand entries (x ∷ xs) = entries x.1

module _ {T I O : Type 0} (entries : T → List I) (origin_of : T → O) (number : I → ℕ) where
  -- What the rule says of one view. Both lists are beginnings of the history, and have all entries
  -- of the numbers that came with them. In the turn it has seen all, and the word is one more than
  -- its first number
  pub record Knows (origin : O) (seats : ℕ) (log : List I) (word : ℕ) (v : View I O) : Type 0 where
    pub seen : BeginsWith log v.seen
    pub told : BeginsWith log v.told
    pub own_seen : (n : ℕ) → Has v.numbers n → own number n v.seen ≡ own number n log
    pub own_told : (n : ℕ) → Has v.more n → own number n v.told ≡ own number n log
    pub inside : v.inside ≡ true
        → (word ≡ first_of v.numbers + 1) × Has v.numbers (first_of v.numbers) × (v.seen ≡ log)
    pub origin_is : (o : O) → v.origin ≡ Some o → o ≡ origin
    pub seats_is : 0 < length v.numbers → v.seats ≡ seats

  -- the value is at home, and its list is the history
  abbrev pub AtHome : O → List I → State T (View I O) → Type 0
  AtHome origin log s =
      (y : T) × (s.homes ≡ some y ∷ []) × (entries y ≡ log) × (origin_of y ≡ origin)

  -- the value is out, and some view is in the turn
  abbrev pub Out : State T (View I O) → Type 0
  Out s = (s.homes ≡ none ∷ [])
      × ((j : ℕ) × (v : View I O) × (get_elem? s.views j ≡ some v) × (v.inside ≡ true))

  -- The turn's rule. Each number below `seats` belongs to one view, and each entry names such a
  -- number
  pub record Kept (origin : O) (seats : ℕ) (s : State T (View I O)) : Type 0 where
    pub log : List I
    pub word : ℕ
    pub words_are : s.words ≡ length log ∷ word ∷ []
    pub each : (j : ℕ) (v : View I O) → get_elem? s.views j ≡ some v → Knows origin seats log word v
    pub dealt : (n : ℕ) → total (has_times n) s.views ≡ once_below n seats
    pub whole : total how_many s.views ≡ seats
    pub named : All (λ x. number x < seats) log
    pub value : MatchBool (word == 0) (AtHome origin log s) (Out s)

  -- the turn was free: the seat has the value, and has then seen its whole list
  abbrev pub Wins : Me T (View I O) → Me T (View I O) → Type 0
  Wins me after = (y : T) × (after.1 ≡ (0, y) ∷ []) × (me.0.origin ≡ Some (origin_of y))
      × (after.0 ≡ record me.0 { seen = entries y; inside = true; words = me.0.words ++ 0 ∷ [] })
      × BeginsWith (entries y) me.0.seen
      × ((n : ℕ) → Has me.0.numbers n → own number n me.0.seen ≡ own number n (entries y))

  -- Another seat was in the turn: the word isn't this seat's own, which hasn't all numbers
  abbrev pub Loses : Me T (View I O) → ℕ → Me T (View I O) → Type 0
  Loses me found after = (after ≡ (record me.0 { words = me.0.words ++ found ∷ [] }, me.1))
      × (found ≢ first_of me.0.numbers + 1) × (length me.0.numbers ≢ me.0.seats)

  -- a try for the turn, which is free where the word is 0
  abbrev pub Tries : Step T → Me T (View I O) → ℕ → Me T (View I O) → Type 0
  Tries s me found after = MatchBool (found == 0) (Wins me after) (Loses me found after)

  -- the value's new entry joins the list
  abbrev pub Counts : Step T → Me T (View I O) → ℕ → Me T (View I O) → Type 0
  Counts s me found after = after ≡ (record me.0 { seen = in_hand entries me.1 }, me.1)

  -- the value goes back, and the turn is free
  abbrev pub Frees : Step T → Me T (View I O) → ℕ → Me T (View I O) → Type 0
  Frees s me found after = after ≡ (record me.0 { inside = false }, [])

  -- what was told is taken in
  abbrev pub Learns : Step T → Me T (View I O) → ℕ → Me T (View I O) → Type 0
  Learns s me found after = (after ≡ (learned me.0, me.1))
      × BeginsWith (longer me.0.seen me.0.told) me.0.seen
      × BeginsWith (longer me.0.seen me.0.told) me.0.told
      × ((n : ℕ) → Has me.0.numbers n
      → own number n me.0.seen ≡ own number n (longer me.0.seen me.0.told))
      × ((n : ℕ) → Has me.0.more n
      → own number n me.0.told ≡ own number n (longer me.0.seen me.0.told))
