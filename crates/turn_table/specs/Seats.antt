-- What a seat has seen and made, and what a note tells.
use Rattle.std.specs.Prelude.{◌≡◌, ℕ, List, [], ◌∷◌, ◌++◌, length, sum_by, Bool, MatchBool}
use Rattle.turn_table.specs.Lists.{BeginsWith, own, first_of}
use Rattle.turn_table.specs.declared.stories.Story.{Ghosts}
use Rattle.turn_table.specs.declared.seats.Seat.{Seat}
use Rattle.turn_table.specs.declared.seats.Note.{Note}

module _ {T I O : Type 0} {g : Ghosts T I O} where
  -- the beginning of the list that the seat has seen
  abbrev pub seen : Seat T I O g → List I
  seen seat = seat.place.me.0.seen

  abbrev pub numbers : Seat T I O g → List ℕ
  numbers seat = seat.place.me.0.numbers

  -- the number that its entries name
  abbrev pub number_of : Seat T I O g → ℕ
  number_of seat = first_of (numbers seat)

  -- its own entries, the oldest first
  abbrev pub mine : Seat T I O g → List I
  mine seat = own g.number (number_of seat) (seen seat)

  -- how many numbers the seats have together
  abbrev pub all_numbers : List (Seat T I O g) → ℕ
  all_numbers seats = sum_by (λ s. length (numbers s)) seats

  -- what its tries found in the turn's word
  abbrev pub words : Seat T I O g → List ℕ
  words seat = seat.place.me.0.words

  -- what the maker of the note had seen
  abbrev pub told_by : Note T I O g → List I
  told_by note = note.place.me.0.seen

  -- the seat's story, its numbers and its words stay
  abbrev pub Keeps : Seat T I O g → Seat T I O g → Type 0
  Keeps old new = (seen new ≡ seen old) × (numbers new ≡ numbers old) × (words new ≡ words old)

  -- a new entry of the seat ends the list, and is the last of its own
  abbrev pub MakesEntry : List I → Seat T I O g → Seat T I O g → Type 0
  MakesEntry before old new = (x : I) × (g.number x ≡ number_of old)
      × (seen new ≡ before ++ x ∷ []) × (mine new ≡ mine old ++ x ∷ [])

  -- The act was done on a list that begins with all that the seat had seen, and the seat has then
  -- seen the list after it. All its own entries there are those that it knew, and the new one
  abbrev pub Acted : {A R : Type 0} → (A → A → O → List I → List I → R → Type 0) → (R → Bool)
      → O → A → A → Seat T I O g → Seat T I O g → R → Type 0
  Acted relation adds origin act act' old new reply = (before : List I)
      × BeginsWith before (seen old)
      × relation act act' origin before (seen new) reply
      × MatchBool (adds reply)
      (MakesEntry before old new)
      ((seen new ≡ before) × (mine new ≡ mine old))
