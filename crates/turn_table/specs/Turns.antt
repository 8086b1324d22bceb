-- Which turn a seat is at.
use Rattle.std.specs.Prelude.{◌≡◌, ℕ, length, Some}
use Rattle.turn_table.specs.Seats.{numbers}
use Rattle.turn_table.specs.declared.stories.Story.{Ghosts}
use Rattle.turn_table.specs.declared.seats.Seat.{Seat}
use Rattle.turn_table.specs.declared.seats.Note.{Note}
use Rattle.turn_table.specs.declared.turns.Turn.{Turn}

module _ {T I O : Type 0} where
  -- the value that it was opened with
  abbrev pub opened_with : Turn T I O → T
  opened_with turn = turn.board.shared.key.value.value

  -- how many numbers it was opened with
  abbrev pub seats_of : Turn T I O → ℕ
  seats_of turn = turn.board.shared.key.seats

module _ {T I O : Type 0} {g : Ghosts T I O} where
  -- the seat is at this turn, whose origin and count of numbers it knows
  abbrev pub IsSeatOf : Turn T I O → Seat T I O g → Type 0
  IsSeatOf turn seat = (seat.place.table_id ≡ turn.board.shared.table_id)
      × (seat.place.me.0.origin ≡ Some (g.origin (opened_with turn)))
      × (seat.place.me.0.seats ≡ seats_of turn)

  -- a seat with one number
  abbrev pub HasOne : Turn T I O → Seat T I O g → Type 0
  HasOne turn seat = IsSeatOf turn seat × (length (numbers seat) ≡ 1)

  -- the note was written at this turn
  abbrev pub IsNoteOf : Turn T I O → Note T I O g → Type 0
  IsNoteOf turn note = note.place.table_id ≡ turn.board.shared.table_id
