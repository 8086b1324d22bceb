-- What a seat or a note at the table knows.
use Rattle.std.specs.Prelude.{ℕ, false, List, [], ◌∷◌, ◌++◌, Option, Some, None}
use Rattle.turn_table.specs.Lists.{from, longer, last_of, all_but_last}
use Rattle.turn_table.specs.declared.views.View.{View}

module _ {I O : Type 0} where
  -- the first seat, which has all numbers below this
  abbrev pub opened : ℕ → O → View I O
  opened seats origin = record {
    seen = [];
    told = [];
    numbers = from 0 seats;
    more = [];
    inside = false;
    words = [];
    seats = seats;
    origin = Some origin;
  }

  -- it keeps all numbers but the last
  abbrev pub left : View I O → View I O
  left v = record v { numbers = all_but_last v.numbers }

  -- a new seat with the last number
  abbrev pub right : View I O → View I O
  right v = record v {
    told = [];
    numbers = last_of v.numbers ∷ [];
    more = [];
    inside = false;
    words = [];
  }

  -- a note: it has seen the same, and has no number
  abbrev pub noted : View I O → View I O
  noted v = record v { told = []; numbers = []; more = []; inside = false; words = [] }

  -- it was told what another has seen, and has the numbers of both
  abbrev pub told : View I O → View I O → View I O
  told v w = record v { told = w.seen; more = w.numbers }

  -- what is left of one that was taken in
  abbrev pub spent : View I O
  spent = record {
    seen = [];
    told = [];
    numbers = [];
    more = [];
    inside = false;
    words = [];
    seats = 0;
    origin = None;
  }

  -- it has taken in what it was told
  abbrev pub learned : View I O → View I O
  learned v = record v {
    seen = longer v.seen v.told;
    told = [];
    numbers = v.numbers ++ v.more;
    more = [];
  }
