-- How the run of an entry ends, and where a trace stops being legal.
use Rattle.std.specs.Prelude.{◌<◌, ◌+◌, ℕ, List, ◌∷◌, length, take, reverse, Result, Ok, Err}
use Rattle.mdc_types.specs.declared.numbers.Sector.{Sector}
use Rattle.mdc_types.specs.declared.outcomes.Entry.{Entry}
use Rattle.plain_history.specs.declared.plain.PlainEnd.{PlainEnd}
use Rattle.plain_history.specs.declared.plain.PlainEnd.TheVariants.{Bad, Memory}
use Rattle.plain_history.specs.History.{LegalAfter, Legal}
use Rattle.plain_history.specs.Tables.{Tables, Follows}

-- x is legal after these entries, and the tables now have it
pub record Takes (base : ℕ → List Sector) (past : List Entry) (x : Entry) (new : Tables) : Type 0 where
  pub legal : LegalAfter base past x
  pub follows : Follows base (x ∷ past) new

-- x is taken or wants memory where it is legal after these entries, and is bad exactly where it isn't
abbrev pub RunEnds : {T : Type 0} → (ℕ → List Sector) → List Entry → Entry → Result T PlainEnd → Tables → Type 0
RunEnds base past x (Ok done) new = Takes base past x new
RunEnds base past x (Err Bad) new = ¬ LegalAfter base past x
RunEnds base past x (Err Memory) new = LegalAfter base past x

-- the entry at place i, from 0, is the first that is not legal, where the trace has its oldest entry first
pub record IsFirstBad (base : ℕ → List Sector) (trace : List Entry) (i : ℕ) : Type 0 where
  pub place : i < length trace
  pub before : Legal base (reverse (take i trace))
  pub bad : ¬ Legal base (reverse (take (i + 1) trace))
