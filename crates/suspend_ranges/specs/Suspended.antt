-- Suspended ranges by owner. A write into one waits: the rule is md-cluster's.
use Rattle.std.specs.Prelude.{ℕ, nat_lt, slice_index_or, Bool, false, if◌then◌else◌, List, Option, Some, None}
use Rattle.dlm_modes.specs.First.{first_such}
use Rattle.mdc_types.specs.Ranges.{holds}
use Rattle.mdc_types.specs.declared.numbers.Range.{Range}

-- no owner has a range
abbrev pub none_suspended : ℕ → Option Range
none_suspended owner = None

-- the ranges that a list by owner stands for
abbrev pub ranges_of : List (Option Range) → ℕ → Option Range
ranges_of ranges owner = slice_index_or ranges owner None

-- what is kept of a range: nothing where it is empty
abbrev pub entry_of : Range → Option Range
entry_of r = if nat_lt r.lo r.hi then Some r else None

-- whether the range, if there is one, holds sector s
abbrev pub suspends : ℕ → Option Range → Bool
suspends s None = false
suspends s (Some r) = holds r.lo r.hi s

-- the least of the sixteen owners whose range holds sector s
abbrev pub covering : (ℕ → Option Range) → ℕ → Option ℕ
covering ranges s = first_such (λ owner. suspends s (ranges owner)) 0 16
