-- Guards, which are tried in order: each refuses, or lets through.
use Rattle.std.specs.Prelude.{Bool, true, false, List, [], ◌∷◌, Option, Some, None}

-- the guard refuses where the test fails
abbrev pub unless : {R : Type 0} → Bool → R → Option R
unless true r = None
unless false r = Some r

-- the first of two guards that refuses
abbrev pub or_then : {R : Type 0} → Option R → Option R → Option R
or_then (Some r) next = Some r
or_then None next = next

-- the first guard that refuses
abbrev pub first_of : {R : Type 0} → List (Option R) → Option R
first_of [] = None
first_of (Some r ∷ guards) = Some r
first_of (None ∷ guards) = first_of guards
