-- Queues of asks, in order of asking.
use Rattle.std.specs.Prelude.{ℕ, ◌==◌, Bool, true, false, if◌then◌else◌, List, [], ◌∷◌, Option, Some, None}
use Rattle.dlm_modes.specs.declared.mode.Mode.{Mode}
use Rattle.dlm_space.specs.declared.ask.Ask.{Ask}

-- the node asks for the mode
abbrev pub ask_for : ℕ → Mode → Ask
ask_for n mode = record { node = n; mode = mode }

-- the modes that the node asks in the queue
abbrev pub asks_of : ℕ → List Ask → List Mode
asks_of n [] = []
asks_of n (a ∷ queue) = if a.node == n then a.mode ∷ asks_of n queue else asks_of n queue

abbrev pub are_some : List Mode → Bool
are_some [] = false
are_some (mode ∷ modes) = true

-- the node asks in the queue
abbrev pub asks : ℕ → List Ask → Bool
asks n queue = are_some (asks_of n queue)

-- the queue without the node
abbrev pub without : ℕ → List Ask → List Ask
without n [] = []
without n (a ∷ queue) = if a.node == n then without n queue else a ∷ without n queue

-- the first conversion, else the first request
abbrev pub head : List Ask → List Ask → Option Ask
head (a ∷ conversions) requests = Some a
head [] (a ∷ requests) = Some a
head [] [] = None
