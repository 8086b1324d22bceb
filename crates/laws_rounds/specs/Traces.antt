-- What the entries of a run tell, the newest first. These words know nothing of phases and locks.
use Rattle.std.specs.Prelude.{ℕ, suc, ◌==◌, nat_lt, Bool, true, false, not, ◌&&◌, if◌then◌else◌, List, [], ◌∷◌, Option, Some, None}
use Rattle.dlm_modes.specs.declared.block.Block.{Block}
use Rattle.laws_rounds.specs.Machine.{Event, Leave, Publish, Finish, Take, Processed, Die, Entry}

-- a message: its sender and what it says
pub record Said : Type 0 where
  pub sender : ℕ
  pub block : Block

-- what became of a message
pub data Fate : Type 0 where
  -- none was published yet
  NotYet : Fate
  -- its sender's round is open
  Open : (n : ℕ) → Fate
  Finished : Fate
  -- its sender died before it finished
  SenderDied : Fate

abbrev pub finished_by : ℕ → Fate → Fate
finished_by n (Open m) = if m == n then Finished else Open m
finished_by n fate = fate

abbrev pub died_with : ℕ → Fate → Fate
died_with n (Open m) = if m == n then SenderDied else Open m
died_with n fate = fate

-- a list of entries is matched by its newest event
abbrev pub fate_at : Event → Fate → Fate
fate_at (Publish n block) fate = Open n
fate_at (Finish n) fate = finished_by n fate
fate_at (Die n) fate = died_with n fate
fate_at e fate = fate

-- what became of the last message
abbrev pub fate_in : List Entry → Fate
fate_in [] = NotYet
fate_in (entry ∷ past) = fate_at entry.event (fate_in past)

abbrev pub said_at : Event → Option Said → Option Said
said_at (Publish n block) said = Some (record { sender = n; block = block })
said_at e said = said

-- the last message
abbrev pub said_in : List Entry → Option Said
said_in [] = None
said_in (entry ∷ past) = said_at entry.event (said_in past)

abbrev pub count_at : Event → ℕ → ℕ
count_at (Publish n block) count = suc count
count_at e count = count

-- how many messages were published: that is the number of the last one, from 1
abbrev pub published_in : List Entry → ℕ
published_in [] = 0
published_in (entry ∷ past) = count_at entry.event (published_in past)

abbrev pub taken_at : ℕ → Event → ℕ → List ℕ → List ℕ
taken_at m (Take n) count numbers = if n == m then count ∷ numbers else numbers
taken_at m e count numbers = numbers

-- the numbers of the messages that the node took, the newest first: it reads the last one
abbrev pub taken_in : List Entry → ℕ → List ℕ
taken_in [] m = []
taken_in (entry ∷ past) m = taken_at m entry.event (published_in past) (taken_in past m)

pub data Deed : Type 0 where
  Taking Processing : Deed

abbrev pub deeds_at : ℕ → Event → List Deed → List Deed
deeds_at m (Publish n block) deeds = []
deeds_at m (Take n) deeds = if n == m then Taking ∷ deeds else deeds
deeds_at m (Processed n) deeds = if n == m then Processing ∷ deeds else deeds
deeds_at m e deeds = deeds

-- what the node did since the last publish, the newest first
abbrev pub deeds_in : List Entry → ℕ → List Deed
deeds_in [] m = []
deeds_in (entry ∷ past) m = deeds_at m entry.event (deeds_in past m)

abbrev pub up_at : ℕ → Event → Bool → Bool
up_at m (Finish n) up = if n == m then true else up
up_at m (Leave n) up = if n == m then false else up
up_at m (Die n) up = if n == m then false else up
up_at m e up = up

-- whether the node is up: a member from the opening on, another from the finish of its own round on, until it
-- leaves or dies
abbrev pub up_in : (ℕ → Bool) → List Entry → ℕ → Bool
up_in members [] m = nat_lt m 16 && members m
up_in members (entry ∷ past) m = up_at m entry.event (up_in members past m)

abbrev pub addressed_at : ℕ → Event → Bool → Bool → Bool
addressed_at m (Publish n block) up addressed = up && not (m == n)
addressed_at m e up addressed = addressed

-- whether the node was up at the last publish and isn't its sender
abbrev pub addressed_in : (ℕ → Bool) → List Entry → ℕ → Bool
addressed_in members [] m = false
addressed_in members (entry ∷ past) m = addressed_at m entry.event (up_in members past m) (addressed_in members past m)
