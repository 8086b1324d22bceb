-- What is said of a lock space by the list of its accepted calls alone, the newest first.
use Rattle.std.specs.Prelude.{◌≡◌, ◌≢◌, ℕ, ◌==◌, Bool, true, false, ◌&&◌, if◌then◌else◌, List, [], ◌∷◌, ◌++◌, Option, Some, None, unwrap_or}
use Rattle.dlm_modes.specs.Modes.{agrees, weaker, reads_value}
use Rattle.dlm_modes.specs.declared.block.Block.{Block}
use Rattle.dlm_modes.specs.declared.mode.Mode.{Mode}
use Rattle.dlm_modes.specs.declared.mode.Mode.TheVariants.{NL}
use Rattle.dlm_space.specs.Queues.{ask_for, asks, without, head}
use Rattle.dlm_space.specs.Locks.{zero_block, is_writer}
use Rattle.dlm_space.specs.Calls.{Call, Asks, AsksNow, Converts, ConvertsNow, Grants, Releases, Dies, locks_after, AreAccepted}
use Rattle.dlm_space.specs.declared.ask.Ask.{Ask}
use Rattle.dlm_space.specs.declared.answers.Converted.TheVariants.{Now, Queued}

-- what the last grant or conversion to the node gave it there, until its release or death
abbrev pub held_in : List Call → ℕ → ℕ → Option Mode
held_in [] r n = None
held_in (AsksNow m s mode given ∷ past) r n = if (r == s) && (n == m) then Some mode else held_in past r n
held_in (Converts m s mode value Now ∷ past) r n = if (r == s) && (n == m) then Some mode else held_in past r n
held_in (ConvertsNow m s mode ∷ past) r n = if (r == s) && (n == m) then Some mode else held_in past r n
held_in (Grants s g ∷ past) r n = if (r == s) && (n == g.node) then Some g.mode else held_in past r n
held_in (Releases m s value ∷ past) r n = if (r == s) && (n == m) then None else held_in past r n
held_in (Dies m ∷ past) r n = if n == m then None else held_in past r n
held_in (call ∷ past) r n = held_in past r n

-- the conversions that wait, in order of asking: a node's until it is granted, or its release or death
abbrev pub conversions_in : List Call → ℕ → List Ask
conversions_in [] r = []
conversions_in (Converts m s mode value Queued ∷ past) r = if r == s then conversions_in past r ++ ask_for m mode ∷ [] else conversions_in past r
conversions_in (Grants s g ∷ past) r = if r == s then without g.node (conversions_in past r) else conversions_in past r
conversions_in (Releases m s value ∷ past) r = if r == s then without m (conversions_in past r) else conversions_in past r
conversions_in (Dies m ∷ past) r = without m (conversions_in past r)
conversions_in (call ∷ past) r = conversions_in past r

-- the requests that wait, in order of asking: a node's until it is granted, or its death
abbrev pub requests_in : List Call → ℕ → List Ask
requests_in [] r = []
requests_in (Asks m s mode ∷ past) r = if r == s then requests_in past r ++ ask_for m mode ∷ [] else requests_in past r
requests_in (Grants s g ∷ past) r = if r == s then without g.node (requests_in past r) else requests_in past r
requests_in (Dies m ∷ past) r = without m (requests_in past r)
requests_in (call ∷ past) r = requests_in past r

-- the node holds PW or EX there
abbrev pub holds_writer : Option Mode → Bool
holds_writer None = false
holds_writer (Some mode) = is_writer mode

-- the value of the last immediate conversion or release from PW or EX that gave one
abbrev pub block_in : List Call → ℕ → Block
block_in [] r = zero_block
block_in (Converts m s mode (Some value) Now ∷ past) r = if (r == s) && holds_writer (held_in past r m) then value else block_in past r
block_in (Releases m s (Some value) ∷ past) r = if (r == s) && holds_writer (held_in past r m) then value else block_in past r
block_in (call ∷ past) r = block_in past r

-- no holder of PW or EX died since that value
abbrev pub valid_in : List Call → ℕ → Bool
valid_in [] r = true
valid_in (Converts m s mode (Some value) Now ∷ past) r = if (r == s) && holds_writer (held_in past r m) then true else valid_in past r
valid_in (Releases m s (Some value) ∷ past) r = if (r == s) && holds_writer (held_in past r m) then true else valid_in past r
valid_in (Dies m ∷ past) r = if holds_writer (held_in past r m) then false else valid_in past r
valid_in (call ∷ past) r = valid_in past r

-- the mode from which the node is granted: that which it holds, or NL
abbrev pub mode_in : List Call → ℕ → ℕ → Mode
mode_in past r n = unwrap_or (held_in past r n) NL

-- a grant serves the first conversion that waits, else the first request, and hands out the block
-- where the conversion reads it; ask_now hands it out where it is valid; a conversion to a weaker
-- mode is immediate. An immediate conversion and convert_now hand out nothing: they answer no block
abbrev pub IsRight : Call → List Call → Type 0
IsRight (AsksNow n r mode given) past = given ≡ (if valid_in past r then Some (block_in past r) else None)
IsRight (Converts n r mode value answer) past = answer ≡ (if weaker (mode_in past r n) mode then Now else Queued)
IsRight (Grants r g) past =
    (head (conversions_in past r) (requests_in past r) ≡ Some (ask_for g.node g.mode)) × (g.value ≡ (if reads_value (mode_in past r g.node) g.mode then Some (block_in past r) else None)) × (g.valid ≡ valid_in past r)
IsRight call past = Unit {0}

abbrev pub AreRight : List Call → Type 0
AreRight [] = Unit {0}
AreRight (call ∷ past) = AreRight past × IsRight call past

-- the locks after the calls are those that the calls tell, and each call answered right
pub record LockSound (past : List Call) : Type 0 where
  pub held : (r n : ℕ) → (locks_after past r).held n ≡ held_in past r n
  pub agree : (r n m : ℕ) (a b : Mode) → n ≢ m → held_in past r n ≡ Some a → held_in past r m ≡ Some b → agrees a b ≡ true
  pub conversions : (r : ℕ) → (locks_after past r).conversions ≡ conversions_in past r
  pub requests : (r : ℕ) → (locks_after past r).requests ≡ requests_in past r
  -- who requests holds nothing, so a request is granted from NL
  pub requester : (r n : ℕ) → asks n (requests_in past r) ≡ true → held_in past r n ≡ None
  pub block : (r : ℕ) → (locks_after past r).block ≡ block_in past r
  pub valid : (r : ℕ) → (locks_after past r).valid ≡ valid_in past r
  pub answers : AreRight past

abbrev pub CallsAreSound : Type 0
CallsAreSound = (past : List Call) → AreAccepted past → LockSound past
