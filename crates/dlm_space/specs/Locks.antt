-- The lock on one resource: who holds it, who waits for it, and its value block.
-- For each call: what refuses it, what becomes of the lock, and what is answered.
use Rattle.std.specs.Prelude.{ℕ, ◌==◌, Bool, true, false, not, ◌&&◌, ◌||◌, if◌then◌else◌, List, [], ◌∷◌, ◌++◌, Option, Some, None, is_some, is_none, unwrap_or, replicate}
use Rattle.dlm_modes.specs.First.{first_such}
use Rattle.dlm_modes.specs.Guards.{unless, or_then}
use Rattle.dlm_modes.specs.Modes.{agrees, weaker, writes_value, reads_value}
use Rattle.dlm_modes.specs.Points.{with_at}
use Rattle.dlm_modes.specs.declared.block.Block.{Block}
use Rattle.dlm_modes.specs.declared.mode.Mode.{Mode}
use Rattle.dlm_modes.specs.declared.mode.Mode.TheVariants.{NL, PW, EX}
use Rattle.dlm_space.specs.Queues.{ask_for, asks, without, head}
use Rattle.dlm_space.specs.declared.ask.Ask.{Ask}
use Rattle.dlm_space.specs.declared.answers.Converted.{Converted}
use Rattle.dlm_space.specs.declared.answers.Converted.TheVariants.{Now, Queued}
use Rattle.dlm_space.specs.declared.answers.Granted.{Granted}
use Rattle.dlm_space.specs.declared.answers.LockError.{LockError}
use Rattle.dlm_space.specs.declared.answers.LockError.TheVariants.{NotFree, NotHeld, AlreadyAsked, Blocked, NothingAsked, NotGrantable}

pub record Lock : Type 0 where
  -- None where the node holds nothing. NL is a mode, and is held
  pub held : ℕ → Option Mode
  -- those that wait, in order of asking
  pub conversions : List Ask
  pub requests : List Ask
  pub block : Block
  pub valid : Bool

-- 64 zero bytes
unfoldable pub zero_block : Block
zero_block = record { bytes = replicate 64 0 }

abbrev pub new_lock : Lock
new_lock = record { held = λ n. None; conversions = []; requests = []; block = zero_block; valid = true }

-- by resource
abbrev pub new_locks : ℕ → Lock
new_locks r = new_lock

-- the mode that the node holds, or NL
abbrev pub mode_of : Lock → ℕ → Mode
mode_of lock n = unwrap_or (lock.held n) NL

-- a holder of this mode writes the block
abbrev pub is_writer : Mode → Bool
is_writer PW = true
is_writer EX = true
is_writer mode = false

-- Guards.

-- what is held disagrees with the mode
abbrev pub disagrees : Mode → Option Mode → Bool
disagrees mode None = false
disagrees mode (Some held) = not (agrees mode held)

-- another node m holds what disagrees with the mode of n
abbrev pub is_against : Lock → ℕ → Mode → ℕ → Bool
is_against lock n mode m = not (m == n) && disagrees mode (lock.held m)

-- the least other holder that disagrees with the mode of n
abbrev pub blocker : Lock → ℕ → Mode → Option ℕ
blocker lock n mode = first_such (is_against lock n mode) 0 16

abbrev pub blocked : Lock → Option ℕ → Option LockError
blocked lock None = None
blocked lock (Some m) = Some (Blocked m (mode_of lock m))

abbrev pub not_grantable : Lock → Option ℕ → Option LockError
not_grantable lock None = None
not_grantable lock (Some m) = Some (NotGrantable m (mode_of lock m))

-- the node neither holds nor asks; where its conversion waits it holds
abbrev pub is_free : Lock → ℕ → Bool
is_free lock n = is_none (lock.held n) && not (asks n lock.requests)

abbrev pub not_held : Lock → ℕ → Option LockError
not_held lock n = unless (is_some (lock.held n)) NotHeld

abbrev pub ask_refusal : Lock → ℕ → Option LockError
ask_refusal lock n = unless (is_free lock n) NotFree

abbrev pub ask_now_refusal : Lock → ℕ → Mode → Option LockError
ask_now_refusal lock n mode = or_then (ask_refusal lock n) (blocked lock (blocker lock n mode))

abbrev pub convert_refusal : Lock → ℕ → Option LockError
convert_refusal lock n = or_then (not_held lock n) (unless (not (asks n lock.conversions)) AlreadyAsked)

abbrev pub convert_now_refusal : Lock → ℕ → Mode → Option LockError
convert_now_refusal lock n mode = or_then (convert_refusal lock n) (blocked lock (blocker lock n mode))

abbrev pub head_refusal : Lock → Option Ask → Option LockError
head_refusal lock None = Some NothingAsked
head_refusal lock (Some a) = not_grantable lock (blocker lock a.node a.mode)

abbrev pub grant_refusal : Lock → Option LockError
grant_refusal lock = head_refusal lock (head lock.conversions lock.requests)

abbrev pub release_refusal : Lock → ℕ → Option LockError
release_refusal lock n = not_held lock n

-- Effects.

-- the node holds the mode
abbrev pub holding : Lock → ℕ → Mode → Lock
holding lock n mode = record lock { held = with_at lock.held n (Some mode) }

-- the value, if there is one, is written: it is in the block, which is valid
abbrev pub with_value : Lock → Option Block → Lock
with_value lock value = record lock { block = unwrap_or value lock.block; valid = is_some value || lock.valid }

abbrev pub asked : Lock → ℕ → Mode → Lock
asked lock n mode = record lock { requests = lock.requests ++ ask_for n mode ∷ [] }

abbrev pub asked_now : Lock → ℕ → Mode → Lock
asked_now lock n mode = holding lock n mode

-- the conversion waits
abbrev pub queued : Lock → ℕ → Mode → Lock
queued lock n mode = record lock { conversions = lock.conversions ++ ask_for n mode ∷ [] }

-- the given value, where a conversion from one mode to the other writes it: the table is the kernel DLM's
abbrev pub converted_value : Mode → Mode → Option Block → Option Block
converted_value from to value = if writes_value from to then value else None

-- a weaker mode, or the same, is taken at once; else the conversion waits
abbrev pub converted : Lock → ℕ → Mode → Option Block → Lock
converted lock n mode value =
    if weaker (mode_of lock n) mode then holding (with_value lock (converted_value (mode_of lock n) mode value)) n mode else queued lock n mode

abbrev pub converted_now : Lock → ℕ → Mode → Lock
converted_now lock n mode = holding lock n mode

abbrev pub granted_from : Lock → List Ask → List Ask → Lock
granted_from lock (a ∷ conversions) requests = record lock { held = with_at lock.held a.node (Some a.mode); conversions = conversions }
granted_from lock [] (a ∷ requests) = record lock { held = with_at lock.held a.node (Some a.mode); requests = requests }
granted_from lock [] [] = lock

-- the first conversion, else the first request, is granted
abbrev pub granted : Lock → Lock
granted lock = granted_from lock lock.conversions lock.requests

-- the given value, where a release of the mode writes it
abbrev pub released_value : Mode → Option Block → Option Block
released_value from value = if is_writer from then value else None

-- the node holds nothing, and its waiting conversion is dropped
abbrev pub let_go : Lock → ℕ → Lock
let_go lock n = record lock { held = with_at lock.held n None; conversions = without n lock.conversions }

abbrev pub released : Lock → ℕ → Option Block → Lock
released lock n value = let_go (with_value lock (released_value (mode_of lock n) value)) n

-- its request is dropped too, and the block is invalid where it held PW or EX
abbrev pub died : Lock → ℕ → Lock
died lock n = record (let_go lock n) {
  requests = without n lock.requests;
  valid = lock.valid && not (is_writer (mode_of lock n));
}

-- the node leaves all resources
abbrev pub all_died : (ℕ → Lock) → ℕ → ℕ → Lock
all_died locks n r = died (locks r) n

-- the node lets go of all that it holds, without a value, and its requests stay
abbrev pub all_let_go : (ℕ → Lock) → ℕ → ℕ → Lock
all_let_go locks n r = let_go (locks r) n

-- Answers.

-- the block, where it is valid
abbrev pub valid_block : Lock → Option Block
valid_block lock = if lock.valid then Some lock.block else None

abbrev pub convert_answer : Lock → ℕ → Mode → Converted
convert_answer lock n mode = if weaker (mode_of lock n) mode then Now else Queued

-- an ask that is granted from a mode gets the block where the conversion reads it, by the same table
abbrev pub answer_to : Lock → Mode → Ask → Granted
answer_to lock from a = record {
  node = a.node;
  mode = a.mode;
  value = (if reads_value from a.mode then Some lock.block else None);
  valid = lock.valid;
}

-- a conversion is granted from the mode held, a request from NL
abbrev pub answer_from : Lock → List Ask → List Ask → Option Granted
answer_from lock (a ∷ conversions) requests = Some (answer_to lock (mode_of lock a.node) a)
answer_from lock [] (a ∷ requests) = Some (answer_to lock NL a)
answer_from lock [] [] = None

abbrev pub grant_answer : Lock → Option Granted
grant_answer lock = answer_from lock lock.conversions lock.requests

-- Callbacks.

abbrev pub calling : Lock → ℕ → Option Ask → Option ℕ
calling lock n None = None
calling lock n (Some a) = if is_against lock a.node a.mode n then Some a.node else None

-- the asker at the head whose mode disagrees with what this other node holds
abbrev pub caller : Lock → ℕ → Option ℕ
caller lock n = calling lock n (head lock.conversions lock.requests)
