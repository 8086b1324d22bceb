-- Lists of accepted calls on a lock space, the newest first, and the locks after them.
use Rattle.std.specs.Prelude.{◌≡◌, ℕ, ◌<◌, List, [], ◌∷◌, Option, Some, None}
use Rattle.dlm_modes.specs.declared.block.Block.{Block}
use Rattle.dlm_modes.specs.declared.mode.Mode.{Mode}
use Rattle.dlm_modes.specs.Points.{with_at}
use Rattle.dlm_space.specs.Locks.{Lock, new_locks, ask_refusal, ask_now_refusal, convert_refusal, convert_now_refusal, grant_refusal, release_refusal, asked, asked_now, converted, converted_now, granted, released, all_died, valid_block, convert_answer, grant_answer}
use Rattle.dlm_space.specs.declared.answers.Converted.{Converted}
use Rattle.dlm_space.specs.declared.answers.Granted.{Granted}
use Rattle.dlm_space.specs.declared.answers.LockError.{LockError}

-- a call, with what it answered: the node, the resource, the mode, then the rest
pub data Call : Type 0 where
  Asks : (n r : ℕ) (mode : Mode) → Call
  AsksNow : (n r : ℕ) (mode : Mode) (given : Option Block) → Call
  Converts : (n r : ℕ) (mode : Mode) (value : Option Block) (answer : Converted) → Call
  ConvertsNow : (n r : ℕ) (mode : Mode) → Call
  Grants : (r : ℕ) (g : Granted) → Call
  Releases : (n r : ℕ) (value : Option Block) → Call
  Dies : (n : ℕ) → Call

-- a call is of a node below 16
abbrev pub IsOfNode : Call → Type 0
IsOfNode (Asks n r mode) = n < 16
IsOfNode (AsksNow n r mode given) = n < 16
IsOfNode (Converts n r mode value answer) = n < 16
IsOfNode (ConvertsNow n r mode) = n < 16
IsOfNode (Grants r g) = Unit {0}
IsOfNode (Releases n r value) = n < 16
IsOfNode (Dies n) = n < 16

abbrev pub refusal : (ℕ → Lock) → Call → Option LockError
refusal locks (Asks n r mode) = ask_refusal (locks r) n
refusal locks (AsksNow n r mode given) = ask_now_refusal (locks r) n mode
refusal locks (Converts n r mode value answer) = convert_refusal (locks r) n
refusal locks (ConvertsNow n r mode) = convert_now_refusal (locks r) n mode
refusal locks (Grants r g) = grant_refusal (locks r)
refusal locks (Releases n r value) = release_refusal (locks r) n
refusal locks (Dies n) = None

abbrev pub effect : (ℕ → Lock) → Call → ℕ → Lock
effect locks (Asks n r mode) = with_at locks r (asked (locks r) n mode)
effect locks (AsksNow n r mode given) = with_at locks r (asked_now (locks r) n mode)
effect locks (Converts n r mode value answer) = with_at locks r (converted (locks r) n mode value)
effect locks (ConvertsNow n r mode) = with_at locks r (converted_now (locks r) n mode)
effect locks (Grants r g) = with_at locks r (granted (locks r))
effect locks (Releases n r value) = with_at locks r (released (locks r) n value)
effect locks (Dies n) = all_died locks n

-- the call answers what it says
abbrev pub Answers : (ℕ → Lock) → Call → Type 0
Answers locks (AsksNow n r mode given) = given ≡ valid_block (locks r)
Answers locks (Converts n r mode value answer) = answer ≡ convert_answer (locks r) n mode
Answers locks (Grants r g) = Some g ≡ grant_answer (locks r)
Answers locks call = Unit {0}

pub record IsAccepted (locks : ℕ → Lock) (call : Call) : Type 0 where
  pub node : IsOfNode call
  pub accepted : refusal locks call ≡ None
  pub answers : Answers locks call

-- the locks to which the calls lead from these
abbrev pub locks_from : (ℕ → Lock) → List Call → ℕ → Lock
locks_from locks [] = locks
locks_from locks (call ∷ past) = effect (locks_from locks past) call

-- each call is accepted in its turn, from these locks on
abbrev pub AreAcceptedFrom : (ℕ → Lock) → List Call → Type 0
AreAcceptedFrom locks [] = Unit {0}
AreAcceptedFrom locks (call ∷ past) = AreAcceptedFrom locks past × IsAccepted (locks_from locks past) call

-- the calls are accepted in their turn from these locks on, and lead to those
pub record Leads (locks : ℕ → Lock) (past : List Call) (after : ℕ → Lock) : Type 0 where
  pub accepted : AreAcceptedFrom locks past
  pub leads : locks_from locks past ≡ after

abbrev pub locks_after : List Call → ℕ → Lock
locks_after past = locks_from new_locks past

-- each call was accepted in its turn
abbrev pub AreAccepted : List Call → Type 0
AreAccepted past = AreAcceptedFrom new_locks past
