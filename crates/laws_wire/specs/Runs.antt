-- Lists of accepted calls of a spread lock space, the newest first, and the state after them.
use Rattle.std.specs.Prelude.{◌≡◌, ℕ, ◌<◌, ◌≤◌, List, [], ◌∷◌, Option, None}
use Rattle.dlm_modes.specs.declared.block.Block.{Block}
use Rattle.dlm_modes.specs.declared.mode.Mode.{Mode}
use Rattle.lock_wire.specs.declared.ends.WireEnd.{WireEnd}
use Rattle.lock_wire.specs.Machine.{Wire, opened, ask_refusal_at, convert_refusal_at, release_refusal_at, deliver_refusal, serve_refusal, node_refusal, asked_of, converted_of, released_of, delivered, served, died_of}

pub data Call : Type 0 where
  Asks : (n r : ℕ) (mode : Mode) → Call
  Converts : (n r : ℕ) (mode : Mode) (value : Option Block) → Call
  Releases : (n r : ℕ) (value : Option Block) → Call
  Delivers : (a b : ℕ) → Call
  Serves : (r : ℕ) → Call
  Dies : (n : ℕ) → Call

-- a call is of a resource below 21
abbrev pub IsOfResource : Call → Type 0
IsOfResource (Asks n r mode) = r < 21
IsOfResource (Converts n r mode value) = r < 21
IsOfResource (Releases n r value) = r < 21
IsOfResource (Delivers a b) = Unit {0}
IsOfResource (Serves r) = r < 21
IsOfResource (Dies n) = Unit {0}

abbrev pub refusal : Wire → Call → Option WireEnd
refusal w (Asks n r mode) = ask_refusal_at w n r
refusal w (Converts n r mode value) = convert_refusal_at w n r
refusal w (Releases n r value) = release_refusal_at w n r
refusal w (Delivers a b) = deliver_refusal w a b
refusal w (Serves r) = serve_refusal w r
refusal w (Dies n) = node_refusal w n

abbrev pub effect : Wire → Call → Wire
effect w (Asks n r mode) = asked_of w n r mode
effect w (Converts n r mode value) = converted_of w n r mode value
effect w (Releases n r value) = released_of w n r value
effect w (Delivers a b) = delivered w a b
effect w (Serves r) = served w r
effect w (Dies n) = died_of w n

abbrev pub wire_after : ℕ → List Call → Wire
wire_after nodes [] = opened nodes
wire_after nodes (call ∷ past) = effect (wire_after nodes past) call

pub record IsAccepted (w : Wire) (call : Call) : Type 0 where
  pub resource : IsOfResource call
  pub accepted : refusal w call ≡ None

-- each call is accepted in its turn
abbrev pub AreAccepted : ℕ → List Call → Type 0
AreAccepted nodes [] = (1 ≤ nodes) × (nodes ≤ 16)
AreAccepted nodes (call ∷ past) = AreAccepted nodes past × IsAccepted (wire_after nodes past) call
