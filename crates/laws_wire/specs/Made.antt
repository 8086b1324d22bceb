-- The calls that a resource's master made on its table since it became its master, as a list of calls of a lock space.
use Rattle.std.specs.Prelude.{◌≡◌, ℕ, ◌==◌, Bool, true, if◌then◌else◌, List, [], ◌∷◌, slice_index_or, Option, Some, None}
use Rattle.std.specs.Option.{option_map}
use Rattle.dlm_modes.specs.declared.block.Block.{Block}
use Rattle.dlm_modes.specs.declared.mode.Mode.{Mode}
use Rattle.dlm_space.specs.Calls
use Rattle.dlm_space.specs.Locks.{valid_block, convert_answer, grant_answer}
use Rattle.dlm_space.specs.Sound.{LockSound}
use Rattle.dlm_space.specs.declared.answers.Granted.{Granted}
use Rattle.lock_wire.specs.Machine.{Wire, master_of, heir, without_node, serve_answer, told}
use Rattle.lock_wire.specs.Packets.{first}
use Rattle.lock_wire.specs.declared.local.Local.{Local}
use Rattle.lock_wire.specs.declared.local.Local.TheVariants.{Free, Asking, Held, Converting}
use Rattle.lock_wire.specs.declared.packet.Packet.{Packet}
use Rattle.lock_wire.specs.declared.packet.Packet.TheVariants as packets
use Rattle.laws_wire.specs.Runs.{Call, Delivers, Serves, Dies, wire_after}

-- each call with the answer that the lock space gives after the calls before it
abbrev pub asking_now : List Calls.Call → ℕ → ℕ → Mode → List Calls.Call
asking_now past r n mode = Calls.AsksNow n r mode (valid_block (Calls.locks_after past r)) ∷ past

abbrev pub converting : List Calls.Call → ℕ → ℕ → Mode → Option Block → List Calls.Call
converting past r n mode value = Calls.Converts n r mode value (convert_answer (Calls.locks_after past r) n mode) ∷ past

abbrev pub reporting : List Calls.Call → ℕ → ℕ → Option Local → List Calls.Call
reporting past r n None = past
reporting past r n (Some Free) = past
reporting past r n (Some (Asking to)) = Calls.Asks n r to ∷ past
reporting past r n (Some (Held mode)) = asking_now past r n mode
reporting past r n (Some (Converting from to)) = converting (asking_now past r n from) r n to None

abbrev pub hearing : List Calls.Call → ℕ → ℕ → Option Packet → List Calls.Call
hearing past r n (Some (packets.Ask s to)) = if s == r then Calls.Asks n r to ∷ past else past
hearing past r n (Some (packets.Convert s to value)) = if s == r then converting past r n to value else past
hearing past r n (Some (packets.Release s value)) = if s == r then Calls.Releases n r value ∷ past else past
hearing past r n (Some (packets.Report states)) = reporting past r n (slice_index_or states r None)
hearing past r n p = past

abbrev pub serving : List Calls.Call → ℕ → Option Granted → List Calls.Call
serving past r None = past
serving past r (Some g) = Calls.Grants r g ∷ past

-- a new master begins anew
abbrev pub dying : List Calls.Call → ℕ → Bool → Option ℕ → List Calls.Call
dying past d true (Some m) = []
dying past d was_master o = Calls.Dies d ∷ past

abbrev pub made_at : Wire → ℕ → Call → List Calls.Call → List Calls.Call
made_at w r (Delivers a b) past = hearing past r a (first (w.link a b))
made_at w r (Serves s) past = if s == r then serving past r (grant_answer (Calls.locks_after past r)) else past
made_at w r (Dies d) past = dying past d (master_of w r == d) (heir (without_node w d))
made_at w r call past = past

abbrev pub made_in : ℕ → List Call → ℕ → List Calls.Call
made_in nodes [] r = []
made_in nodes (call ∷ past) r = made_at (wire_after nodes past) r call (made_in nodes past r)

-- none of these calls is refused, so what is said of a lock space holds of them. What a serve answers is what the lock
-- space answers, but that a stale block is told as not valid
pub record MadeSound (nodes : ℕ) (past : List Call) (r : ℕ) : Type 0 where
  pub accepted : Calls.AreAccepted (made_in nodes past r)
  pub sound : LockSound (made_in nodes past r)
  pub answer : serve_answer (wire_after nodes past) r ≡ option_map (told ((wire_after nodes past).ward r).stale) (grant_answer (Calls.locks_after (made_in nodes past r) r))
