-- When the block of a resource is told as valid, by the calls alone.
use Rattle.std.specs.Prelude.{◌≡◌, ℕ, ◌<◌, ◌==◌, Bool, false, not, ◌&&◌, ◌||◌, is_some}
use Rattle.std.specs.Prelude.{List, [], ◌∷◌, Some}
use Rattle.std.specs.Option.{option_map}
use Rattle.dlm_space.specs.Calls
use Rattle.dlm_space.specs.Locks.{grant_answer}
use Rattle.dlm_space.specs.Sound.{held_in, holds_writer}
use Rattle.dlm_space.specs.declared.answers.Converted.TheVariants.{Now}
use Rattle.lock_wire.specs.Machine.{Wire, master_of, heir, without_node, serve_answer, told}
use Rattle.laws_wire.specs.Runs.{Call, Dies, AreAccepted, wire_after}
use Rattle.laws_wire.specs.Made.{made_in}

-- a holder of PW or EX gives the block a value, by a conversion that is taken at once or by a
-- release
abbrev pub writes : Calls.Call → List Calls.Call → ℕ → Bool
writes (Calls.Converts n s mode (Some value) Now) past r =
    (r == s) && holds_writer (held_in past r n)
writes (Calls.Releases n s (Some value)) past r = (r == s) && holds_writer (held_in past r n)
writes call past r = false

-- one of the calls did
abbrev pub wrote_in : List Calls.Call → ℕ → Bool
wrote_in [] r = false
wrote_in (call ∷ past) r = writes call past r || wrote_in past r

-- the resource's master dies, and another node takes it over
abbrev pub taken_over_at : Wire → ℕ → Call → Bool
taken_over_at w r (Dies d) = (master_of w r == d) && is_some (heir (without_node w d))
taken_over_at w r call = false

abbrev pub taken_over_in : ℕ → List Call → ℕ → Bool
taken_over_in nodes [] r = false
taken_over_in nodes (call ∷ past) r =
    taken_over_at (wire_after nodes past) r call || taken_over_in nodes past r

-- the resource was taken over, and no call of its master since then wrote the block
abbrev pub is_stale : ℕ → List Call → ℕ → Bool
is_stale nodes past r = taken_over_in nodes past r && not (wrote_in (made_in nodes past r) r)

-- a serve answers what the lock space of the master's calls answers, but that a stale block isn't
-- told as valid
abbrev pub BlocksAreTold : Type 0
BlocksAreTold = (nodes : ℕ) (past : List Call) (r : ℕ) → AreAccepted nodes past → r < 21
    → serve_answer (wire_after nodes past) r
    ≡ option_map (told (is_stale nodes past r))
    (grant_answer (Calls.locks_after (made_in nodes past r) r))
