-- Which calls of a master are of a node.
use Rattle.std.specs.Prelude.{◌≡◌, ℕ, ◌<◌, ◌==◌, Bool, true, false, ◌||◌, List, [], ◌∷◌}
use Rattle.dlm_space.specs.Calls
use Rattle.lock_wire.specs.Machine.{master_of}
use Rattle.laws_wire.specs.Runs.{Call, AreAccepted, wire_after}
use Rattle.laws_wire.specs.Made.{made_in}
use Rattle.laws_wire.specs.Views.{has_report, words}

abbrev pub is_of : Calls.Call → ℕ → Bool
is_of (Calls.Asks m r mode) n = m == n
is_of (Calls.AsksNow m r mode given) n = m == n
is_of (Calls.Converts m r mode value answer) n = m == n
is_of (Calls.ConvertsNow m r mode) n = m == n
is_of (Calls.Grants r g) n = g.node == n
is_of (Calls.Releases m r value) n = m == n
is_of (Calls.Dies m) n = m == n

-- one of the calls is of the node
abbrev pub has_call_of : List Calls.Call → ℕ → Bool
has_call_of [] n = false
has_call_of (call ∷ past) n = is_of call n || has_call_of past n

-- while a live node's report is on its way to the master, the master has made no call of that node
-- since it took over. So the first calls of each node are those that its report tells
abbrev pub ReportsComeFirst : Type 0
ReportsComeFirst = (nodes : ℕ) (past : List Call) (r n : ℕ) → AreAccepted nodes past → r < 21
    → (wire_after nodes past).live n ≡ true
    → has_report (words r ((wire_after nodes past).link n (master_of (wire_after nodes past) r))) ≡ true
    → has_call_of (made_in nodes past r) n ≡ false
