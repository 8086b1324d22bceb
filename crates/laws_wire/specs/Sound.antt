-- What is said of a spread lock space, over every list of its accepted calls.
use Rattle.std.specs.Prelude.{◌≡◌, ◌≢◌, ℕ, ◌<◌, true, false, List, None}
use Rattle.dlm_space.specs.Orderly.{agree}
use Rattle.dlm_space.specs.Sound.{held_in}
use Rattle.lock_wire.specs.Locals.{mode_held}
use Rattle.lock_wire.specs.Machine.{Wire, master_of, serve_refusal}
use Rattle.laws_wire.specs.Runs.{Call, AreAccepted, wire_after}
use Rattle.laws_wire.specs.Made.{made_in, MadeSound}
use Rattle.laws_wire.specs.Tickets.{AreAnswers}
use Rattle.laws_wire.specs.Views.{covers, has_report, words}

-- the local modes of any two live nodes agree
abbrev pub LocksAgree : Wire → Type 0
LocksAgree w = (r n m : ℕ) → r < 21 → n ≢ m → w.live n ≡ true → w.live m ≡ true → agree (mode_held (w.local n r)) (mode_held (w.local m r)) ≡ true

-- a report is awaited exactly where it stands on its way to the master
abbrev pub ReportsAreAwaited : Wire → Type 0
ReportsAreAwaited w = (r n : ℕ) → r < 21 → w.live n ≡ true → (w.ward r).awaited n ≡ has_report (words r (w.link n (master_of w r)))

-- a master that serves has taken the reports of all live nodes
abbrev pub ServesAfterReports : Wire → Type 0
ServesAfterReports w = (r n : ℕ) → r < 21 → serve_refusal w r ≡ None → w.live n ≡ true → has_report (words r (w.link n (master_of w r))) ≡ false

pub record WireSound (w : Wire) : Type 0 where
  pub agree : LocksAgree w
  pub awaited : ReportsAreAwaited w
  pub rebuilt : ServesAfterReports w

-- what the master's calls gave a live node whose report isn't on its way agrees with no more than what the node holds
abbrev pub MastersCover : ℕ → List Call → Type 0
MastersCover nodes past =
    let w = wire_after nodes past in
    (r n : ℕ) → r < 21 → w.live n ≡ true → has_report (words r (w.link n (master_of w r))) ≡ false → covers (held_in (made_in nodes past r) r n) (mode_held (w.local n r)) ≡ true

pub record RunSound (nodes : ℕ) (past : List Call) : Type 0 where
  pub state : WireSound (wire_after nodes past)
  -- each grant serves the ask or the conversion that its node made last, and each that is taken answers it
  pub answers : AreAnswers nodes past
  pub covered : MastersCover nodes past
  -- a master's calls on a resource are calls of one lock space
  pub made : (r : ℕ) → r < 21 → MadeSound nodes past r

abbrev pub WiresAreSound : Type 0
WiresAreSound = (nodes : ℕ) (past : List Call) → AreAccepted nodes past → RunSound nodes past
