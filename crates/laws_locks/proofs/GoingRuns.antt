-- Open rounds go on, at each place of each run.
use Rattle.std.proofs.Common.{◌<◌, ℕ, Bool, List, sym, subst}
use Rattle.laws_rounds.specs.Machine as rounds
use Rattle.cluster_model.specs.State.{State}
use Rattle.cluster_model.specs.Opening.{is_member}
use Rattle.laws_locks.specs.Following.{rounds_in}
use Rattle.laws_locks.specs.Others.{OtherLocks}
use Rattle.laws_locks.specs.Going.{round_rank, CanGoOn, OpenRoundsGoOn}
use Rattle.laws_locks.proofs.Keeping.{Kept}
use Rattle.laws_locks.proofs.Facts.{rounded}
use Rattle.laws_locks.proofs.Falls.{going, done_falls, step_done}
use Rattle.laws_locks.proofs.Onward.{onward}
use Rattle.laws_locks.proofs.Runs.{run_kept, run_is}
use Rattle.laws_locks.proofs.OtherRuns.{MembersAreClean, others_after}

can_go_on : (members : ℕ → Bool) (past : List rounds.Entry) (state : State) → Kept members past state.core → OtherLocks state.core → CanGoOn state
can_go_on members past state k others =
    let g = going members past state.core k in
    record {
      unstuck = λ opened. let f = g.unstuck opened in onward state.core (rounded members past state.core k) others f.0 f.1.0 f.1.1;
      falls = λ e o next ends step. subst (λ c. round_rank c < round_rank state.core) (sym (step_done state e o next ends step)) (done_falls members past state.core k e o ends step.accepted);
      bounded = g.bounded;
    }

pub open_rounds_go_on : OpenRoundsGoOn
open_rounds_go_on o start end past is opens run =
    let clean : MembersAreClean o = is.clean in
    let r = run_is o start opens past end run in
    can_go_on (is_member o) (rounds_in o past) end
    (subst (Kept (is_member o) (rounds_in o past)) (sym r.leads) (run_kept o is past r.accepted))
    (subst OtherLocks (sym r.leads) (others_after o is clean past r.accepted))
