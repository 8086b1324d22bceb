use Rattle.laws_recovery.proofs.Promises.{runs_serve_no_stale_leg}
use Rattle.laws_recovery.proofs.runs_serve_no_stale_leg.Goals as goal

pub returns : goal.returns
returns c = runs_serve_no_stale_leg
