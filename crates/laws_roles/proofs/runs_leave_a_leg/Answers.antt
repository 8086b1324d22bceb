use Rattle.laws_roles.proofs.Promises.{runs_leave_a_leg}
use Rattle.laws_roles.proofs.runs_leave_a_leg.Goals as goal

pub returns : goal.returns
returns c = runs_leave_a_leg
