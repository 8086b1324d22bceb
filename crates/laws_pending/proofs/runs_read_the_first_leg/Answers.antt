use Rattle.laws_pending.proofs.Alike.{runs_read_the_first_leg}
use Rattle.laws_pending.proofs.runs_read_the_first_leg.Goals as goal

pub returns : goal.returns
returns c = runs_read_the_first_leg
