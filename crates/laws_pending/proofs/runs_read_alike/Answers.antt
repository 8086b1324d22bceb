use Rattle.laws_pending.proofs.Alike.{runs_read_alike}
use Rattle.laws_pending.proofs.runs_read_alike.Goals as goal

pub returns : goal.returns
returns c = runs_read_alike
