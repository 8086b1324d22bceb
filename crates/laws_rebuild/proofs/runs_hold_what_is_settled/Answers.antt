use Rattle.laws_rebuild.proofs.Promises.{runs_hold_what_is_settled}
use Rattle.laws_rebuild.proofs.runs_hold_what_is_settled.Goals as goal

pub returns : goal.returns
returns c = runs_hold_what_is_settled
