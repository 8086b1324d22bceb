use Rattle.laws_rebuild.proofs.Promises.{runs_rebuild_legs}
use Rattle.laws_rebuild.proofs.runs_rebuild_legs.Goals as goal

pub returns : goal.returns
returns c = runs_rebuild_legs
