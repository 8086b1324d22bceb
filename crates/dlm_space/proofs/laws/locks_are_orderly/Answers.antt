use Rattle.dlm_space.proofs.Runs.{runs_orderly}
use Rattle.dlm_space.proofs.laws.locks_are_orderly.Goals as goal

pub returns : goal.returns
returns c = runs_orderly
