use Rattle.laws_recovery.proofs.Promises.{runs_are_legal}
use Rattle.laws_recovery.proofs.runs_are_legal.Goals as goal

pub returns : goal.returns
returns c = runs_are_legal
