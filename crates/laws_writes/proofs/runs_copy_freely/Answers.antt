use Rattle.laws_writes.proofs.Promises.{runs_copy_freely}
use Rattle.laws_writes.proofs.runs_copy_freely.Goals as goal

pub returns : goal.returns
returns c = runs_copy_freely
