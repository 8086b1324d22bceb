use Rattle.laws_writes.proofs.Promises.{runs_hold_writes}
use Rattle.laws_writes.proofs.runs_hold_writes.Goals as goal

pub returns : goal.returns
returns c = runs_hold_writes
