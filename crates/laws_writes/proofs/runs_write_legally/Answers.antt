use Rattle.laws_writes.proofs.Promises.{runs_write_legally}
use Rattle.laws_writes.proofs.runs_write_legally.Goals as goal

pub returns : goal.returns
returns c = runs_write_legally
