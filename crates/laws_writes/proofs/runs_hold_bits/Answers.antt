use Rattle.laws_writes.proofs.Promises.{runs_hold_bits}
use Rattle.laws_writes.proofs.runs_hold_bits.Goals as goal

pub returns : goal.returns
returns c = runs_hold_bits
