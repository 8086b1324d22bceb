use Rattle.laws_writes.proofs.Promises.{runs_hold_windows}
use Rattle.laws_writes.proofs.runs_hold_windows.Goals as goal

pub returns : goal.returns
returns c = runs_hold_windows
