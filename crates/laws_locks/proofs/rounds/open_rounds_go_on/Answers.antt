use Rattle.laws_locks.proofs.GoingRuns.{open_rounds_go_on}
use Rattle.laws_locks.proofs.rounds.open_rounds_go_on.Goals as goal

pub returns : goal.returns
returns c = open_rounds_go_on
