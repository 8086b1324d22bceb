use Rattle.laws_locks.proofs.Runs.{rounds_follow}
use Rattle.laws_locks.proofs.rounds.rounds_follow.Goals as goal

pub returns : goal.returns
returns c = rounds_follow c.told_rounds_go_on.ensures
