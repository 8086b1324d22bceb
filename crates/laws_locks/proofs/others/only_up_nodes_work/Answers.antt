use Rattle.laws_locks.proofs.OtherRuns.{only_up}
use Rattle.laws_locks.proofs.others.only_up_nodes_work.Goals as goal

pub returns : goal.returns
returns c = only_up
