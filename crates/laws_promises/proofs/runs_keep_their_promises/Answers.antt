use Rattle.laws_promises.proofs.Promises.{keep_promises}
use Rattle.laws_promises.proofs.runs_keep_their_promises.Goals as goal

pub returns : goal.returns
returns c = keep_promises c.calls_are_made.ensures c.rounds_follow.ensures c.open_rounds_go_on.ensures
