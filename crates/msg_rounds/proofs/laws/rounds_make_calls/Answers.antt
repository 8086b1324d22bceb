use Rattle.msg_rounds.proofs.Making.{rounds_make_calls}
use Rattle.msg_rounds.proofs.laws.rounds_make_calls.Goals as goal

pub returns : goal.returns
returns c = rounds_make_calls
