use Rattle.std.proofs.Common.{refl}
use Rattle.world_rounds.proofs.finishing.let_go_round.Goals as goal

pub returns : goal.returns
returns c = rw (← c.core.view_is, c.finish.ensures.sender, c.finish.ensures.locks) refl
