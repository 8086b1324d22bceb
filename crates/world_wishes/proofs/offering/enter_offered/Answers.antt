use Rattle.std.proofs.Common.{refl}
use Rattle.world_wishes.proofs.offering.enter_offered.Goals as goal

pub returns : goal.returns
returns c = rw (← c.core.view_is, c.offer_round.ensures.sender, c.offer_round.ensures.locks) refl
