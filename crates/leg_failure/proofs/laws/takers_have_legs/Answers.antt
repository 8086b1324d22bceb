use Rattle.leg_failure.proofs.ViewLaws.{works-taken}
use Rattle.leg_failure.proofs.laws.takers_have_legs.Goals as goal

pub returns : goal.returns
returns c = works-taken
