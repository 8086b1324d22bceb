use Rattle.leg_failure.proofs.LegsLeftLaws.{finishers_have_legs}
use Rattle.leg_failure.proofs.laws.finishers_have_legs.Goals as goal

pub returns : goal.returns
returns c = finishers_have_legs
