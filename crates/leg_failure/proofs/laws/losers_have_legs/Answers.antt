use Rattle.leg_failure.proofs.LegsLeftLaws.{losers_have_legs}
use Rattle.leg_failure.proofs.laws.losers_have_legs.Goals as goal

pub returns : goal.returns
returns c = losers_have_legs
