use Rattle.leg_failure.proofs.LegsLeftLaws.{proposers_have_legs}
use Rattle.leg_failure.proofs.laws.proposers_have_legs.Goals as goal

pub returns : goal.returns
returns c = proposers_have_legs
