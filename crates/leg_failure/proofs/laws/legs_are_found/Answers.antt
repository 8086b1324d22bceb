use Rattle.leg_failure.proofs.LegsLeftLaws.{legs_are_found}
use Rattle.leg_failure.proofs.laws.legs_are_found.Goals as goal

pub returns : goal.returns
returns c = legs_are_found
