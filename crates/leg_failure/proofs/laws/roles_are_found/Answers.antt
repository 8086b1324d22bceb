use Rattle.leg_failure.proofs.LegsLeftLaws.{roles_are_found}
use Rattle.leg_failure.proofs.laws.roles_are_found.Goals as goal

pub returns : goal.returns
returns c = roles_are_found
