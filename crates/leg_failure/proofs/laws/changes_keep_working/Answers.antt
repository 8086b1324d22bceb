use Rattle.leg_failure.proofs.LegsLeftLaws.{changes_keep_working}
use Rattle.leg_failure.proofs.laws.changes_keep_working.Goals as goal

pub returns : goal.returns
returns c = changes_keep_working
