use Rattle.plain_history.proofs.OpenLaw.{open_writes_are_candidates}
use Rattle.plain_history.proofs.open_writes_are_candidates.Goals as goal

pub returns : goal.returns
returns c = open_writes_are_candidates
