use Rattle.plain_history.proofs.SeenLaw.{finished_writes_are_seen}
use Rattle.plain_history.proofs.finished_writes_are_seen.Goals as goal

pub returns : goal.returns
returns c = finished_writes_are_seen
