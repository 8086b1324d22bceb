use Rattle.laws_wire.proofs.First.{reports_come_first}
use Rattle.laws_wire.proofs.laws.reports_come_first.Goals as goal

pub returns : goal.returns
returns c = reports_come_first
