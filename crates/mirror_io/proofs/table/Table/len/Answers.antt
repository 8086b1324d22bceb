use Rattle.std.proofs.Common.{◌∙◌}
use Rattle.mirror_io.proofs.Tables.{length-table}
use Rattle.mirror_io.proofs.table.Table.len.Goals as goal

pub returns-clause-len : goal.returns-clause-len
returns-clause-len g c = c.len.ensures.value ∙ length-table _ _ _ c.self.invariant c.self.view_is
