use Rattle.crew_check.proofs.RowLaws.{no_rows}
use Rattle.crew_check.proofs.rows.Rows.new.Goals as goal

pub returns : goal.returns
returns c = no_rows
