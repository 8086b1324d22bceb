use Rattle.std.proofs.Common.{arith}
use Rattle.report_text.proofs.Trimmed.{trimmed-append_zero, trimmed-append}
use Rattle.report_text.proofs.value.trimmed.Goals as goal

pub loop-front-preserved : goal.loop-front-preserved
loop-front-preserved c = grind (arith, trimmed-append_zero)

pub returns-in_default : goal.returns-in_default
returns-in_default c = grind (arith, trimmed-append)
