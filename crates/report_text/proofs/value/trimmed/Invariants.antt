use Rattle.std.proofs.Common.{◌≡◌, length}
use Rattle.report_text.specs.Values.{trimmed}
use Rattle.report_text.proofs.value.trimmed.Given as goal

abbrev pub invariant-loop-front : goal.invariant-loop-front
invariant-loop-front l = trimmed l.kept ≡ trimmed l.bytes

abbrev pub decreases-loop-front : goal.decreases-loop-front
decreases-loop-front l = length l.kept
