use Rattle.std.proofs.Common.{ap, sym, Some, None, refl}
use Rattle.laws_wire.specs.Runs.{Releases}
use Rattle.script_text.specs.declared.wire.WireLine.TheVariants as lines
use Rattle.report_text.specs.declared.wire.WireReply.TheVariants as replies
use Rattle.wire_script.proofs.Taking.{accepts, refuses}
use Rattle.wire_script.proofs.replies.release.Goals as goal

pub returns-in-Ok-clause-ok : goal.returns-in-Ok-clause-ok
returns-in-Ok-clause-ok c =
    let a = c.args in
    accepts _ _ (lines.Release a.node a.res) (Releases a.node c.number.result None) (ap (λ r. Some (Releases a.node r None)) (sym c.number.ensures.value)) replies.Released c.number.ensures.range c.in-Ok.ensures.refused refl c.in-Ok.ensures.ok

pub returns-in-Err-clause-ok : goal.returns-in-Err-clause-ok
returns-in-Err-clause-ok c =
    let a = c.args in
    refuses _ _ (lines.Release a.node a.res) (Releases a.node c.number.result None) (ap (λ r. Some (Releases a.node r None)) (sym c.number.ensures.value)) (Unit {0}) c.in-Err.end c.refused.result c.in-Err.ensures.refused c.refused.ensures c.in-Err.ensures.err
