use Rattle.std.proofs.Common.{ap, sym, Some, refl}
use Rattle.laws_wire.specs.Runs.{Asks}
use Rattle.script_text.specs.declared.wire.WireLine.TheVariants as lines
use Rattle.report_text.specs.declared.wire.WireReply.TheVariants as replies
use Rattle.wire_script.proofs.Taking.{accepts, refuses}
use Rattle.wire_script.proofs.replies.ask.Goals as goal

pub returns-in-Ok-clause-ok : goal.returns-in-Ok-clause-ok
returns-in-Ok-clause-ok c =
    let a = c.args in
    accepts _ _ (lines.Ask a.node a.res a.mode) (Asks a.node c.number.result a.mode) (ap (λ r. Some (Asks a.node r a.mode)) (sym c.number.ensures.value)) replies.Asked c.number.ensures.range c.in-Ok.ensures.refused refl c.in-Ok.ensures.ok

pub returns-in-Err-clause-ok : goal.returns-in-Err-clause-ok
returns-in-Err-clause-ok c =
    let a = c.args in
    refuses _ _ (lines.Ask a.node a.res a.mode) (Asks a.node c.number.result a.mode) (ap (λ r. Some (Asks a.node r a.mode)) (sym c.number.ensures.value)) (Unit {0}) c.in-Err.end c.refused.result c.in-Err.ensures.refused c.refused.ensures c.in-Err.ensures.err
