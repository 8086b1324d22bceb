use Rattle.std.proofs.Common.{ap, refl}
use Rattle.std.specs.Option.{option_map}
use Rattle.lock_wire.specs.declared.packet.Taken.{Taken}
use Rattle.laws_wire.specs.Runs.{Delivers}
use Rattle.script_text.specs.declared.wire.WireLine.TheVariants as lines
use Rattle.report_text.specs.declared.wire.WireReply.TheVariants as replies
use Rattle.wire_script.proofs.Taking.{accepts, refuses}
use Rattle.wire_script.proofs.replies.deliver.Goals as goal

pub returns-in-Ok-clause-ok : goal.returns-in-Ok-clause-ok
returns-in-Ok-clause-ok c =
    let a = c.args in
    accepts _ _ (lines.Deliver a.from a.to) (Delivers a.from a.to) refl (replies.Took c.in-Ok.kind) tt c.in-Ok.ensures.refused (ap (option_map replies.Took) c.in-Ok.ensures.kind) c.in-Ok.ensures.ok

pub returns-in-Err-clause-ok : goal.returns-in-Err-clause-ok
returns-in-Err-clause-ok c =
    let a = c.args in
    refuses _ _ (lines.Deliver a.from a.to) (Delivers a.from a.to) refl Taken c.in-Err.end c.refused.result c.in-Err.ensures.refused c.refused.ensures c.in-Err.ensures.err
