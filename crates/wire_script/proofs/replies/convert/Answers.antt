use Rattle.std.proofs.Common.{ap, sym, Some, None}
use Rattle.std.specs.Option.{option_map}
use Rattle.dlm_space.specs.declared.answers.Converted.{Converted}
use Rattle.laws_wire.specs.Runs.{Converts}
use Rattle.script_text.specs.declared.wire.WireLine.TheVariants as lines
use Rattle.report_text.specs.declared.wire.WireReply.TheVariants as replies
use Rattle.wire_script.specs.Replies.{conversion_reply}
use Rattle.wire_script.proofs.Taking.{accepts, refuses}
use Rattle.wire_script.proofs.replies.convert.Goals as goal

pub returns-in-Ok-Now-clause-ok : goal.returns-in-Ok-Now-clause-ok
returns-in-Ok-Now-clause-ok c =
    let a = c.args in
    let answer = rw c.in-Ok-Now.field-0-is at c.in-Ok-Now.ensures.answer in
    accepts _ _ (lines.Convert a.node a.res a.mode) (Converts a.node c.number.result a.mode None) (ap (λ r. Some (Converts a.node r a.mode None)) (sym c.number.ensures.value))
    replies.Converted c.number.ensures.range c.in-Ok-Now.ensures.refused (ap (option_map conversion_reply) answer) c.in-Ok-Now.ensures.ok

pub returns-in-Ok-Queued-clause-ok : goal.returns-in-Ok-Queued-clause-ok
returns-in-Ok-Queued-clause-ok c =
    let a = c.args in
    let answer = rw c.in-Ok-Queued.field-0-is at c.in-Ok-Queued.ensures.answer in
    accepts _ _ (lines.Convert a.node a.res a.mode) (Converts a.node c.number.result a.mode None) (ap (λ r. Some (Converts a.node r a.mode None)) (sym c.number.ensures.value))
    replies.Asked c.number.ensures.range c.in-Ok-Queued.ensures.refused (ap (option_map conversion_reply) answer) c.in-Ok-Queued.ensures.ok

pub returns-in-Err-clause-ok : goal.returns-in-Err-clause-ok
returns-in-Err-clause-ok c =
    let a = c.args in
    refuses _ _ (lines.Convert a.node a.res a.mode) (Converts a.node c.number.result a.mode None) (ap (λ r. Some (Converts a.node r a.mode None)) (sym c.number.ensures.value))
    Converted c.in-Err.end c.refused.result c.in-Err.ensures.refused c.refused.ensures c.in-Err.ensures.err
