use Rattle.std.proofs.Common.{ap, sym, Some}
use Rattle.std.specs.Option.{option_map}
use Rattle.dlm_space.specs.declared.answers.Granted.{Granted}
use Rattle.laws_wire.specs.Runs.{Serves}
use Rattle.script_text.specs.declared.wire.WireLine.TheVariants as lines
use Rattle.wire_script.specs.Replies.{grant_reply}
use Rattle.wire_script.proofs.Taking.{accepts, refuses}
use Rattle.wire_script.proofs.replies.serve.Goals as goal

pub returns-in-Ok-clause-ok : goal.returns-in-Ok-clause-ok
returns-in-Ok-clause-ok c =
    let a = c.args in
    accepts _ _ (lines.Serve a.res) (Serves c.number.result) (ap (λ r. Some (Serves r)) (sym c.number.ensures.value)) (grant_reply c.in-Ok.granted) c.number.ensures.range c.in-Ok.ensures.refused
    (ap (option_map grant_reply) c.in-Ok.ensures.answer) c.in-Ok.ensures.ok

pub returns-in-Err-clause-ok : goal.returns-in-Err-clause-ok
returns-in-Err-clause-ok c =
    let a = c.args in
    refuses _ _ (lines.Serve a.res) (Serves c.number.result) (ap (λ r. Some (Serves r)) (sym c.number.ensures.value)) Granted c.in-Err.end c.refused.result c.in-Err.ensures.refused c.refused.ensures c.in-Err.ensures.err
