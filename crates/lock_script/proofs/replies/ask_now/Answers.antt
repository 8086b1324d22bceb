use Rattle.std.proofs.Common.{ap, None}
use Rattle.dlm_space.specs.Calls.{AsksNow}
use Rattle.dlm_space.specs.Parts.{locks_of}
use Rattle.script_text.specs.declared.locks.LockLine.TheVariants as lines
use Rattle.lock_script.proofs.Taking.{accepts, refuses}
use Rattle.lock_script.proofs.replies.ask_now.Goals as goal

pub returns-in-Ok : goal.returns-in-Ok
returns-in-Ok c =
    let a = c.args in
    let given = c.in-Ok.field-0 in
    accepts _ _ (lines.Now a.node a.res a.mode) (AsksNow a.node c.number.result a.mode given) (given, ap (λ r. AsksNow a.node r a.mode given) c.number.ensures.value) c.requires.0 c.in-Ok.ensures.refused c.in-Ok.ensures.value c.in-Ok.ensures.ok

pub returns-in-Err : goal.returns-in-Err
returns-in-Err c =
    let a = c.args in
    refuses _ _ (lines.Now a.node a.res a.mode) (AsksNow a.node c.number.result a.mode None) (None, ap (λ r. AsksNow a.node r a.mode None) c.number.ensures.value) c.in-Err.why c.in-Err.ensures.refused (ap locks_of c.in-Err.ensures.err)
