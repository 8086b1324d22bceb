use Rattle.std.proofs.Common.{ap}
use Rattle.dlm_space.specs.Calls.{ConvertsNow}
use Rattle.dlm_space.specs.Parts.{locks_of}
use Rattle.script_text.specs.declared.locks.LockLine.TheVariants as lines
use Rattle.lock_script.proofs.Taking.{accepts, refuses}
use Rattle.lock_script.proofs.replies.convert_now.Goals as goal

pub returns-in-Ok : goal.returns-in-Ok
returns-in-Ok c =
    let a = c.args in
    accepts _ _ (lines.Up a.node a.res a.mode) (ConvertsNow a.node c.number.result a.mode) (ap (λ r. ConvertsNow a.node r a.mode) c.number.ensures.value) c.requires.0 c.in-Ok.ensures.refused tt c.in-Ok.ensures.ok

pub returns-in-Err : goal.returns-in-Err
returns-in-Err c =
    let a = c.args in
    refuses _ _ (lines.Up a.node a.res a.mode) (ConvertsNow a.node c.number.result a.mode) (ap (λ r. ConvertsNow a.node r a.mode) c.number.ensures.value) c.in-Err.why c.in-Err.ensures.refused (ap locks_of c.in-Err.ensures.err)
