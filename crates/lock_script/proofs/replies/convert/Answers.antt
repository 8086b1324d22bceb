use Rattle.std.proofs.Common.{ap, sym, ◌∙◌, None}
use Rattle.dlm_space.specs.Calls.{Converts}
use Rattle.dlm_space.specs.declared.answers.Converted.TheVariants.{Now, Queued}
use Rattle.dlm_space.specs.Parts.{locks_of}
use Rattle.script_text.specs.declared.locks.LockLine.TheVariants as lines
use Rattle.lock_script.proofs.Taking.{accepts, refuses}
use Rattle.lock_script.proofs.replies.convert.Goals as goal

pub returns-in-Ok-Now : goal.returns-in-Ok-Now
returns-in-Ok-Now c =
    let a = c.args in
    accepts _ _ (lines.Convert a.node a.res a.mode) (Converts a.node c.number.result a.mode None Now) (Now, ap (λ r. Converts a.node r a.mode None Now) c.number.ensures.value) c.requires.0 c.in-Ok-Now.ensures.refused (sym c.in-Ok-Now.field-0-is ∙ c.in-Ok-Now.ensures.answer) c.in-Ok-Now.ensures.ok

pub returns-in-Ok-Queued : goal.returns-in-Ok-Queued
returns-in-Ok-Queued c =
    let a = c.args in
    accepts _ _ (lines.Convert a.node a.res a.mode) (Converts a.node c.number.result a.mode None Queued) (Queued, ap (λ r. Converts a.node r a.mode None Queued) c.number.ensures.value) c.requires.0 c.in-Ok-Queued.ensures.refused (sym c.in-Ok-Queued.field-0-is ∙ c.in-Ok-Queued.ensures.answer) c.in-Ok-Queued.ensures.ok

pub returns-in-Err : goal.returns-in-Err
returns-in-Err c =
    let a = c.args in
    refuses _ _ (lines.Convert a.node a.res a.mode) (Converts a.node c.number.result a.mode None Now) (Now, ap (λ r. Converts a.node r a.mode None Now) c.number.ensures.value) c.in-Err.why c.in-Err.ensures.refused (ap locks_of c.in-Err.ensures.err)
