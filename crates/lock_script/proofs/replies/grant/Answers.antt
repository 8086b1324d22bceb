use Rattle.std.proofs.Common.{ap, None, false}
use Rattle.dlm_modes.specs.declared.mode.Mode.TheVariants.{NL}
use Rattle.dlm_space.specs.Calls.{Grants}
use Rattle.dlm_space.specs.declared.answers.Granted.{Granted}
use Rattle.dlm_space.specs.Parts.{locks_of}
use Rattle.script_text.specs.declared.locks.LockLine.TheVariants as lines
use Rattle.lock_script.proofs.Taking.{accepts, refuses}
use Rattle.lock_script.proofs.replies.grant.Goals as goal

pub returns-in-Ok : goal.returns-in-Ok
returns-in-Ok c =
    let a = c.args in
    let g = c.in-Ok.granted in
    accepts _ _ (lines.Grant a.res) (Grants c.number.result g) (g, ap (λ r. Grants r g) c.number.ensures.value) tt c.in-Ok.ensures.refused c.in-Ok.ensures.answer c.in-Ok.ensures.ok

-- a refused grant answers nothing
no_grant : Granted
no_grant = record { node = 0; mode = NL; value = None; valid = false }

pub returns-in-Err : goal.returns-in-Err
returns-in-Err c =
    let a = c.args in
    refuses _ _ (lines.Grant a.res) (Grants c.number.result no_grant) (no_grant, ap (λ r. Grants r no_grant) c.number.ensures.value) c.in-Err.why c.in-Err.ensures.refused (ap locks_of c.in-Err.ensures.err)
