use Rattle.std.proofs.Common.{refl}
use Rattle.dlm_space.specs.Calls.{Dies}
use Rattle.script_text.specs.declared.locks.LockLine.TheVariants as lines
use Rattle.lock_script.proofs.Taking.{accepts}
use Rattle.lock_script.proofs.replies.die.Goals as goal

pub returns : goal.returns
returns c = accepts _ _ (lines.Die c.args.node) (Dies c.args.node) refl c.requires refl tt c.die.ensures
