use Rattle.lock_wire.proofs.Changed.{all_free}
use Rattle.lock_wire.proofs.locals.Locals.new.Goals as goal

pub returns : goal.returns
returns c = all_free
