use Rattle.std.proofs.Common.{refl}
use Rattle.mdc.specs.Telling.LineTold.{whole, short}
use Rattle.mdc.proofs.endings.tell_line.Goals as goal

pub returns-in-Ok : goal.returns-in-Ok
returns-in-Ok g c = whole c.in-Ok.ensures.ok

pub returns-in-Err : goal.returns-in-Err
returns-in-Err g c = short (c.in-Err.ensures.cause.failed _ refl refl) c.in-Err.ensures.err
