use Rattle.std.proofs.Common.{Err, ap}
use Rattle.script_play.proofs.DriverLaws.{full_of}
use Rattle.script_play.proofs.drivers.take_auto.Goals as goal

pub returns-in-Err-clause-full : goal.returns-in-Err-clause-full
returns-in-Err-clause-full g c = λ is. c.in-Err.ensures.full (ap Err (full_of c.in-Err.why c.line_end.result c.line_end.ensures is))
