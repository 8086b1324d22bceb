use Rattle.std.proofs.Common.{arith}
use Rattle.lock_wire.proofs.Changed.{wards-new}
use Rattle.lock_wire.proofs.ward.Wards.new.Goals as goal

pub returns : goal.returns
returns c = wards-new c.loop-r.wards c.args.nodes (omega arith) (λ r lt. c.loop-r.invariant.wards r (omega arith))

pub invariant_of-result : goal.invariant_of-result
invariant_of-result c = λ r lt. c.loop-r.invariant.range r (omega arith)
