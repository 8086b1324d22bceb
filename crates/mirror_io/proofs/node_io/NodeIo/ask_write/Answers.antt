use Rattle.std.proofs.Common.{refl, arith}
use Rattle.mirror_io.proofs.Order.{WritesRise-push}
use Rattle.mirror_io.proofs.node_io.NodeIo.ask_write.Goals as goal

pub invariant_of-self : goal.invariant_of-self
invariant_of-self c = record {
  writes_rise = rw c.push.ensures (WritesRise-push 0 _ _ _ c.self.invariant.writes_rise (omega arith) refl);
  reads_rise = c.self.invariant.reads_rise;
}
