use Rattle.std.proofs.Common.{refl, arith}
use Rattle.mirror_io.proofs.Order.{ReadsRise-push}
use Rattle.mirror_io.proofs.node_io.NodeIo.ask_read.Goals as goal

pub invariant_of-self : goal.invariant_of-self
invariant_of-self c = record {
  reads_rise = rw c.push.ensures (ReadsRise-push 0 _ _ _ c.self.invariant.reads_rise (omega arith) refl);
  writes_rise = c.self.invariant.writes_rise;
}
