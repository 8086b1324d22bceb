use Rattle.std.proofs.Common.{arith}
use Rattle.std.proofs.Math.Path.{fun_ext}
use Rattle.lock_wire.proofs.Changed.{one_more_table}
use Rattle.lock_wire.proofs.tables.Tables.new.Goals as goal

pub loop-k-preserved : goal.loop-k-preserved
loop-k-preserved c = record {
  long = grind (arith, c.in_ok-push.ensures.len, c.in_ok-push.ensures.items);
  empty = λ m. rw c.in_ok-push.ensures.items (one_more_table _ _ m c.new.ensures c.loop-k.invariant.empty);
}

pub returns : goal.returns
returns c = fun_ext (λ m. c.loop-k.invariant.empty m)
