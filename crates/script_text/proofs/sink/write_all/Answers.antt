use Rattle.std.proofs.Common.{arith}
use Rattle.script_text.proofs.OutsideLaws.{wrote_more}
use Rattle.script_text.proofs.sink.write_all.Goals as goal

pub loop-rest-preserved : goal.loop-rest-preserved
loop-rest-preserved g c = record {
  done = wrote_more _ _ _ _ _ _ c.loop-rest.invariant.done c.in_ok-n.ensures.length c.in_ok-n.ensures.taken;
  later = omega (arith, c.write.ensures.cause);
}
