use Rattle.std.proofs.Common.{arith, refl, ◌≡◌, ◌∙◌, ap, nat_lt}
use Rattle.std.proofs.Math.Path.{fun_ext}
use Rattle.lock_wire.proofs.Lists.{length-set, flag-next}
use Rattle.lock_wire.proofs.Wires.{opened-is}
use Rattle.lock_wire.proofs.wire.Wire.open.Goals as goal

pub loop-n-preserved : goal.loop-n-preserved
loop-n-preserved c = record {
  long = length-set c.loop-n.live c.loop-n.n _ ∙ c.loop-n.invariant.long;
  set = flag-next c.loop-n.live c.loop-n.n (omega (arith, c.loop-n.invariant.long)) c.loop-n.invariant.set;
}

pub returns : goal.returns
returns c =
    let all : c.loop-n.n ≡ c.args.nodes = omega arith in
    opened-is (record { nodes = c.args.nodes; live = c.loop-n.live; locals = c.new.result; links = c.new-2.result; tables = c.in_ok-new.field-0; wards = c.new-4.result }) c.args.nodes refl (fun_ext (λ k. c.loop-n.invariant.set k ∙ ap (nat_lt k) all)) c.new.ensures c.new-2.ensures c.in_ok-new.ensures c.new-4.ensures
