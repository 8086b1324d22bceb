use Rattle.std.proofs.Common.{arith, ◌∙◌, ◌==◌, Some, None, if◌then◌else◌}
use Rattle.lock_wire.specs.Machine.{master_of}
use Rattle.lock_wire.specs.Parts.{wire_of}
use Rattle.lock_wire.proofs.Lists.{length-set, set-next}
use Rattle.lock_wire.proofs.Reports.{states-read}
use Rattle.lock_wire.proofs.wire.Wire.states.Goals as goal

pub loop-res-preserved : goal.loop-res-preserved
loop-res-preserved c = record {
  long = length-set c.loop-res.states c.loop-res.res c.state.result ∙ c.loop-res.invariant.long;
  read = set-next c.loop-res.states c.loop-res.res c.state.result None (λ s. if master_of (wire_of c.args.self.now) s == c.args.dead then Some ((wire_of c.args.self.now).local c.args.n s) else None) (omega (arith, c.loop-res.invariant.long)) c.state.ensures c.loop-res.invariant.read;
}

pub returns : goal.returns
returns c = states-read (wire_of c.args.self.now) c.args.dead c.args.n c.loop-res.states c.loop-res.invariant.long (λ s lt. c.loop-res.invariant.read s (omega arith))
