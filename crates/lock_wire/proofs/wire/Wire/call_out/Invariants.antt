use Rattle.std.proofs.Common.{◌≡◌, ◌≤◌, ◌+◌}
use Rattle.lock_wire.specs.Parts.{wire_of, calls_below}
use Rattle.lock_wire.proofs.wire.Wire.call_out.Given as goal

abbrev pub invariant-loop-n : goal.invariant-loop-n
invariant-loop-n l = record {
  wire : wire_of l.self ≡ calls_below (wire_of l.initial.self) l.m l.res l.n;
  room : l.initial.self.links.room ≤ l.self.links.room + l.n;
}
