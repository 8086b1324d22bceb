use Rattle.std.proofs.Common.{◌≡◌, ◌≤◌, ◌+◌, ◌*◌}
use Rattle.lock_wire.specs.Machine.{reported}
use Rattle.lock_wire.specs.Parts.{wire_of}
use Rattle.lock_wire.proofs.wire.Wire.take_report.Given as goal

abbrev pub invariant-loop-res : goal.invariant-loop-res
invariant-loop-res l = record {
  wire : wire_of l.self ≡ reported (wire_of l.initial.self) l.n l.m l.states l.res;
  room : 336 ≤ l.self.links.room + 16 * l.res;
}
