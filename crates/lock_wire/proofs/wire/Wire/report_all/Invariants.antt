use Rattle.std.proofs.Common.{◌≡◌, ◌≤◌, ◌+◌}
use Rattle.lock_wire.specs.Parts.{wire_of, reports_below}
use Rattle.lock_wire.proofs.wire.Wire.report_all.Given as goal

abbrev pub invariant-loop-n : goal.invariant-loop-n
invariant-loop-n l = record {
  wire : wire_of l.self ≡ reports_below (wire_of l.initial.self) l.dead l.m l.n;
  room : 16 ≤ l.self.links.room + l.n;
}
