use Rattle.std.proofs.Common.{◌≡◌, ◌<◌, ℕ, length, get_or, ◌==◌, Some, None, if◌then◌else◌}
use Rattle.lock_wire.specs.Machine.{master_of}
use Rattle.lock_wire.specs.Parts.{wire_of}
use Rattle.lock_wire.proofs.wire.Wire.states.Given as goal

abbrev pub invariant-loop-res : goal.invariant-loop-res
invariant-loop-res l = record {
  long : length l.states ≡ 21;
  read : (s : ℕ) → s < l.res → get_or l.states s None ≡ (if master_of (wire_of l.self) s == l.dead then Some ((wire_of l.self).local l.n s) else None);
}
