use Rattle.std.proofs.Common.{◌≡◌, ℕ, nat_lt, ◌==◌, if◌then◌else◌}
use Rattle.lock_wire.specs.Machine.{heirs_ward}
use Rattle.lock_wire.specs.Parts.{wards_of, live_of, AreInRange}
use Rattle.lock_wire.proofs.ward.Wards.take_over.Given as goal

abbrev pub invariant-loop-ward : goal.invariant-loop-ward
invariant-loop-ward l = record {
  wards : (r : ℕ) → wards_of l.ward-items r ≡ (if nat_lt r l.ward-index then (if (wards_of l.initial.ward-items r).master == l.dead then heirs_ward (live_of l.live) l.m else wards_of l.initial.ward-items r) else wards_of l.initial.ward-items r);
  range : AreInRange l.ward-items;
}
