use Rattle.std.proofs.Common.{◌≡◌, ◌-◌}
use Rattle.dlm_modes.specs.First.{first_such}
use Rattle.lock_wire.specs.Machine.{first_awaited, is_awaited}
use Rattle.lock_wire.specs.Parts.{wire_of}
use Rattle.lock_wire.proofs.wire.Wire.first_awaited.Given as goal

abbrev pub invariant-loop-n : goal.invariant-loop-n
invariant-loop-n l = first_awaited (wire_of l.self) l.res ≡ first_such (is_awaited (wire_of l.self) l.res) l.n (16 - l.n)
