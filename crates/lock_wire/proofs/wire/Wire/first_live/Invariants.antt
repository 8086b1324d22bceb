use Rattle.std.proofs.Common.{◌≡◌, ◌-◌}
use Rattle.dlm_modes.specs.First.{first_such}
use Rattle.lock_wire.specs.Machine.{heir}
use Rattle.lock_wire.specs.Parts.{wire_of, live_of}
use Rattle.lock_wire.proofs.wire.Wire.first_live.Given as goal

abbrev pub invariant-loop-n : goal.invariant-loop-n
invariant-loop-n l = heir (wire_of l.self) ≡ first_such (live_of l.self.live) l.n (16 - l.n)
