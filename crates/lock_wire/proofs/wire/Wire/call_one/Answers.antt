use Rattle.std.proofs.Common.{sym, ◌∙◌}
use Rattle.lock_wire.specs.Parts.{wire_of}
use Rattle.lock_wire.proofs.Wires.{names_nobody}
use Rattle.lock_wire.proofs.wire.Wire.call_one.Goals as goal

pub returns-in_default-clause-wire : goal.returns-in_default-clause-wire
returns-in_default-clause-wire c = sym (names_nobody (wire_of c.args.self.now) c.args.m c.args.res c.args.n (sym c.named.ensures ∙ c.in_default.is))
