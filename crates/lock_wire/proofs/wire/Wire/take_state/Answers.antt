use Rattle.std.proofs.Common.{ap, ◌∙◌}
use Rattle.lock_wire.specs.Machine.{then_calls}
use Rattle.lock_wire.proofs.wire.Wire.take_state.Goals as goal

pub returns-in-Some-clause-wire : goal.returns-in-Some-clause-wire
returns-in-Some-clause-wire c = rw c.in-Some.is (c.call_unless.ensures.wire ∙ ap (λ w. then_calls w c.args.m c.args.res) c.enter.ensures.wire)
