use Rattle.std.proofs.Common.{ap, ◌∙◌}
use Rattle.lock_wire.specs.Machine.{asked_of}
use Rattle.lock_wire.proofs.wire.Wire.ask.Goals as goal

pub returns-clause-ok : goal.returns-clause-ok
returns-clause-ok c = c.say.ensures ∙ ap (λ w. asked_of w c.args.n c.args.res c.args.mode) c.room.ensures.same
