use Rattle.std.proofs.Common.{ap, ◌∙◌}
use Rattle.lock_wire.specs.Machine.{released_of}
use Rattle.lock_wire.proofs.wire.Wire.release.Goals as goal

pub returns-clause-ok : goal.returns-clause-ok
returns-clause-ok c = c.say.ensures ∙ ap (λ w. released_of w c.args.n c.args.res c.args.value) c.room.ensures.same
