use Rattle.std.proofs.Common.{◌≡◌, ◌∙◌, sym, arith, true, false}
use Rattle.dlm_modes.proofs.FirstLaws.{first_such_more, first_such_found, first_such_end}
use Rattle.world_io.proofs.Judging.{lacks}
use Rattle.world_io.proofs.guards.degraded_leg.Goals as goal

pub loop-l-preserved : goal.loop-l-preserved
loop-l-preserved c =
    let fails : lacks c.args.roles.now c.loop-l.l ≡ false = grind arith in
    c.loop-l.invariant ∙ first_such_more (lacks c.args.roles.now) c.loop-l.l 8 (omega arith) fails

pub returns-then-is_degraded : goal.returns-then-is_degraded
returns-then-is_degraded c =
    let passes : lacks c.args.roles.now c.loop-l.l ≡ true = grind arith in
    sym (c.loop-l.invariant ∙ first_such_found (lacks c.args.roles.now) c.loop-l.l 8 (omega arith) passes)

pub returns : goal.returns
returns c = sym (c.loop-l.invariant ∙ first_such_end (lacks c.args.roles.now) c.loop-l.l 8 (omega arith))
