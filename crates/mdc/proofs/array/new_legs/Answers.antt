use Rattle.mdc.specs.Opened.{AreNewLegs}
use Rattle.std.proofs.Common.{subst, sym}
use Rattle.mdc.proofs.Header.{legs_more}
use Rattle.mdc.proofs.array.new_legs.Goals as goal

pub loop-l-preserved : goal.loop-l-preserved
loop-l-preserved c =
    subst (AreNewLegs c.args.opening.now c.args.faults.now _) (sym c.in_ok-push.ensures.items)
    (legs_more c.args.opening.now c.args.faults.now c.loop-l.l c.loop-l.legs.items c.in_ok-new_leg.field-0 c.loop-l.invariant c.in_ok-new_leg.ensures)
