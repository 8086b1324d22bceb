use Rattle.std.proofs.Common.{sym, ap, ◌∙◌, slice_index_or, arith}
use Rattle.std.proofs.lemmas.List.{get_or_default}
use Rattle.mdc_types.specs.Roles.{is_working}
use Rattle.mdc_types.specs.declared.roles.Role.TheVariants.{Working, Spare}
use Rattle.leg_failure.proofs.SetLaws.{scan_more, scan_same}
use Rattle.leg_failure.proofs.roles.working_in.Goals as goal
use Rattle.leg_failure.proofs.roles.working_in.Goals.{then-is_working, else-is_working}

pub loop-l-preserved : goal.loop-l-preserved
loop-l-preserved c =
    let tested = ap is_working (get_or_default c.args.legs.now c.loop-l.l Spare Working (omega arith)) ∙ sym c.is_working.ensures in
    λ k. elim c.if-is_working.branch [
      | then-is_working w ↦ scan_more (λ j. is_working (slice_index_or c.args.legs.now j Spare)) c.loop-l.set c.loop-l.l k _ (w.set-is ∙ w.with_leg-set.ensures) (c.loop-l.invariant k) (tested ∙ w.if-is_working.true)
      | else-is_working w ↦ scan_same (λ j. is_working (slice_index_or c.args.legs.now j Spare)) c.loop-l.set c.loop-l.l k _ w.set-is (c.loop-l.invariant k) (tested ∙ w.if-is_working.false)
    ]
