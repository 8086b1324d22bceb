use Rattle.std.proofs.Common.{◌∙◌, ap}
use Rattle.std.proofs.lemmas.List.{get_or_default}
use Rattle.mdc.proofs.Header.{faults_add, faults_skip, test_is, test_not}
use Rattle.mdc.proofs.array.leg_faults.Goals as goal
use Rattle.mdc.proofs.array.leg_faults.Goals.{then-f-l+in_ok-push, else-f-l}

pub loop-f-preserved : goal.loop-f-preserved
loop-f-preserved c = elim c.if-f-l.branch [
  | then-f-l+in_ok-push w ↦
      ap (λ v. v.items) w.list-is ∙ w.in_ok-push.ensures.items
      ∙ rw w.left_by.ensures (faults_add c.args.faults.now c.loop-f.f-index _ c.args.l c.loop-f-test.true (get_or_default c.args.faults.now c.loop-f.f-index _ _ c.loop-f-test.true) (test_is _ _ w.if-f-l.true) c.loop-f.list.items c.loop-f.invariant)
  | else-f-l w ↦
      ap (λ v. v.items) w.list-is
      ∙ faults_skip c.args.faults.now c.loop-f.f-index _ c.args.l c.loop-f-test.true (get_or_default c.args.faults.now c.loop-f.f-index _ _ c.loop-f-test.true) (test_not _ _ w.if-f-l.false) c.loop-f.list.items c.loop-f.invariant
]
