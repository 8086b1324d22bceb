use Rattle.std.proofs.Common.{◌≡◌, sym, ap, ◌∙◌, not, slice_index_or, arith}
use Rattle.std.proofs.lemmas.List.{get_or_default}
use Rattle.mdc_types.specs.declared.roles.Role.{Role}
use Rattle.mdc_types.specs.declared.roles.Role.TheVariants.{Working, Spare}
use Rattle.leg_failure.specs.Sets.{is_same}
use Rattle.leg_failure.proofs.SetLaws.{scan_more, scan_same}
use Rattle.leg_failure.proofs.roles.differing_in.Goals as goal
use Rattle.leg_failure.proofs.roles.differing_in.Goals.{then-not-is_same, else-not-is_same}

same_pair : (a b x y : Role) → a ≡ x → b ≡ y → is_same a b ≡ is_same x y
same_pair a b x y p q = λ i. is_same (p i) (q i)

pub loop-l-preserved : goal.loop-l-preserved
loop-l-preserved c =
    let tested = same_pair _ _ _ _ (get_or_default c.args.legs.now c.loop-l.l Spare Working (omega arith)) (get_or_default c.args.others.now c.loop-l.l Spare Working (omega arith)) ∙ sym c.is_same.ensures in
    λ k. elim c.if-not-is_same.branch [
      | then-not-is_same w ↦ scan_more (λ j. not (is_same (slice_index_or c.args.legs.now j Spare) (slice_index_or c.args.others.now j Spare))) c.loop-l.set c.loop-l.l k _ (w.set-is ∙ w.with_leg-set.ensures) (c.loop-l.invariant k) (ap not (tested ∙ w.if-not-is_same.true))
      | else-not-is_same w ↦ scan_same (λ j. not (is_same (slice_index_or c.args.legs.now j Spare) (slice_index_or c.args.others.now j Spare))) c.loop-l.set c.loop-l.l k _ w.set-is (c.loop-l.invariant k) (ap not (tested ∙ w.if-not-is_same.false))
    ]
