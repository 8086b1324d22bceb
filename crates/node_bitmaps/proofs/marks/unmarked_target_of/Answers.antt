use Rattle.std.proofs.Common.{◌≡◌, ◌∙◌, ap, Bool, true, false, not, ◌&&◌, refl}
use Rattle.dlm_modes.proofs.FirstLaws.{first_such_same}
use Rattle.mdc_types.specs.Bits.{has_bit}
use Rattle.node_bitmaps.proofs.marks.unmarked_target_of.Goals as goal

not_not : (a : Bool) → not (not a) ≡ a
not_not true = refl
not_not false = refl

pub returns : goal.returns
returns c = c.leg_outside.ensures ∙ first_such_same _ _ 0 8 (λ l from lt.
    ap (λ (b : Bool). has_bit c.args.legs l && b)
    (ap not (c.marked_legs_of.ensures l lt) ∙ not_not _))
