use Rattle.std.proofs.Common.{sym, ◌∙◌, arith}
use Rattle.image_array.proofs.HeadLaws.{newest_first, newest_later, newest_same, newest_all, is_less, is_most}
use Rattle.image_array.proofs.heads.newest.Goals as goal
use Rattle.image_array.proofs.heads.newest.Goals.{then-is_newer, else-is_newer}

pub loop-l-init : goal.loop-l-init
loop-l-init c = newest_first c.args.images.now

pub loop-l-preserved : goal.loop-l-preserved
loop-l-preserved c = elim c.if-is_newer.branch [
  | then-is_newer w ↦ rw w.newest-is (newest_later c.args.images.now c.loop-l.l c.loop-l.newest c.loop-l.invariant (is_less _ _ (sym c.is_newer.ensures ∙ w.if-is_newer.true)))
  | else-is_newer w ↦ rw w.newest-is (newest_same c.args.images.now c.loop-l.l c.loop-l.newest c.loop-l.invariant (is_most _ _ (sym c.is_newer.ensures ∙ w.if-is_newer.false)))
]

pub returns : goal.returns
returns c = newest_all c.args.images.now c.loop-l.l c.loop-l.newest (omega arith) c.loop-l.invariant
