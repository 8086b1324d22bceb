use Rattle.std.proofs.Common.{sym, ◌∙◌}
use Rattle.leg_failure.proofs.SetLaws.{scan_more, scan_same}
use Rattle.world_members.specs.Tries.{tries_of, is_lost_leg}
use Rattle.world_members.proofs.newest.lost_legs.Goals as goal
use Rattle.world_members.proofs.newest.lost_legs.Goals.{then-is_lost, else-is_lost}

pub loop-l-preserved : goal.loop-l-preserved
loop-l-preserved c = λ k. elim c.if-is_lost.branch [
  | then-is_lost w ↦ scan_more (is_lost_leg (tries_of c.args.tried.now) (record { legs = c.args.legs.now })) c.loop-l.lost c.loop-l.l k _ (w.lost-is ∙ w.with_leg-lost.ensures) (c.loop-l.invariant k) (sym c.is_lost.ensures ∙ w.if-is_lost.true)
  | else-is_lost w ↦ scan_same (is_lost_leg (tries_of c.args.tried.now) (record { legs = c.args.legs.now })) c.loop-l.lost c.loop-l.l k _ w.lost-is (c.loop-l.invariant k) (sym c.is_lost.ensures ∙ w.if-is_lost.false)
]
