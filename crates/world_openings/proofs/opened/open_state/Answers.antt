use Rattle.std.proofs.Common.{◌∙◌, ap, arith}
use Rattle.world_state.specs.Kept.{core_of}
use Rattle.world_openings.proofs.Members.{none_yet, stayed_out, all_in, no_member}
use Rattle.world_openings.proofs.opened.open_state.Goals as goal
use Rattle.world_openings.proofs.opened.open_state.Goals.{then-is_member, else-is_member}

pub loop-n-init : goal.loop-n-init
loop-n-init c = c.in_ok-core.ensures.core ∙ none_yet c.args.opening.now

pub loop-n-preserved : goal.loop-n-preserved
loop-n-preserved c = elim c.if-is_member.branch [
  | then-is_member w ↦ ap core_of w.core-is ∙ w.bring_in.ensures
  | else-is_member w ↦ ap core_of w.core-is ∙ c.loop-n.invariant
      ∙ stayed_out c.args.opening.now c.loop-n.n (no_member c.args.opening.now c.loop-n.n c.is_member.result c.is_member.ensures w.if-is_member.false)
]

pub returns : goal.returns
returns c = c.loop-n.invariant ∙ all_in c.args.opening.now c.geometry.result c.nodes-n-end.result c.loop-n.n c.geometry.ensures c.nodes-n-end.ensures (omega (arith, c.loop-n-test.false))
