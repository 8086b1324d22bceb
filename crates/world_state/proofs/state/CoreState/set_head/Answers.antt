use Rattle.std.proofs.Common.{arith, refl}
use Rattle.world_state.specs.contracts.state.CoreState.{the_view}
use Rattle.world_state.proofs.Setting.{head_set}
use Rattle.world_state.proofs.state.CoreState.set_head.Goals as goal

pub returns : goal.returns
returns c =
    let e = c.put_head.ensures in
    rw (e.heads, ← c.self.view_is) (head_set (the_view c.self.inside) c.args.n c.args.l c.args.s _ refl (omega (arith, c.requires.node, c.self.told)) (omega (arith, c.requires.leg, e.legs)))
