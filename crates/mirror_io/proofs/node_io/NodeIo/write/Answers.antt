use Rattle.std.proofs.Common.{sym, ap, ◌∙◌}
use Rattle.mirror_io.specs.Places.{IsWritePlace}
use Rattle.mirror_io.proofs.Order.{write_in-at}
use Rattle.mirror_io.proofs.node_io.NodeIo.write.Goals as goal

pub returns : goal.returns
returns c =
    let place : IsWritePlace c.args.k c.self.inside.writes c.in_ok-i.i = c.in_ok-i.ensures in
    rw (← c.self.view_is) (sym (write_in-at _ 0 _ _ _ _ c.self.invariant.writes_rise place.within c.at.ensures (ap (λ x. x.number) c.at.ensures ∙ place.number _)))
