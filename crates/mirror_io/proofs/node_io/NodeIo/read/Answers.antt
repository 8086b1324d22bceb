use Rattle.std.proofs.Common.{sym, ap, ◌∙◌}
use Rattle.mirror_io.specs.Places.{IsReadPlace}
use Rattle.mirror_io.proofs.Order.{read_in-at}
use Rattle.mirror_io.proofs.node_io.NodeIo.read.Goals as goal

pub returns : goal.returns
returns c =
    let place : IsReadPlace c.args.k c.self.inside.reads c.in_ok-i.i = c.in_ok-i.ensures in
    rw (← c.self.view_is) (sym (read_in-at _ 0 _ _ _ _ c.self.invariant.reads_rise place.within c.at.ensures (ap (λ x. x.number) c.at.ensures ∙ place.number _)))
