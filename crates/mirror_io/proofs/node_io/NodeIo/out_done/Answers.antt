use Rattle.std.proofs.Common.{refl, ap, ◌∙◌}
use Rattle.mirror_io.specs.Places.{IsWritePlace}
use Rattle.mirror_io.proofs.Order.{WritesRise-set, done_in-at}
use Rattle.mirror_io.proofs.node_io.NodeIo.out_done.Goals as goal

pub invariant_of-self : goal.invariant_of-self
invariant_of-self c =
    let place : IsWritePlace c.args.k c.self.inside.writes c.in-Some.i = c.in-Some.ensures in
    record {
      writes_rise = WritesRise-set 0 _ _ _ c.at_mut-w.result.now _ c.self.invariant.writes_rise place.within c.at_mut-w.ensures.value refl;
      reads_rise = c.self.invariant.reads_rise;
    }

pub returns : goal.returns
returns c =
    let place : IsWritePlace c.args.k c.self.inside.writes c.in-Some.i = c.in-Some.ensures in
    let is = c.at_mut-w.ensures.value in
    let changed = done_in-at c.args.k c.args.l 0 c.self.inside.writes_made c.self.inside.writes c.in-Some.i c.at_mut-w.result.now c.self.invariant.writes_rise place.within is (ap (λ x. x.number) is ∙ place.number _) in
    rw (← c.self.view_is, c.with_leg-w.ensures, changed) refl
