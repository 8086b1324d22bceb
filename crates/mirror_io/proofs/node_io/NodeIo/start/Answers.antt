use Rattle.std.proofs.Common.{refl, ap, ◌∙◌}
use Rattle.mirror_io.specs.Places.{IsWritePlace}
use Rattle.mirror_io.proofs.Order.{WritesRise-set, start_in-at}
use Rattle.mirror_io.proofs.node_io.NodeIo.start.Goals as goal

pub invariant_of-self : goal.invariant_of-self
invariant_of-self c =
    let place : IsWritePlace c.args.k c.self.inside.writes c.in-Some.i = c.in-Some.ensures in
    record {
      writes_rise = WritesRise-set 0 _ _ _ c.at_mut.result.now _ c.self.invariant.writes_rise place.within c.at_mut.ensures.value refl;
      reads_rise = c.self.invariant.reads_rise;
    }

pub returns : goal.returns
returns c =
    let place : IsWritePlace c.args.k c.self.inside.writes c.in-Some.i = c.in-Some.ensures in
    let is = c.at_mut.ensures.value in
    let changed = start_in-at _ 0 _ _ _ c.at_mut.result.now c.self.invariant.writes_rise place.within is (ap (λ x. x.number) is ∙ place.number _) in
    rw (← c.self.view_is, changed) refl
