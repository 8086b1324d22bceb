use Rattle.std.proofs.Common.{◌≡◌, refl, sym, ◌∙◌}
use Rattle.mirror_io.specs.Flight.{without_write}
use Rattle.mirror_io.specs.Places.{IsWritePlace}
use Rattle.mirror_io.proofs.Order.{WritesRise-without, without_write-at}
use Rattle.mirror_io.proofs.node_io.NodeIo.end_write.Goals as goal

pub invariant_of-self : goal.invariant_of-self
invariant_of-self c =
    let place : IsWritePlace c.args.k c.self.inside.writes c.in-Some.i = c.in-Some.ensures in
    let removed : c.remove.new.self ≡ without_write c.args.k c.self.inside.writes = c.remove.ensures ∙ sym (without_write-at _ 0 _ _ _ c.self.invariant.writes_rise place.within place.number) in
    record {
      writes_rise = rw removed (WritesRise-without _ 0 _ _ c.self.invariant.writes_rise);
      reads_rise = c.self.invariant.reads_rise;
    }

pub returns : goal.returns
returns c =
    let place : IsWritePlace c.args.k c.self.inside.writes c.in-Some.i = c.in-Some.ensures in
    let removed : c.remove.new.self ≡ without_write c.args.k c.self.inside.writes = c.remove.ensures ∙ sym (without_write-at _ 0 _ _ _ c.self.invariant.writes_rise place.within place.number) in
    rw (← c.self.view_is, removed) refl
