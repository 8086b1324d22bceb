use Rattle.std.proofs.Common.{◌≡◌, refl, sym, ◌∙◌}
use Rattle.mirror_io.specs.Flight.{without_read}
use Rattle.mirror_io.specs.Places.{IsReadPlace}
use Rattle.mirror_io.proofs.Order.{ReadsRise-without, without_read-at}
use Rattle.mirror_io.proofs.node_io.NodeIo.end_read.Goals as goal

pub invariant_of-self : goal.invariant_of-self
invariant_of-self c =
    let place : IsReadPlace c.args.k c.self.inside.reads c.in-Some.i = c.in-Some.ensures in
    let removed : c.remove.new.self ≡ without_read c.args.k c.self.inside.reads = c.remove.ensures ∙ sym (without_read-at _ 0 _ _ _ c.self.invariant.reads_rise place.within place.number) in
    record {
      reads_rise = rw removed (ReadsRise-without _ 0 _ _ c.self.invariant.reads_rise);
      writes_rise = c.self.invariant.writes_rise;
    }

pub returns : goal.returns
returns c =
    let place : IsReadPlace c.args.k c.self.inside.reads c.in-Some.i = c.in-Some.ensures in
    let removed : c.remove.new.self ≡ without_read c.args.k c.self.inside.reads = c.remove.ensures ∙ sym (without_read-at _ 0 _ _ _ c.self.invariant.reads_rise place.within place.number) in
    rw (← c.self.view_is, removed) refl
