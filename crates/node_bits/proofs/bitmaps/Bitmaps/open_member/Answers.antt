use Rattle.std.proofs.Common.{◌∙◌}
use Rattle.node_bitmaps.specs.Bitmap.{Bitmap}
use Rattle.node_bits.specs.Bitmaps.{opened}
use Rattle.node_bits.proofs.MapLaws.{bitmaps_call, found_size, opened_is}
use Rattle.node_bits.proofs.bitmaps.Bitmaps.open_member.Goals as goal

pub returns-clause-bits : goal.returns-clause-bits
returns-clause-bits c =
    let size = found_size c.self.inside.geometry c.self.inside.maps.items c.args.n c.index_mut.result.now c.self.invariant c.requires c.index_mut.ensures.value in
    rw (← c.self.view_is) (bitmaps_call (λ (m : Bitmap). opened c.self.inside.geometry c.args.warm) c.self.inside.geometry c.self.inside.maps.items c.args.n c.index_mut.result.now c.open_member.new.self c.self.invariant c.requires c.index_mut.ensures.value
    (c.open_member.ensures.bits ∙ opened_is c.self.inside.geometry c.index_mut.result.now c.legs-legs.result c.args.warm size c.legs-legs.ensures.value))
