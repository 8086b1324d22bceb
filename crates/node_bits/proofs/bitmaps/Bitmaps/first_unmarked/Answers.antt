use Rattle.std.proofs.Common.{◌∙◌, ap}
use Rattle.mdc_types.specs.Bits.{has_bit}
use Rattle.node_bitmaps.specs.Bitmap.{Bitmap, first_unmarked}
use Rattle.node_bits.proofs.MapLaws.{found_size, found_bits}
use Rattle.node_bits.proofs.bitmaps.Bitmaps.first_unmarked.Goals as goal

pub returns : goal.returns
returns c = rw (← c.self.view_is)
    (c.first_unmarked.ensures c.self.inside.geometry (found_size c.self.inside.geometry c.self.inside.maps.items c.args.n c.index.result.now c.self.invariant c.requires c.index.ensures)
    ∙ ap (λ (m : Bitmap). first_unmarked c.self.inside.geometry m (has_bit c.args.targets)) (found_bits c.self.inside.geometry c.self.inside.maps.items c.args.n c.index.result.now c.self.invariant c.requires c.index.ensures))
