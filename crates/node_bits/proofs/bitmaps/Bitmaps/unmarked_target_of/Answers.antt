use Rattle.std.proofs.Common.{◌∙◌, ap, false, get_or}
use Rattle.mdc_types.specs.Bits.{has_bit}
use Rattle.node_bitmaps.specs.Bitmap.{Bitmap, unmarked_target_of}
use Rattle.node_bits.proofs.MapLaws.{found_size, found_bits}
use Rattle.node_bits.proofs.bitmaps.Bitmaps.unmarked_target_of.Goals as goal

pub returns : goal.returns
returns c = rw (← c.self.view_is)
    (c.unmarked_target_of.ensures c.self.inside.geometry (found_size c.self.inside.geometry c.self.inside.maps.items c.args.n c.map.result.now c.self.invariant c.requires.node (rw c.map.ensures c.index.ensures)).set
    ∙ ap (λ (m : Bitmap). unmarked_target_of c.self.inside.geometry m (has_bit c.args.targets) (λ k. get_or c.args.chunks.now k false)) (found_bits c.self.inside.geometry c.self.inside.maps.items c.args.n c.map.result.now c.self.invariant c.requires.node (rw c.map.ensures c.index.ensures)))
