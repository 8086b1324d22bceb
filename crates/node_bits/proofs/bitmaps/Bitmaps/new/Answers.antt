use Rattle.node_bits.proofs.MapLaws.{new_bitmaps}
use Rattle.node_bits.proofs.bitmaps.Bitmaps.new.Goals as goal

pub returns-clause-bits : goal.returns-clause-bits
returns-clause-bits c = new_bitmaps c.args.g.now c.in_ok-new_maps.field-0.items c.in_ok-new_maps.ensures
