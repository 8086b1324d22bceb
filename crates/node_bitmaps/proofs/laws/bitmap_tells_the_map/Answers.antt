use Rattle.node_bitmaps.proofs.MapLaws.{same_map}
use Rattle.node_bitmaps.proofs.laws.bitmap_tells_the_map.Goals as goal

pub returns : goal.returns
returns c = same_map
