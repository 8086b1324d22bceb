use Rattle.std.proofs.Common.{◌≡◌, map}
use Rattle.std.specs.List.{range_with_len}
use Rattle.md_superblock.specs.Arrays.{array_of}
use Rattle.leg_shelf.specs.Images.{bytes_of}
use Rattle.cluster_model.specs.Contents.{header_sector}
use Rattle.disk_image.specs.Created.{created_at}
use Rattle.disk_image.proofs.image.image_of.Given as goal

abbrev pub invariant-loop-at : goal.invariant-loop-at
invariant-loop-at i = i.bytes.items ≡ bytes_of (map (header_sector (created_at (array_of i.array)) i.l) (range_with_len 0 i.at))
