use Rattle.std.proofs.Common.{◌++◌, ap, ◌∙◌, map}
use Rattle.std.specs.List.{range_with_len}
use Rattle.md_superblock.specs.Arrays.{array_of}
use Rattle.leg_shelf.specs.Images.{bytes_of}
use Rattle.cluster_model.specs.Contents.{header_sector}
use Rattle.disk_image.specs.Created.{created_at}
use Rattle.disk_image.proofs.Sectors.{one_more}
use Rattle.disk_image.proofs.image.image_of.Goals as goal

pub loop-at-preserved : goal.loop-at-preserved
loop-at-preserved c =
    let o = created_at (array_of c.args.array.now) in
    let so_far = bytes_of (map (header_sector o c.args.l) (range_with_len 0 c.loop-at.at)) in
    c.in_ok-extend_from_slice.ensures.items
    ∙ ap (λ xs. xs ++ c.image_sector.result.bytes) c.loop-at.invariant
    ∙ ap (λ v. so_far ++ v.bytes) c.image_sector.ensures
    ∙ one_more (header_sector o c.args.l) c.loop-at.at
