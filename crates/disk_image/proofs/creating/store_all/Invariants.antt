use Rattle.std.proofs.Common.{◌≡◌, ◌≤◌}
use Rattle.md_superblock.specs.Arrays.{array_of}
use Rattle.disk_image.specs.Created.{created_at, with_images}
use Rattle.disk_image.proofs.creating.store_all.Given as goal

abbrev pub invariant-loop-l : goal.invariant-loop-l
invariant-loop-l g i = record {
  images : g.H.Shelf.contents i.shelf
      ≡ with_images (g.H.Shelf.contents i.initial.shelf) i.name (created_at (array_of i.array)) i.l;
  legs : g.H.Shelf.leg_faults i.shelf ≡ g.H.Shelf.leg_faults i.initial.shelf;
  later : g.H.Shelf.faults i.initial.shelf ≤ g.H.Shelf.faults i.shelf;
}
