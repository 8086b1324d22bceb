use Rattle.std.proofs.Common.{◌≡◌, ◌++◌, length, map}
use Rattle.std.specs.Vec.Iter.{into_iter_items, into_iter_len}
use Rattle.mdc_types.specs.Faults.{HasCause}
use Rattle.image_files.specs.Closed.{Closes, counted_all, is_shelf_fault}
use Rattle.image_files.proofs.closing.close_all.Given as goal

abbrev pub invariant-loop-leg : goal.invariant-loop-leg
invariant-loop-leg g i = record {
  all : i.yielded ++ into_iter_items i.leg-iterator ≡ into_iter_items i.initial.leg-iterator;
  many : into_iter_len i.leg-iterator ≡ length (into_iter_items i.leg-iterator);
  count : i.l ≡ length i.yielded;
  closes : Closes i.names (map g.H.Leg.LegDev.contents (into_iter_items i.initial.leg-iterator)) (length i.yielded)
      (g.H.Shelf.contents i.initial.shelf) i.first (g.H.Shelf.contents i.shelf);
  legs : g.H.Shelf.leg_faults i.shelf ≡ counted_all (g.H.Shelf.leg_faults i.initial.shelf) (map g.H.Leg.LegDev.faults i.yielded);
  cause : HasCause is_shelf_fault (g.H.Shelf.faults i.initial.shelf) (g.H.Shelf.faults i.shelf) i.first;
}
