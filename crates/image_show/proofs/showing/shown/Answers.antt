use Rattle.std.proofs.Common.{◌≤◌, length, map, Ok, Err, ap, refl, subst, arith}
use Rattle.std.proofs.lemmas.List.{length-map}
use Rattle.image_faults.specs.declared.faults.ImageError.TheVariants as errors
use Rattle.image_files.specs.Closed.{Closes, NeverFalls}
use Rattle.image_files.specs.Names.{leg_names}
use Rattle.image_opening.proofs.NextLegs.{handed_on}
use Rattle.image_ends.specs.Seen.{ShelfSeen}
use Rattle.image_show.specs.Showing.{ShowErrs}
use Rattle.image_show.proofs.ShowLaws.{all_slots, close_errs, counts_never, given_same, open_errs, same_stand}
use Rattle.image_show.proofs.showing.shown.Goals as goal

pub returns-in_err-legs-clause-error : goal.returns-in_err-legs-clause-error
returns-in_err-legs-clause-error g c =
    let h : ShelfSeen = record {
      files = g.H.Shelf.contents c.args.shelf.now;
      files_after = g.H.Shelf.contents c.open_array.new.shelf;
      faults = g.H.Shelf.faults c.args.shelf.now;
      faults_after = g.H.Shelf.faults c.open_array.new.shelf;
      leg_faults = g.H.Shelf.leg_faults c.args.shelf.now;
      leg_faults_after = g.H.Shelf.leg_faults c.open_array.new.shelf;
    } in
    let e = c.in_err-legs.field-0.0 in
    let opening = c.in_err-legs.ensures in
    handed_on (ShowErrs h c.args.name.now) c.from_residual.result e c.from_residual.ensures.1
    (open_errs h c.args.name.now e opening.fault opening.others (λ l is. opening.device l (ap Err is)) (opening.cause.failed e refl))

pub show_text-text-requires : goal.show_text-text-requires
show_text-text-requires g c = rw c.as_slice.ensures.value (all_slots c.in_ok-legs.field-0.images.items c.in_ok-legs.ensures.opened.legs)

pub returns-in_err-close-clause-error : goal.returns-in_err-close-clause-error
returns-in_err-close-clause-error g c =
    let h : ShelfSeen = record {
      files = g.H.Shelf.contents c.args.shelf.now;
      files_after = g.H.Shelf.contents c.close.new.shelf;
      faults = g.H.Shelf.faults c.args.shelf.now;
      faults_after = g.H.Shelf.faults c.close.new.shelf;
      leg_faults = g.H.Shelf.leg_faults c.args.shelf.now;
      leg_faults_after = g.H.Shelf.leg_faults c.close.new.shelf;
    } in
    let e = c.in_err-close.field-0.0 in
    let opened = c.in_ok-legs.ensures in
    let legs = c.in_ok-legs.field-0.legs.items in
    let told = map g.H.Leg.LegDev.contents legs in
    let few : length legs ≤ 8 = let i = opened.legs in let j = opened.origin.sizes.legs.1 in omega (arith, i, j) in
    handed_on (ShowErrs h c.args.name.now) c.from_residual-in_err-close.result e c.from_residual-in_err-close.ensures.1
    (close_errs h c.args.name.now told (length legs) (g.H.Shelf.faults c.open_array.new.shelf) e few
    (subst (λ f. Closes (leg_names c.args.name.now) told (length legs) f (Err e) h.files_after) opened.same c.in_err-close.ensures.contents)
    opened.cause.later (c.in_err-close.ensures.cause.failed e refl))

pub returns-in_err-close-clause-counts : goal.returns-in_err-close-clause-counts
returns-in_err-close-clause-counts g c =
    let now = g.H.Shelf.leg_faults c.close.new.shelf in
    subst (λ before. NeverFalls before now) c.in_ok-legs.ensures.uncounted
    (counts_never (g.H.Shelf.leg_faults c.open_array.new.shelf) (map g.H.Leg.LegDev.faults c.in_ok-legs.field-0.legs.items) (Err c.in_err-close.field-0.0) now c.in_err-close.ensures.legs)

pub returns-in_err-text-clause-error : goal.returns-in_err-text-clause-error
returns-in_err-text-clause-error g c =
    let h : ShelfSeen = record {
      files = g.H.Shelf.contents c.args.shelf.now;
      files_after = g.H.Shelf.contents c.close.new.shelf;
      faults = g.H.Shelf.faults c.args.shelf.now;
      faults_after = g.H.Shelf.faults c.close.new.shelf;
      leg_faults = g.H.Shelf.leg_faults c.args.shelf.now;
      leg_faults_after = g.H.Shelf.leg_faults c.close.new.shelf;
    } in
    let opened = c.in_ok-legs.ensures in
    let legs = c.in_ok-legs.field-0.legs.items in
    handed_on (ShowErrs h c.args.name.now) c.from_residual-in_err-text.result (errors.Memory c.in_err-text.field-0.0) c.from_residual-in_err-text.ensures.1
    (same_stand h c.args.name.now
    (given_same h.files (g.H.Shelf.contents c.open_array.new.shelf) h.files_after (leg_names c.args.name.now) c.in_ok-legs.field-0.images.items (map g.H.Leg.LegDev.contents legs)
    (map g.H.Leg.LegDev.size legs) (length legs) opened.opened opened.same (length-map legs g.H.Leg.LegDev.contents) c.in_ok-close.ensures.contents))

pub returns-in_err-text-clause-counts : goal.returns-in_err-text-clause-counts
returns-in_err-text-clause-counts g c =
    let now = g.H.Shelf.leg_faults c.close.new.shelf in
    subst (λ before. NeverFalls before now) c.in_ok-legs.ensures.uncounted
    (counts_never (g.H.Shelf.leg_faults c.open_array.new.shelf) (map g.H.Leg.LegDev.faults c.in_ok-legs.field-0.legs.items) (Ok tt) now c.in_ok-close.ensures.legs)

pub returns-clause-same : goal.returns-clause-same
returns-clause-same g c =
    let opened = c.in_ok-legs.ensures in
    let legs = c.in_ok-legs.field-0.legs.items in
    given_same (g.H.Shelf.contents c.args.shelf.now) (g.H.Shelf.contents c.open_array.new.shelf) (g.H.Shelf.contents c.close.new.shelf) (leg_names c.args.name.now)
    c.in_ok-legs.field-0.images.items (map g.H.Leg.LegDev.contents legs) (map g.H.Leg.LegDev.size legs) (length legs) opened.opened opened.same
    (length-map legs g.H.Leg.LegDev.contents) c.in_ok-close.ensures.contents

pub returns-clause-counts : goal.returns-clause-counts
returns-clause-counts g c =
    let now = g.H.Shelf.leg_faults c.close.new.shelf in
    subst (λ before. NeverFalls before now) c.in_ok-legs.ensures.uncounted
    (counts_never (g.H.Shelf.leg_faults c.open_array.new.shelf) (map g.H.Leg.LegDev.faults c.in_ok-legs.field-0.legs.items) (Ok tt) now c.in_ok-close.ensures.legs)
