use Rattle.std.proofs.Common.{map, length}
use Rattle.std.proofs.lemmas.Result.{err_from_is_err_and}
use Rattle.image_files.specs.Names.{leg_names}
use Rattle.image_files.proofs.GivenBack.{changes_none, counts_all}
use Rattle.image_files.proofs.closing.close.Goals as goal

pub returns-in_err-names-clause-contents : goal.returns-in_err-names-clause-contents
returns-in_err-names-clause-contents g c =
    let p = err_from_is_err_and c.from_residual.result c.from_residual.ensures.1 in
    rw (p.1, p.2) (changes_none (leg_names c.args.name.now) (length c.args.legs.items) (g.H.Shelf.contents c.args.shelf.now))

pub returns-clause-legs : goal.returns-clause-legs
returns-clause-legs g c =
    counts_all (g.H.Shelf.leg_faults c.args.shelf.now) (map g.H.Leg.LegDev.faults c.args.legs.items) c.close_all.result
    (g.H.Shelf.leg_faults c.close_all.new.shelf) c.close_all.ensures.legs
