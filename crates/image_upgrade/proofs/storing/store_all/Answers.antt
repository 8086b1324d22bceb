use Rattle.std.proofs.Common.{◌≤◌, map, get_or, None, subst, ◌∙◌, arith}
use Rattle.disk_image.specs.Files.{leg_name}
use Rattle.image_upgrade.specs.Stored.{PutsNew, read_at}
use Rattle.image_upgrade.specs.declared.ends.UpgradeError.TheVariants.{Old}
use Rattle.image_faults.specs.declared.faults.ImageError.TheVariants as errors
use Rattle.image_upgrade.proofs.PutLaws.{some_handed}
use Rattle.image_upgrade.proofs.StoreLaws.{stored_err, stored_more, stored_none}
use Rattle.image_upgrade.proofs.storing.store_all.Goals as goal

pub returns-in_err-text-clause-contents : goal.returns-in_err-text-clause-contents
returns-in_err-text-clause-contents g c =
    let told = map g.H.Leg.LegDev.contents c.args.legs.now.items in
    let files = g.H.Shelf.contents c.args.shelf.now in
    some_handed c.args.to.now c.args.images.now told files files c.from_residual.result (Old (errors.Memory c.in_err-text.field-0.0)) c.from_residual.ensures.1
    (0, stored_none c.args.to.now c.args.images.now told files)

pub returns-in_err-store_at-clause-contents : goal.returns-in_err-store_at-clause-contents
returns-in_err-store_at-clause-contents g c =
    let at = c.loop-l in
    let told = map g.H.Leg.LegDev.contents c.args.legs.now.items in
    let files = g.H.Shelf.contents c.args.shelf.now in
    let e = c.in_err-store_at.field-0.0 in
    some_handed c.args.to.now c.args.images.now told files (g.H.Shelf.contents c.store_at.new.shelf) c.from_residual-in_err-store_at.result e
    c.from_residual-in_err-store_at.ensures.1
    (stored_err (Unit {0}) c.args.to.now c.args.images.now told at.l files (g.H.Shelf.contents at.shelf) (g.H.Shelf.contents c.store_at.new.shelf) e (omega arith)
    at.invariant.stored c.in_err-store_at.ensures.contents c.in_err-store_at.ensures.end)

pub loop-l-preserved : goal.loop-l-preserved
loop-l-preserved g c =
    let at = c.loop-l in
    let told = map g.H.Leg.LegDev.contents c.args.legs.now.items in
    let files = g.H.Shelf.contents c.args.shelf.now in
    let mid = g.H.Shelf.contents at.shelf in
    let new = g.H.Shelf.contents c.store_at.new.shelf in
    record {
      stored = stored_more c.args.to.now c.args.images.now told at.l files mid new at.invariant.stored
          (subst (λ t. PutsNew mid (leg_name c.args.to.now at.l) (read_at c.args.images.now at.l) (get_or t at.l None) new) at.invariant.told c.in_ok-store_at.ensures.contents);
      told = c.store_at.ensures.told ∙ at.invariant.told;
      size = c.store_at.ensures.size ∙ at.invariant.size;
      legs = c.store_at.ensures.legs ∙ at.invariant.legs;
      later = let e : g.H.Shelf.faults at.shelf ≤ g.H.Shelf.faults c.store_at.new.shelf = c.store_at.ensures.cause.later in let i = at.invariant.later in omega (arith, e, i);
    }
