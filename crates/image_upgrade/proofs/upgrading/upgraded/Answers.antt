use Rattle.std.proofs.Common.{◌≡◌, length, map, string_bytes, refl, ap, subst, Ok, Err, inl, ◌∙◌, ◌≤◌, arith}
use Rattle.std.proofs.lemmas.List.{length-map}
use Rattle.mdc_types.specs.Faults.{Rose}
use Rattle.image_faults.specs.declared.faults.ImageError.TheVariants as errors
use Rattle.image_files.specs.Closed.{OnlyTheseChange}
use Rattle.image_files.specs.Names.{leg_names}
use Rattle.image_files.proofs.GivenBack.{changes_none}
use Rattle.image_opening.proofs.NextLegs.{handed_on}
use Rattle.image_texts.specs.Lines.{upgraded_text}
use Rattle.image_ends.specs.Seen.{ShelfSeen}
use Rattle.image_upgrade.specs.Stored.{AreStored}
use Rattle.image_upgrade.specs.Upgrading.{UpgradeErrs}
use Rattle.image_upgrade.specs.declared.ends.UpgradeError.TheVariants.{Old}
use Rattle.image_upgrade.proofs.BackLaws.{are_old, close_errs, closes_as, counts_on, new_ends, old_ends, open_errs, rose_between, rose_later, upgraded_is}
use Rattle.image_upgrade.proofs.upgrading.upgraded.Goals as goal

pub returns-in_err-names-clause-error : goal.returns-in_err-names-clause-error
returns-in_err-names-clause-error g c =
    let h : ShelfSeen = record {
      files = g.H.Shelf.contents c.args.shelf.now;
      files_after = g.H.Shelf.contents c.args.shelf.now;
      faults = g.H.Shelf.faults c.args.shelf.now;
      faults_after = g.H.Shelf.faults c.args.shelf.now;
      leg_faults = g.H.Shelf.leg_faults c.args.shelf.now;
      leg_faults_after = g.H.Shelf.leg_faults c.args.shelf.now;
    } in
    handed_on (UpgradeErrs h c.args.from.now c.args.to.now) c.from_residual.result (Old (errors.Memory c.in_err-names.field-0.0)) c.from_residual.ensures.1
    (inl (changes_none (leg_names c.args.from.now) 8 (g.H.Shelf.contents c.args.shelf.now)))

pub returns-in_err-legs-clause-error : goal.returns-in_err-legs-clause-error
returns-in_err-legs-clause-error g c =
    let h : ShelfSeen = record {
      files = g.H.Shelf.contents c.args.shelf.now;
      files_after = g.H.Shelf.contents c.open_array.new.shelf;
      faults = g.H.Shelf.faults c.args.shelf.now;
      faults_after = g.H.Shelf.faults c.open_array.new.shelf;
      leg_faults = g.H.Shelf.leg_faults c.args.shelf.now;
      leg_faults_after = g.H.Shelf.leg_faults c.open_array.new.shelf;
    } in
    let e = c.in_err-legs.field-0.0 in
    let end = c.in_err-legs.ensures in
    handed_on (UpgradeErrs h c.args.from.now c.args.to.now) c.from_residual-in_err-legs.result (Old e) c.from_residual-in_err-legs.ensures.1
    (open_errs h c.args.from.now c.args.to.now e end.fault end.others (λ l is. end.device l (ap Err is)) (λ fault. end.cause.failed e refl fault))

pub returns-in_err-close_all-in-Ok-clause-error : goal.returns-in_err-close_all-in-Ok-clause-error
returns-in_err-close_all-in-Ok-clause-error g c =
    let h : ShelfSeen = record {
      files = g.H.Shelf.contents c.args.shelf.now;
      files_after = g.H.Shelf.contents c.close_all.new.shelf;
      faults = g.H.Shelf.faults c.args.shelf.now;
      faults_after = g.H.Shelf.faults c.close_all.new.shelf;
      leg_faults = g.H.Shelf.leg_faults c.args.shelf.now;
      leg_faults_after = g.H.Shelf.leg_faults c.close_all.new.shelf;
    } in
    let opened = c.in_ok-legs.ensures in
    let all = c.in_ok-legs.field-0 in
    let images = all.images.items in
    let told = map g.H.Leg.LegDev.contents all.legs.items in
    let seen : c.deref.result.now ≡ images = c.deref.ensures.value in
    let given = map g.H.Leg.LegDev.contents c.store_all.new.legs.items in
    let mid = g.H.Shelf.contents c.store_all.new.shelf in
    let e = c.in_err-close_all-in-Ok.field-0.0 in
    let old = are_old h.files c.args.from.now all.opening images told (map g.H.Leg.LegDev.size all.legs.items)
    opened.origin (opened.version refl) (opened.many ∙ opened.legs) opened.opened opened.told in
    let stored : AreStored c.args.to.now images told (length images) h.files mid =
    subst (λ f. AreStored c.args.to.now images told (length images) f mid) opened.same
    (subst (λ xs. AreStored c.args.to.now xs told (length xs) (g.H.Shelf.contents c.open_array.new.shelf) mid) seen
    c.in-Ok.ensures.contents) in
    let later : h.faults ≤ g.H.Shelf.faults c.store_all.new.shelf = let a = opened.cause.later in let b = c.in-Ok.ensures.cause.later in omega (arith, a, b) in
    handed_on (UpgradeErrs h c.args.from.now c.args.to.now) c.from_residual-in_err-close_all-in-Ok.result (Old e) c.from_residual-in_err-close_all-in-Ok.ensures.1
    (close_errs h c.args.from.now c.args.to.now images told mid e old stored
    (closes_as c.in_ok-names.names (leg_names c.args.from.now) given told (length c.store_all.new.legs.items) mid (Err e) h.files_after c.in_ok-names.ensures c.in-Ok.ensures.told
    (length-map c.store_all.new.legs.items g.H.Leg.LegDev.contents) c.in_err-close_all-in-Ok.ensures.contents)
    (λ fault. rose_later h.faults (g.H.Shelf.faults c.store_all.new.shelf) h.faults_after later (c.in_err-close_all-in-Ok.ensures.cause.failed e refl fault)))

pub returns-in_err-close_all-in-Ok-clause-counts : goal.returns-in_err-close_all-in-Ok-clause-counts
returns-in_err-close_all-in-Ok-clause-counts g c =
    counts_on (g.H.Shelf.leg_faults c.args.shelf.now) (g.H.Shelf.leg_faults c.store_all.new.shelf) (g.H.Shelf.leg_faults c.close_all.new.shelf)
    (map g.H.Leg.LegDev.faults c.store_all.new.legs.items) (c.store_all.ensures.legs ∙ c.in_ok-legs.ensures.uncounted) c.close_all.ensures.legs

pub returns-in-Ok-clause-text : goal.returns-in-Ok-clause-text
returns-in-Ok-clause-text g c =
    let h : ShelfSeen = record {
      files = g.H.Shelf.contents c.args.shelf.now;
      files_after = g.H.Shelf.contents c.close_all.new.shelf;
      faults = g.H.Shelf.faults c.args.shelf.now;
      faults_after = g.H.Shelf.faults c.close_all.new.shelf;
      leg_faults = g.H.Shelf.leg_faults c.args.shelf.now;
      leg_faults_after = g.H.Shelf.leg_faults c.close_all.new.shelf;
    } in
    let opened = c.in_ok-legs.ensures in
    let all = c.in_ok-legs.field-0 in
    let images = all.images.items in
    let told = map g.H.Leg.LegDev.contents all.legs.items in
    let seen : c.deref.result.now ≡ images = c.deref.ensures.value in
    let given = map g.H.Leg.LegDev.contents c.store_all.new.legs.items in
    let mid = g.H.Shelf.contents c.store_all.new.shelf in
    let old = are_old h.files c.args.from.now all.opening images told (map g.H.Leg.LegDev.size all.legs.items)
    opened.origin (opened.version refl) (opened.many ∙ opened.legs) opened.opened opened.told in
    let stored : AreStored c.args.to.now images told (length images) h.files mid =
    subst (λ f. AreStored c.args.to.now images told (length images) f mid) opened.same
    (subst (λ xs. AreStored c.args.to.now xs told (length xs) (g.H.Shelf.contents c.open_array.new.shelf) mid) seen
    c.in-Ok.ensures.contents) in
    upgraded_is h c.args.from.now c.args.to.now (string_bytes c.in-Ok.text) images told mid c.requires old stored
    (closes_as c.in_ok-names.names (leg_names c.args.from.now) given told (length c.store_all.new.legs.items) mid (Ok tt) h.files_after c.in_ok-names.ensures c.in-Ok.ensures.told
    (length-map c.store_all.new.legs.items g.H.Leg.LegDev.contents) c.in_ok-close_all-in-Ok.ensures.contents)
    (c.in-Ok.ensures.text ∙ ap (λ xs. upgraded_text c.args.to.now (length xs)) seen)

pub returns-in-Ok-clause-counts : goal.returns-in-Ok-clause-counts
returns-in-Ok-clause-counts g c =
    counts_on (g.H.Shelf.leg_faults c.args.shelf.now) (g.H.Shelf.leg_faults c.store_all.new.shelf) (g.H.Shelf.leg_faults c.close_all.new.shelf)
    (map g.H.Leg.LegDev.faults c.store_all.new.legs.items) (c.store_all.ensures.legs ∙ c.in_ok-legs.ensures.uncounted) c.close_all.ensures.legs

pub returns-in-Err-Old-clause-error : goal.returns-in-Err-Old-clause-error
returns-in-Err-Old-clause-error g c =
    let h : ShelfSeen = record {
      files = g.H.Shelf.contents c.args.shelf.now;
      files_after = g.H.Shelf.contents c.close_after.new.shelf;
      faults = g.H.Shelf.faults c.args.shelf.now;
      faults_after = g.H.Shelf.faults c.close_after.new.shelf;
      leg_faults = g.H.Shelf.leg_faults c.args.shelf.now;
      leg_faults_after = g.H.Shelf.leg_faults c.close_after.new.shelf;
    } in
    let opened = c.in_ok-legs.ensures in
    let all = c.in_ok-legs.field-0 in
    let images = all.images.items in
    let told = map g.H.Leg.LegDev.contents all.legs.items in
    let seen : c.deref.result.now ≡ images = c.deref.ensures.value in
    let mid = g.H.Shelf.contents c.store_all.new.shelf in
    let e = c.in-Err-Old.end in
    let old = are_old h.files c.args.from.now all.opening images told (map g.H.Leg.LegDev.size all.legs.items)
    opened.origin (opened.version refl) (opened.many ∙ opened.legs) opened.opened opened.told in
    let counted : g.H.Shelf.leg_faults c.store_all.new.shelf ≡ h.leg_faults = c.store_all.ensures.legs ∙ opened.uncounted in
    old_ends (Unit {0}) h c.args.from.now c.args.to.now images c.deref.result.now told told (g.H.Shelf.contents c.open_array.new.shelf) mid c.in-Err-Old.field-0 c.close_after.result e old
    seen refl opened.same c.in-Err-Old.field-0-is c.close_after.ensures.same c.in-Err-Old.ensures.contents
    (subst (λ names. OnlyTheseChange names 0 8 mid h.files_after) c.in_ok-names.ensures c.close_after.ensures.others) c.in-Err-Old.ensures.end
    (λ l is. subst (λ n. Rose n h.leg_faults_after) counted (c.close_after.ensures.device l is))

pub returns-clause-error : goal.returns-clause-error
returns-clause-error g c =
    let h : ShelfSeen = record {
      files = g.H.Shelf.contents c.args.shelf.now;
      files_after = g.H.Shelf.contents c.close_all-in-Err-New.new.shelf;
      faults = g.H.Shelf.faults c.args.shelf.now;
      faults_after = g.H.Shelf.faults c.close_all-in-Err-New.new.shelf;
      leg_faults = g.H.Shelf.leg_faults c.args.shelf.now;
      leg_faults_after = g.H.Shelf.leg_faults c.close_all-in-Err-New.new.shelf;
    } in
    let opened = c.in_ok-legs.ensures in
    let all = c.in_ok-legs.field-0 in
    let images = all.images.items in
    let told = map g.H.Leg.LegDev.contents all.legs.items in
    let seen : c.deref.result.now ≡ images = c.deref.ensures.value in
    let given = map g.H.Leg.LegDev.contents c.store_all.new.legs.items in
    let mid = g.H.Shelf.contents c.store_all.new.shelf in
    let old = are_old h.files c.args.from.now all.opening images told (map g.H.Leg.LegDev.size all.legs.items)
    opened.origin (opened.version refl) (opened.many ∙ opened.legs) opened.opened opened.told in
    new_ends (Unit {0}) h c.args.from.now c.args.to.now images c.deref.result.now told told (g.H.Shelf.contents c.open_array.new.shelf) mid c.in-Err-New.field-0 c.in-Err-New.l c.close_all-in-Err-New.result old
    seen refl opened.same c.in-Err-New.field-0-is c.in-Err-New.ensures.contents
    (closes_as c.in_ok-names.names (leg_names c.args.from.now) given told (length c.store_all.new.legs.items) mid c.close_all-in-Err-New.result h.files_after c.in_ok-names.ensures c.store_all.ensures.told
    (length-map c.store_all.new.legs.items g.H.Leg.LegDev.contents) c.close_all-in-Err-New.ensures.contents)
    (rose_between h.faults (g.H.Shelf.faults c.open_array.new.shelf) (g.H.Shelf.faults c.store_all.new.shelf) h.faults_after c.in-Err-New.field-0 c.in-Err-New.l
    c.in-Err-New.field-0-is opened.cause.later c.in-Err-New.ensures.cause c.close_all-in-Err-New.ensures.cause.later)

pub returns-clause-counts : goal.returns-clause-counts
returns-clause-counts g c =
    counts_on (g.H.Shelf.leg_faults c.args.shelf.now) (g.H.Shelf.leg_faults c.store_all.new.shelf) (g.H.Shelf.leg_faults c.close_all-in-Err-New.new.shelf)
    (map g.H.Leg.LegDev.faults c.store_all.new.legs.items) (c.store_all.ensures.legs ∙ c.in_ok-legs.ensures.uncounted) c.close_all-in-Err-New.ensures.legs
