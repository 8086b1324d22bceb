use Rattle.std.proofs.Common.{◌≡◌, ◌<◌, true, false, Some, Err, IfSome, length, refl, ap, sym, subst, ◌∙◌, arith}
use Rattle.mdc_types.specs.Geometry.{Sizes}
use Rattle.leg_failure.specs.Views.{works}
use Rattle.laws_sound.specs.Legs.{LegsFit}
use Rattle.driver_rules.specs.Wants.{least_member}
use Rattle.world_state.specs.Kept.{Kept, core_of}
use Rattle.cluster_core.specs.World.{Seen}
use Rattle.leg_comparison.specs.Reads.{Failing, TakesIn}
use Rattle.leg_comparison.specs.Compared.{told}
use Rattle.leg_comparison.proofs.LegRows.{IsBelow, begins, leaves_out, takes_in, first_fits, working_there, all_read, all_read_told, unread, place_below, same_still, then_same}
use Rattle.leg_comparison.proofs.comparing.compare_legs.Goals as goal

pub loop-l-init : goal.loop-l-init
loop-l-init g c = record {
  below = begins (core_of c.args.world.now.kept) c.in-Some.n c.args.world.now.legs c.new-rows.result (c.new-rows.ensures _);
  holds = same_still c.args.world.now.legs;
  same = refl;
}

pub loop-l-preserved-then-not-has_leg : goal.loop-l-preserved-then-not-has_leg
loop-l-preserved-then-not-has_leg g c =
    let n = c.in-Some.n in
    let l = c.loop-l.l in
    let idle : works ((core_of c.args.world.now.kept).view n) l ≡ false =
    sym (ap (λ (k : Kept). works ((core_of k).view n) l) c.core-2.ensures.kept) ∙ sym (c.working-working.ensures l) ∙ sym c.has_leg.ensures ∙ c.if-not-has_leg.true in
    record {
      below = leaves_out (core_of c.args.world.now.kept) n l c.args.world.now.legs c.loop-l.world.legs c.loop-l.rows c.loop-l.invariant.below idle;
      holds = c.loop-l.invariant.holds;
      same = c.loop-l.invariant.same;
    }

pub take_leg-requires-clause-leg : goal.take_leg-requires-clause-leg
take_leg-requires-clause-leg g c κs within =
    let n = c.in-Some.n in
    let l = c.loop-l.l in
    let reads : works ((core_of c.args.world.now.kept).view n) l ≡ true =
    sym (ap (λ (k : Kept). works ((core_of k).view n) l) c.core-2.ensures.kept) ∙ sym (c.working-working.ensures l) ∙ sym c.has_leg.ensures ∙ c.if-not-has_leg.false in
    let fit = subst (λ (k : Kept). LegsFit (core_of k)) c.core-2.ensures.kept c.core-2.ensures.ready.range.legs in
    subst (λ m. l < m) (sym (ap (λ (w : Seen). w.kept.identity.geometry.legs) c.loop-l.invariant.same))
    (working_there (core_of c.args.world.now.kept) n l fit reads)

pub take_leg-requires-clause-fits : goal.take_leg-requires-clause-fits
take_leg-requires-clause-fits g c κs within =
    subst (λ m. IfSome c.loop-l.rows.first (λ a. length a ≡ m)) (sym (ap (λ (w : Seen). w.kept.identity.geometry.room) c.loop-l.invariant.same))
    (first_fits _ _ c.loop-l.rows c.loop-l.invariant.below.is_kept)

pub returns-in-Err-Failed-clause-ok : goal.returns-in-Err-Failed-clause-ok
returns-in-Err-Failed-clause-ok g c =
    let n = c.in-Some.n in
    let l = c.loop-l.l in
    let reads : works ((core_of c.args.world.now.kept).view n) l ≡ true =
    sym (ap (λ (k : Kept). works ((core_of k).view n) l) c.core-2.ensures.kept) ∙ sym (c.working-working.ensures l) ∙ sym c.has_leg.ensures ∙ c.if-not-has_leg.false in
    let least : least_member (core_of c.args.world.now.kept) ≡ Some n =
    sym (ap (λ (k : Kept). least_member (core_of k)) c.core.ensures.kept) ∙ sym c.least_member.ensures.value ∙ c.in-Some.is in
    let fails = c.take_leg.ensures.failed (c.in-Err-Failed.is ∙ ap Err c.in-Err-Failed.field-0-is) in
    unread (core_of c.args.world.now.kept) n l c.args.world.now.legs c.loop-l.world.legs c.take_leg.new.world.legs c.loop-l.rows least reads (omega arith) c.loop-l.invariant.below
    (subst (λ (s : Sizes). Failing s l c.loop-l.world.legs c.take_leg.new.world.legs) (ap (λ (w : Seen). w.kept.identity.geometry) c.loop-l.invariant.same) fails)

pub loop-l-preserved : goal.loop-l-preserved
loop-l-preserved g c =
    let n = c.in-Some.n in
    let l = c.loop-l.l in
    let reads : works ((core_of c.args.world.now.kept).view n) l ≡ true =
    sym (ap (λ (k : Kept). works ((core_of k).view n) l) c.core-2.ensures.kept) ∙ sym (c.working-working.ensures l) ∙ sym c.has_leg.ensures ∙ c.if-not-has_leg.false in
    let takes = subst (λ (s : Sizes). TakesIn s l c.loop-l.world.legs c.take_leg.new.world.legs c.loop-l.rows c.take_leg.new.rows) (ap (λ (w : Seen). w.kept.identity.geometry) c.loop-l.invariant.same) c.in-Ok.ensures.ok in
    record {
      below = takes_in (core_of c.args.world.now.kept) n l c.args.world.now.legs c.loop-l.world.legs c.take_leg.new.world.legs c.loop-l.rows c.take_leg.new.rows c.loop-l.invariant.below reads takes;
      holds = then_same c.args.world.now.legs c.loop-l.world.legs c.take_leg.new.world.legs c.loop-l.invariant.holds c.take_leg.ensures.holds;
      same = c.take_leg.ensures.same ∙ ap (λ (w : Seen). record w { legs = c.take_leg.new.world.legs }) c.loop-l.invariant.same;
    }

pub told-requires : goal.told-requires
told-requires g c =
    let fit = subst (λ (k : Kept). LegsFit (core_of k)) c.core-2.ensures.kept c.core-2.ensures.ready.range.legs in
    let room = fit.sizes_fit.room in
    subst (λ o. IfSome o (λ s. s < 4294967296)) (sym c.place.ensures)
    (place_below c.args.world.now.kept.identity.geometry.room 4294967296 _ c.loop-l.rows c.loop-l.invariant.below.is_kept (omega (arith, room)))

pub returns-clause-ok : goal.returns-clause-ok
returns-clause-ok g c =
    let n = c.in-Some.n in
    let least : least_member (core_of c.args.world.now.kept) ≡ Some n =
    sym (ap (λ (k : Kept). least_member (core_of k)) c.core.ensures.kept) ∙ sym c.least_member.ensures.value ∙ c.in-Some.is in
    let all : c.loop-l.l ≡ 8 = omega arith in
    all_read (core_of c.args.world.now.kept) n c.args.world.now.legs c.loop-l.world.legs c.loop-l.rows c.told.result least
    (subst (λ k. IsBelow (core_of c.args.world.now.kept) n k c.args.world.now.legs c.loop-l.world.legs c.loop-l.rows) all c.loop-l.invariant.below)
    (c.told.ensures ∙ ap told c.place.ensures)

pub returns-clause-told : goal.returns-clause-told
returns-clause-told g c =
    let n = c.in-Some.n in
    let least : least_member (core_of c.args.world.now.kept) ≡ Some n =
    sym (ap (λ (k : Kept). least_member (core_of k)) c.core.ensures.kept) ∙ sym c.least_member.ensures.value ∙ c.in-Some.is in
    let all : c.loop-l.l ≡ 8 = omega arith in
    all_read_told (core_of c.args.world.now.kept) n c.args.world.now.legs c.loop-l.world.legs c.loop-l.rows c.told.result least
    (subst (λ k. IsBelow (core_of c.args.world.now.kept) n k c.args.world.now.legs c.loop-l.world.legs c.loop-l.rows) all c.loop-l.invariant.below)
    (c.told.ensures ∙ ap told c.place.ensures)
