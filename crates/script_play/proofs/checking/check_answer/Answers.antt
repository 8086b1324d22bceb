use Rattle.std.proofs.Common.{arith, ◌≡◌, ◌∙◌, ap, sym, subst, length, Ok}
use Rattle.std.specs.Prelude.{reverse}
use Rattle.std.specs.List.{All}
use Rattle.std.proofs.lemmas.List.{length-map, reverse-reverse}
use Rattle.mdc_types.specs.declared.outcomes.Entry.{Entry}
use Rattle.plain_history.specs.Tables.{IsWithin}
use Rattle.cluster_core.specs.Stands.{stand}
use Rattle.script_play.proofs.Played.{if_ok}
use Rattle.script_play.proofs.Within.{runs_within, checks_bad, few_places}
use Rattle.script_play.proofs.checking.check_answer.Goals as goal

pub check-requires : goal.check-requires
check-requires g c =
    let h = c.history.ensures in
    let base = c.base.ensures ∙ ap (λ o. o.base) c.opening.ensures in
    let count : length c.base.result.now ≡ c.args.world.now.origin.sizes.room = sym (length-map c.base.result.now (λ values. values.items)) ∙ ap length base ∙ c.requires.base in
    let trace : reverse c.args.world.now.past ≡ c.trace-trace.result.now = ap reverse c.trace-trace.ensures ∙ reverse-reverse c.trace-trace.result.now in
    subst (λ n. All (λ (x : Entry). IsWithin n x.event) c.trace-trace.result.now) (sym count)
    (subst (All (λ (x : Entry). IsWithin c.args.world.now.origin.sizes.room x.event)) trace (runs_within c.args.world.now.origin h.start h.opens c.args.world.now.past _ h.run))

pub overflow_add-place : goal.overflow_add-place
overflow_add-place g c =
    let bad = c.check.ensures.first c.in-FirstBad.place (c.in_ok-check.was ∙ ap Ok c.in-FirstBad.is) in
    let lt = few_places c.args.world.now.past c.trace-trace.result.now c.in-FirstBad.place c.history.ensures.few c.trace-trace.ensures bad.place in
    omega (arith, lt)

pub returns-in-FirstBad : goal.returns-in-FirstBad
returns-in-FirstBad g c =
    let base = c.base.ensures ∙ ap (λ o. o.base) c.opening.ensures in
    let bad = c.check.ensures.first c.in-FirstBad.place (c.in_ok-check.was ∙ ap Ok c.in-FirstBad.is) in
    if_ok c.bad_text.result (λ t says. checks_bad c.args.world.now.origin (stand c.args.world.now) _ c.trace-trace.result.now c.in-FirstBad.place c.in_ok-check.field-0 _ base c.trace-trace.ensures bad says
    c.in_ok-check.ensures.legal c.in-FirstBad.is) c.bad_text.ensures
