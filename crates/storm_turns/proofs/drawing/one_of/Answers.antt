use Rattle.std.proofs.Common.{◌≡◌, ◌<◌, ◌≤◌, ◌+◌, ℕ, length, ap, sym, ◌∙◌, arith}
use Rattle.cluster_model.specs.Phases.{is_up}
use Rattle.driver_rules.specs.Storms.{Drawn, Writing, choices}
use Rattle.world_state.specs.Kept.{core_of}
use Rattle.storm_turns.proofs.Draws.{choices_are, length-choices, one_of-none, one_of_is, up_of}
use Rattle.storm_turns.proofs.drawing.one_of.Goals as goal

pub returns-then-count-eq0-clause-event : goal.returns-then-count-eq0-clause-event
returns-then-count-eq0-clause-event c =
    let core = core_of c.args.core.now in
    let same = choices_are core c.args.n c.as_slice-helps.result.now c.may_write-write.result c.may_read-read.result (c.as_slice-helps.ensures.value ∙ c.enabled-events.ensures) c.may_write-write.ensures c.may_read-read.ensures in
    let count = c.choice_count-count.ensures ∙ sym (length-choices c.as_slice-helps.result.now c.may_write-write.result c.may_read-read.result) ∙ ap length same in
    sym (ap (λ (d : Drawn). d.event) (one_of-none core c.args.n c.args.i c.args.x (choices core c.args.n) (sym count ∙ c.if-count-eq0.true)))

pub returns-then-count-eq0-clause-seed : goal.returns-then-count-eq0-clause-seed
returns-then-count-eq0-clause-seed c =
    let core = core_of c.args.core.now in
    let same = choices_are core c.args.n c.as_slice-helps.result.now c.may_write-write.result c.may_read-read.result (c.as_slice-helps.ensures.value ∙ c.enabled-events.ensures) c.may_write-write.ensures c.may_read-read.ensures in
    let count = c.choice_count-count.ensures ∙ sym (length-choices c.as_slice-helps.result.now c.may_write-write.result c.may_read-read.result) ∙ ap length same in
    sym (ap (λ (d : Drawn). d.seed) (one_of-none core c.args.n c.args.i c.args.x (choices core c.args.n) (sym count ∙ c.if-count-eq0.true)))

pub choice_at-choice-requires : goal.choice_at-choice-requires
choice_at-choice-requires c =
    let total = length-choices c.as_slice-helps.result.now c.may_write-write.result c.may_read-read.result in
    omega (arith, total, c.choice_count-count.ensures, c.draw_below-k.ensures.below)

pub of_choice-requires-clause-up : goal.of_choice-requires-clause-up
of_choice-requires-clause-up c = λ s.
    up_of (is_up ((core_of c.args.core.now).state c.args.n)) _ _ c.may_write-write.result c.may_read-read.result c.may_write-write.ensures c.may_read-read.ensures (c.choice_at-choice.ensures.sector s)

pub returns-clause-event : goal.returns-clause-event
returns-clause-event c =
    let core = core_of c.args.core.now in
    let same = choices_are core c.args.n c.as_slice-helps.result.now c.may_write-write.result c.may_read-read.result (c.as_slice-helps.ensures.value ∙ c.enabled-events.ensures) c.may_write-write.ensures c.may_read-read.ensures in
    let count = c.choice_count-count.ensures ∙ sym (length-choices c.as_slice-helps.result.now c.may_write-write.result c.may_read-read.result) ∙ ap length same in
    c.of_choice.ensures.event ∙ ap (λ (d : Drawn). d.event)
    (one_of_is core c.args.n c.args.i c.args.x c.next_seed-seed.result c.choice_count-count.result c.draw_below-k.result (choices core c.args.n) _ _ Writing same c.next_seed-seed.ensures count (omega arith) c.draw_below-k.ensures.value (c.choice_at-choice.ensures.choice Writing))

pub returns-clause-seed : goal.returns-clause-seed
returns-clause-seed c =
    let core = core_of c.args.core.now in
    let same = choices_are core c.args.n c.as_slice-helps.result.now c.may_write-write.result c.may_read-read.result (c.as_slice-helps.ensures.value ∙ c.enabled-events.ensures) c.may_write-write.ensures c.may_read-read.ensures in
    let count = c.choice_count-count.ensures ∙ sym (length-choices c.as_slice-helps.result.now c.may_write-write.result c.may_read-read.result) ∙ ap length same in
    c.of_choice.ensures.seed ∙ ap (λ (d : Drawn). d.seed)
    (one_of_is core c.args.n c.args.i c.args.x c.next_seed-seed.result c.choice_count-count.result c.draw_below-k.result (choices core c.args.n) _ _ Writing same c.next_seed-seed.ensures count (omega arith) c.draw_below-k.ensures.value (c.choice_at-choice.ensures.choice Writing))
