use Rattle.std.proofs.Common.{ℕ, ◌≤◌, List, Vec, Global, Ok, subst, sym, ◌∙◌, ap, arith}
use Rattle.std.specs.Option.{option_copied}
use Rattle.script_text.specs.declared.script.FaultLine.{FaultLine}
use Rattle.script_text.specs.declared.script.Start.{Start}
use Rattle.script_text.specs.declared.header.SetupLine.TheVariants.{Room, Spare, Fault}
use Rattle.script_text.specs.Judging.{at_line}
use Rattle.script_text.specs.Lines.{words_after}
use Rattle.script_text.proofs.GrammarLaws.{spare_leg, at_line_ok}
use Rattle.script_text.proofs.ReadingLaws.{setup_goes_on, setup_skips, setup_same, setup_with}
use Rattle.script_text.proofs.reading.read_setup.Goals as goal
use Rattle.script_text.proofs.reading.read_setup.Goals.{in-Some+else-not-is_setup+in_ok-room+in-Room, in-Some+else-not-is_setup+in_ok-room+in-Spare, in-Some+else-not-is_setup+in_ok-room+in-Fault+in_ok-push-in-Fault, in_default}

pub with_leg-requires : goal.with_leg-requires
with_leg-requires c =
    let said = at_line_ok c.loop-at.line c.setup_line.result c.in_ok-room.field-0 (sym c.at_line.ensures ∙ c.in_ok-room.was) in
    let leg = spare_leg c.loop-at.start c.in-Some.word.now (words_after (option_copied c.in-Some.args)) c.in-Spare.leg (sym c.setup_line.ensures ∙ (said ∙ ap Ok c.in-Spare.is)) in
    omega (arith, leg, c.loop-at.invariant.legs)

abbrev few_legs : Start → Type 0
few_legs s = s.legs ≤ 8

abbrev items_of : Vec FaultLine Global → List FaultLine
items_of faults = faults.items

pub loop-at-preserved : goal.loop-at-preserved
loop-at-preserved c =
    let found = c.in-Ok.ensures in
    let start = c.loop-at.start in
    let n = c.loop-at.line in
    let goes_on = setup_goes_on c.args.bytes.now c.loop-at.at n c.in-Ok.found.1 _ c.loop-at.first (setup_with start c.loop-at.faults.items) c.in-Ok.found.0 c.loop-at.invariant.read found in
    let skips = setup_skips c.args.bytes.now c.loop-at.at n c.in-Ok.found.1 _ c.loop-at.first (setup_with start c.loop-at.faults.items) c.in-Ok.found.0 c.loop-at.invariant.read found in
    record {
      read = elim c.match-said.branch [
        | in-Some+else-not-is_setup+in_ok-room+in-Room w ↦
            goes_on w.in-Some.word w.in-Some.args (Room w.in-Room.room) c.match-said.first _ w.in-Some.is (sym w.if-not-is_setup.ensures)
            (ap (at_line n) (sym w.setup_line.ensures) ∙ (sym w.at_line.ensures ∙ (w.in_ok-room.was ∙ ap Ok w.in-Room.is)))
            w.first-is (setup_same _ _ _ _ (sym w.start-is) (ap items_of (sym w.faults-is)))
        | in-Some+else-not-is_setup+in_ok-room+in-Spare w ↦
            goes_on w.in-Some.word w.in-Some.args (Spare w.in-Spare.leg) c.match-said.first _ w.in-Some.is (sym w.if-not-is_setup.ensures)
            (ap (at_line n) (sym w.setup_line.ensures) ∙ (sym w.at_line.ensures ∙ (w.in_ok-room.was ∙ ap Ok w.in-Spare.is)))
            w.first-is (setup_same _ _ _ _ (ap (λ (spares : ℕ). record start { spares = spares }) (sym w.with_leg.ensures) ∙ sym w.start-is) (ap items_of (sym w.faults-is)))
        | in-Some+else-not-is_setup+in_ok-room+in-Fault+in_ok-push-in-Fault w ↦
            goes_on w.in-Some.word w.in-Some.args (Fault w.in-Fault.fault) c.match-said.first _ w.in-Some.is (sym w.if-not-is_setup.ensures)
            (ap (at_line n) (sym w.setup_line.ensures) ∙ (sym w.at_line.ensures ∙ (w.in_ok-room.was ∙ ap Ok w.in-Fault.is)))
            w.first-is (setup_same _ _ _ _ (sym w.start-is) (sym (ap items_of w.faults-is ∙ w.in_ok-push-in-Fault.ensures.items)))
        | in_default w ↦ skips c.match-said.first _ w.in_default.is w.first-is (setup_same _ _ _ _ (sym w.start-is) (ap items_of (sym w.faults-is)))
      ];
      few = omega (arith, found.later, c.loop-at.invariant.few);
      room = found.room;
      legs = elim c.match-said.branch [
        | in-Some+else-not-is_setup+in_ok-room+in-Room w ↦ subst few_legs (sym w.start-is) c.loop-at.invariant.legs
        | in-Some+else-not-is_setup+in_ok-room+in-Spare w ↦ subst few_legs (sym w.start-is) c.loop-at.invariant.legs
        | in-Some+else-not-is_setup+in_ok-room+in-Fault+in_ok-push-in-Fault w ↦ subst few_legs (sym w.start-is) c.loop-at.invariant.legs
        | in_default w ↦ subst few_legs (sym w.start-is) c.loop-at.invariant.legs
      ];
    }
