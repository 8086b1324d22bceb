use Rattle.std.proofs.Common.{◌+◌, ℕ, List, Vec, Global, subst, sym, ◌∙◌, ap, arith}
use Rattle.script_text.specs.Reading.{body_at}
use Rattle.script_text.proofs.GrammarLaws.{at_line_ok}
use Rattle.script_text.proofs.ReadingLaws.{found_line}
use Rattle.script_text.proofs.PlacesLaws.{PlacesRead, places_more, places_skip}
use Rattle.script_text.proofs.reading.read_places.Goals as goal
use Rattle.script_text.proofs.reading.read_places.Goals.{in-Some+else-eq+in_ok-at_line-2+in_ok-push, in_default}

abbrev items_of : Vec ℕ Global → List ℕ
items_of places = places.items

pub loop-at-preserved : goal.loop-at-preserved
loop-at-preserved g c =
    let bytes = c.args.bytes.now in
    let at = c.loop-at.at in
    let n = c.loop-at.line in
    let next = c.in_ok-said.next in
    let found = found_line bytes at n c.next_line.result (c.in_ok-said.said, next) c.next_line.ensures (sym c.at_line.ensures ∙ c.in_ok-said.was) in
    let after : PlacesRead g.L.ScriptLine.says bytes (body_at g.L.ScriptLine.says bytes c.args.at c.args.line) c.match-said.places.items next (n + 1) = elim c.match-said.branch as (λ _. PlacesRead g.L.ScriptLine.says bytes (body_at g.L.ScriptLine.says bytes c.args.at c.args.line) c.match-said.places.items next (n + 1)) [
      | in-Some+else-eq+in_ok-at_line-2+in_ok-push w ↦
          subst (λ places. PlacesRead g.L.ScriptLine.says bytes (body_at g.L.ScriptLine.says bytes c.args.at c.args.line) places next (n + 1)) (sym (ap items_of w.places-is ∙ w.in_ok-push.ensures.items))
          (places_more g.L.ScriptLine.says bytes _ c.loop-at.places.items at n next c.in_ok-said.said (record { read = c.loop-at.invariant.read; are = c.loop-at.invariant.are }) found
          w.in-Some.word w.in-Some.args w.in-Some.is w.if-eq.ensures w.in_ok-at_line-2.field-0
          (sym w.of_words.ensures ∙ at_line_ok n w.of_words.result w.in_ok-at_line-2.field-0 (sym w.at_line-in-Some.ensures ∙ w.in_ok-at_line-2.was)))
      | in_default w ↦
          subst (λ places. PlacesRead g.L.ScriptLine.says bytes (body_at g.L.ScriptLine.says bytes c.args.at c.args.line) places next (n + 1)) (sym (ap items_of w.places-is))
          (places_skip g.L.ScriptLine.says bytes _ c.loop-at.places.items at n next c.in_ok-said.said (record { read = c.loop-at.invariant.read; are = c.loop-at.invariant.are }) found w.in_default.is)
    ] in
    record {
      read = after.read;
      are = after.are;
      few = omega (arith, found.later, c.loop-at.invariant.few);
      room = found.room;
    }
