use Rattle.std.proofs.Common.{subst, sym, ◌∙◌, ap, arith}
use Rattle.std.specs.Option.{option_copied}
use Rattle.script_text.specs.Lines.{words_after}
use Rattle.script_text.specs.Judging.{at_line}
use Rattle.script_text.specs.Reading.{HasLine, words_read}
use Rattle.script_text.proofs.GrammarLaws.{start_legs, at_line_ok}
use Rattle.script_text.proofs.ReadingLaws.{found_line, start_found}
use Rattle.script_text.proofs.reading.read_start.Goals as goal

pub returns-in-Some-clause-found : goal.returns-in-Some-clause-found
returns-in-Some-clause-found c =
    let at = c.loop-at.at in
    let n = c.loop-at.line in
    let next = c.in_ok-said.next in
    let bytes = c.args.bytes.now in
    let found = found_line bytes at n c.next_line.result (c.in_ok-said.said, next) c.next_line.ensures (sym c.at_line.ensures ∙ c.in_ok-said.was) in
    let h = subst (λ said. HasLine bytes at (words_read said) next) c.in-Some.is found in
    start_found bytes at n _ _ next h _ c.in_ok-start.start c.loop-at.invariant.read (ap (at_line n) (sym c.start.ensures) ∙ (sym c.at_line-in-Some.ensures ∙ c.in_ok-start.was))

pub returns-in-Some-clause-few : goal.returns-in-Some-clause-few
returns-in-Some-clause-few c =
    let found = found_line c.args.bytes.now c.loop-at.at c.loop-at.line c.next_line.result (c.in_ok-said.said, c.in_ok-said.next) c.next_line.ensures (sym c.at_line.ensures ∙ c.in_ok-said.was) in
    (omega (arith, found.later, c.loop-at.invariant.few), found.room)

pub returns-in-Some-clause-legs : goal.returns-in-Some-clause-legs
returns-in-Some-clause-legs c =
    start_legs c.in-Some.word.now (words_after (option_copied c.in-Some.args)) c.in_ok-start.start (sym c.start.ensures ∙ at_line_ok c.loop-at.line c.start.result c.in_ok-start.start (sym c.at_line-in-Some.ensures ∙ c.in_ok-start.was))
