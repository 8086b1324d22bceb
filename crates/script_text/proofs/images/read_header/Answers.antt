use Rattle.std.proofs.Common.{subst, sym, ◌∙◌, ap, arith}
use Rattle.script_text.specs.Judging.{at_line}
use Rattle.script_text.specs.Reading.{HasLine, words_read}
use Rattle.script_text.proofs.ReadingLaws.{found_line}
use Rattle.script_text.proofs.ImagesLaws.{header_found}
use Rattle.script_text.proofs.images.read_header.Goals as goal

pub returns-in-Some-clause-found : goal.returns-in-Some-clause-found
returns-in-Some-clause-found c =
    let at = c.loop-at.at in
    let n = c.loop-at.line in
    let next = c.in_ok-said.next in
    let bytes = c.args.bytes.now in
    let found = found_line bytes at n c.next_line.result (c.in_ok-said.said, next) c.next_line.ensures (sym c.at_line.ensures ∙ c.in_ok-said.was) in
    let h = subst (λ said. HasLine bytes at (words_read said) next) c.in-Some.is found in
    header_found bytes at n _ _ next h _ c.loop-at.invariant.read (ap (at_line n) (sym c.header.ensures) ∙ (sym c.at_line-in-Some.ensures ∙ c.in_ok-at_line.was))

pub returns-in-Some-clause-few : goal.returns-in-Some-clause-few
returns-in-Some-clause-few c =
    let found = found_line c.args.bytes.now c.loop-at.at c.loop-at.line c.next_line.result (c.in_ok-said.said, c.in_ok-said.next) c.next_line.ensures (sym c.at_line.ensures ∙ c.in_ok-said.was) in
    (omega (arith, found.later, c.loop-at.invariant.few), found.room)
