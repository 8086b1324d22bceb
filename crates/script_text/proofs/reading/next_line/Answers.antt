use Rattle.std.proofs.Common.{sym, subst, ◌∙◌, ap, Ok, arith}
use Rattle.std.specs.Str.{IsValidUpTo, valid_up_to}
use Rattle.script_text.specs.Reading.{BeginsWithLine}
use Rattle.script_text.proofs.ReadingLaws.{too_long, wrong_text, right_text, line_read}
use Rattle.script_text.proofs.reading.next_line.Goals as goal

pub returns-then-len-saturating_sub : goal.returns-then-len-saturating_sub
returns-then-len-saturating_sub c =
    let text = c.split_line-len.result.0.now in
    let size = c.split_line-len.result.1 in
    let b = subst (λ rest. BeginsWithLine rest text size) c.split_at.ensures.back c.split_line-len.ensures in
    too_long c.args.bytes.now c.args.at text size b (omega arith)

pub returns-in_default : goal.returns-in_default
returns-in_default c =
    let text = c.split_line-len.result.0.now in
    let size = c.split_line-len.result.1 in
    let b = subst (λ rest. BeginsWithLine rest text size) c.split_at.ensures.back c.split_line-len.ensures in
    wrong_text c.args.bytes.now c.args.at text size b (omega arith)
    (λ e. IsValidUpTo text (valid_up_to e)) c.from_utf8.result c.from_utf8.ensures.cases c.in_default.field-0 c.in_default.is

pub returns : goal.returns
returns c =
    let text = c.split_line-len.result.0.now in
    let size = c.split_line-len.result.1 in
    let b = subst (λ rest. BeginsWithLine rest text size) c.split_at.ensures.back c.split_line-len.ensures in
    let said = right_text c.args.bytes.now c.args.at text size b (omega arith)
    (λ e. IsValidUpTo text (valid_up_to e)) c.from_utf8.result c.from_utf8.ensures.cases c.in-Ok.text c.in-Ok.is in
    line_read c.args.bytes.now c.args.at text size b _ (omega arith) (said ∙ ap Ok (sym c.said.ensures))
