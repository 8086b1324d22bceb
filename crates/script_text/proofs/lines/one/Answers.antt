use Rattle.std.proofs.Common.{ap, sym, ◌∙◌}
use Rattle.std.specs.Option.{option_copied}
use Rattle.script_text.specs.Lines.{one, words_after}
use Rattle.script_text.proofs.LinesLaws.{one_more}
use Rattle.script_text.proofs.lines.one.Goals as goal

pub returns-then-is_some : goal.returns-then-is_some
returns-then-is_some c =
    one_more c.in_ok-args.field-0.now c.split_word.result.0.now c.split_word.result.1 c.split_word.ensures (sym c.if-is_some.true ∙ c.is_some.ensures)
    ∙ ap (λ args. one (words_after (option_copied args))) (sym c.in_ok-args.was)
