use Rattle.std.proofs.Common.{◌∙◌, ap, sym, map, ok_or, Global}
use Rattle.std.specs.String.{string_bytes}
use Rattle.command_words.specs.Commands.{command_of}
use Rattle.command_words.specs.declared.command.WordsEnd.TheVariants.{Usage}
use Rattle.command_words.proofs.DashedWords.{dashed_none}
use Rattle.command_words.proofs.reading.read_words.Goals as goal

pub returns-then-not-are_plain-clause-value : goal.returns-then-not-are_plain-clause-value
returns-then-not-are_plain-clause-value c =
    let args = map (string_bytes {Z = Global}) c.in-Some.args.now in
    let whole = ap (map (string_bytes {Z = Global})) c.in-Some.ensures.cases.0 in
    let none = dashed_none (string_bytes {Z = Global} c.in-Some.word.now) args (sym c.if-not-are_plain.ensures) in
    ap (λ o. ok_or o Usage) (sym none) ∙ ap command_of (sym whole)
