use Rattle.std.proofs.Common.{◌∙◌, lit<}
use Rattle.script_text.proofs.NumbersLaws.{number_parsed}
use Rattle.script_text.proofs.numbers.number.Goals as goal

pub returns : goal.returns
returns c =
    c.ok.ensures.value
    ∙ number_parsed c.args.word.now c.parse.result c.starts_with-2.result c.parse.ensures.value.0
    (c.if-starts_with.ensures.byte (lit< tt) (lit< tt) (λ w o is. is)) (c.starts_with-2.ensures.byte (lit< tt) (lit< tt) (λ w o is. is)) c.else-starts_with-2.either
