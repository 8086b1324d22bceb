use Rattle.std.proofs.Common.{lit<}
use Rattle.std.proofs.lemmas.List.Splits.{slice_split_first}
use Rattle.script_text.proofs.LinesLaws.{words_only}
use Rattle.script_text.proofs.lines.split_word.Goals as goal

pub returns-in-Some : goal.returns-in-Some
returns-in-Some c =
    let h = c.in-Some.ensures.byte (lit< tt) (λ w o is. is) in
    rw (h.0, h.1) (slice_split_first _ c.args.text.now 0 h.2)

pub returns-in-None : goal.returns-in-None
returns-in-None c = words_only c.args.text.now (c.in-None.ensures.byte (lit< tt) (λ w o is. is))
