use Rattle.std.proofs.Common.{sym, ◌∙◌, ap, ◌++◌, ◌∷◌, [], List, arith}
use Rattle.script_text.specs.Places.{line_at}
use Rattle.script_text.proofs.PlacesLaws.{lines_next}
use Rattle.script_text.proofs.reading.lines_at.Goals as goal

pub loop-at-preserved : goal.loop-at-preserved
loop-at-preserved g c =
    c.in_ok-push-in-Some.ensures.items ∙ (ap (λ (lines : List g.row.L.Denot). lines ++ c.in-Some.line ∷ []) c.loop-at.invariant
    ∙ sym (lines_next (line_at g.L.ScriptLine.says c.args.bytes.now) c.args.places.now c.loop-at.at-index c.in-Some.line (omega arith) (sym c.line_at.ensures ∙ c.in-Some.is)))
