use Rattle.std.proofs.Common.{List, ap, length, arith}
use Rattle.script_text.specs.declared.script.Line.{Line}
use Rattle.script_text.specs.Places.{line_at}
use Rattle.script_text.specs.Script.{line_of}
use Rattle.script_text.proofs.PlacesLaws.{lines_length}
use Rattle.script_text.proofs.script.ScriptLines.len.Goals as goal

pub returns : goal.returns
returns c =
    omega (arith, c.len.ensures, lines_length (line_at line_of c.self.inside.bytes.now) c.self.inside.places.items c.self.invariant, ap (λ (lines : List Line). length lines) c.self.view_is)
