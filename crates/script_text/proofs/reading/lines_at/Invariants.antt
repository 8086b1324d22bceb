use Rattle.std.proofs.Common.{◌≡◌, take}
use Rattle.script_text.specs.Places.{lines_at}
use Rattle.script_text.proofs.reading.lines_at.Given as goal

abbrev pub invariant-loop-at : goal.invariant-loop-at
invariant-loop-at g l = l.lines.items ≡ lines_at g.L.ScriptLine.says l.bytes (take l.at-index l.places)
