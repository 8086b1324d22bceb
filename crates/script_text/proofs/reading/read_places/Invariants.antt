use Rattle.std.proofs.Common.{◌≡◌, ◌+◌, ◌-◌, ◌≤◌, length}
use Rattle.script_text.specs.Lines.{script_limit}
use Rattle.script_text.specs.Places.{lines_at, AreLines}
use Rattle.script_text.specs.Reading.{body_at}
use Rattle.script_text.proofs.ReadingLaws.{after_lines}
use Rattle.script_text.proofs.reading.read_places.Given as goal

abbrev pub invariant-loop-at : goal.invariant-loop-at
invariant-loop-at g l = record {
  read : body_at g.L.ScriptLine.says l.bytes l.fn.at l.fn.line
      ≡ after_lines (lines_at g.L.ScriptLine.says l.bytes l.places.items) (body_at g.L.ScriptLine.says l.bytes l.at l.line);
  are : AreLines g.L.ScriptLine.says l.bytes l.places.items;
  few : l.line ≤ l.at + 1;
  room : l.at ≤ script_limit;
}

abbrev pub decreases-loop-at : goal.decreases-loop-at
decreases-loop-at g l = length l.bytes - l.at
