use Rattle.std.proofs.Common.{◌≡◌, ◌+◌, ◌-◌, ◌≤◌, length, drop}
use Rattle.script_text.specs.Lines.{lines_of, script_limit}
use Rattle.script_text.specs.Script.{setup_in, new_setup}
use Rattle.script_text.specs.Reading.{setup_at}
use Rattle.script_text.proofs.reading.read_setup.Given as goal

abbrev pub invariant-loop-at : goal.invariant-loop-at
invariant-loop-at l = record {
  read : setup_at l.bytes (new_setup l.fn.start) l.fn.at l.fn.line
      ≡ setup_in l.first (record { start = l.start; faults = l.faults.items }) l.line (script_limit - l.at) (lines_of (drop l.at l.bytes));
  few : l.line ≤ l.at + 1;
  room : l.at ≤ script_limit;
  legs : l.start.legs ≤ 8;
}

abbrev pub decreases-loop-at : goal.decreases-loop-at
decreases-loop-at l = length l.bytes - l.at
