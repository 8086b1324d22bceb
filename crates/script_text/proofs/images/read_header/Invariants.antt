use Rattle.std.proofs.Common.{◌≡◌, ◌+◌, ◌-◌, ◌≤◌, length, drop}
use Rattle.script_text.specs.Lines.{lines_of, script_limit}
use Rattle.script_text.specs.Images.{images_in, images_judged}
use Rattle.script_text.proofs.images.read_header.Given as goal

abbrev pub invariant-loop-at : goal.invariant-loop-at
invariant-loop-at l = record {
  read : images_judged l.bytes ≡ images_in l.line (script_limit - l.at) (lines_of (drop l.at l.bytes));
  few : l.line ≤ l.at + 1;
  room : l.at ≤ script_limit;
}

abbrev pub decreases-loop-at : goal.decreases-loop-at
decreases-loop-at l = length l.bytes - l.at
