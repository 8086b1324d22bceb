use Rattle.std.proofs.Common.{◌≡◌, ◌+◌, ◌-◌, ◌≤◌, length, vec_len}
use Rattle.script_text.specs.Lines.{script_limit}
use Rattle.script_text.specs.Outside.{with_front}
use Rattle.script_text.proofs.InputLaws.{IsOpen}
use Rattle.script_text.proofs.input.read_input.Given as goal

abbrev pub invariant-loop-source : goal.invariant-loop-source
invariant-loop-source g l =
    let left = g.S.Source.left in
    let faults = g.S.Source.faults in
    record {
      taken : left l.fn.source ≡ with_front l.bytes.items (left l.source);
      line : IsOpen l.bytes.items l.line_start;
      few : length l.bytes.items ≤ script_limit + 1;
      later : faults l.fn.source ≤ faults l.source;
    }

abbrev pub decreases-loop-source : goal.decreases-loop-source
decreases-loop-source g l = script_limit + 1 - vec_len l.bytes
