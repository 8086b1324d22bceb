use Rattle.std.proofs.Common.{◌≤◌, length}
use Rattle.script_text.proofs.OutsideLaws.{WroteTo}
use Rattle.script_text.proofs.sink.write_all.Given as goal

-- the first n bytes are written, and the rest is left
abbrev pub invariant-loop-rest : goal.invariant-loop-rest
invariant-loop-rest g l =
    let written = g.K.Sink.written in
    let faults = g.K.Sink.faults in
    record {
      done : WroteTo (written l.fn.sink) l.bytes l.rest (written l.sink);
      later : faults l.fn.sink ≤ faults l.sink;
    }

abbrev pub decreases-loop-rest : goal.decreases-loop-rest
decreases-loop-rest g l = length l.rest
