use Rattle.std.proofs.Common.{◌≤◌, take}
use Rattle.lock_wire.specs.Parts.{wire_of}
use Rattle.wire_script.specs.Runs.{SoFar}
use Rattle.wire_script.proofs.running.run_lines.Given as goal

abbrev pub invariant-loop-line : goal.invariant-loop-line
invariant-loop-line g l = record {
  so_far : SoFar l.fn.nodes (take l.line-index l.lines) (wire_of l.wire) (g.K.Sink.written l.fn.sink) l.out (g.K.Sink.written l.sink);
  later : g.K.Sink.faults l.fn.sink ≤ g.K.Sink.faults l.sink;
}
