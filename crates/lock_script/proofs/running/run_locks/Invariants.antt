use Rattle.std.proofs.Common.{◌≤◌, take}
use Rattle.dlm_space.specs.Parts.{locks_of}
use Rattle.lock_script.specs.Runs.{SoFar}
use Rattle.lock_script.proofs.running.run_locks.Given as goal

abbrev pub invariant-loop-line : goal.invariant-loop-line
invariant-loop-line g l = record {
  so_far : SoFar (take l.line-index l.lines) (locks_of l.space) (g.K.Sink.written l.fn.sink) l.out (g.K.Sink.written l.sink);
  later : g.K.Sink.faults l.fn.sink ≤ g.K.Sink.faults l.sink;
}
