use Rattle.std.proofs.Common.{◌≡◌, ◌≤◌, take}
use Rattle.cluster_core.specs.Stands.{stand}
use Rattle.script_play.specs.Playing.{SoFar}
use Rattle.script_play.specs.QueryAnswers.{Checks}
use Rattle.script_play.proofs.playing.play_lines.Given as goal

abbrev pub invariant-loop-i : goal.invariant-loop-i
invariant-loop-i g l = record {
  sofar : SoFar (Checks l.fn.world.origin) (stand l.fn.world) (take l.i l.lines) (stand l.world) (g.K.Sink.written l.fn.sink) l.out (g.K.Sink.written l.sink);
  origin : l.world.origin ≡ l.fn.world.origin;
  later : g.K.Sink.faults l.fn.sink ≤ g.K.Sink.faults l.sink;
}
