use Rattle.std.proofs.Common.{arith, ◌≡◌, ◌∙◌, refl, sym, subst, length}
use Rattle.cluster_model.specs.Opening.{Origin}
use Rattle.cluster_core.specs.Stands.{Stand, stand}
use Rattle.script_text.specs.declared.script.Line.{Line}
use Rattle.script_play.specs.Playing.{Breaks, EndsFull, Takes}
use Rattle.script_play.specs.QueryAnswers.{Checks}
use Rattle.script_play.proofs.Played.{begins, next_line, cut_at, stop_at}
use Rattle.script_play.proofs.playing.play_lines.Goals as goal

pub play_line-played-requires-clause-base : goal.play_line-played-requires-clause-base
play_line-played-requires-clause-base g c κs lives =
    subst (λ (o : Origin). length o.base ≡ o.sizes.room) (sym c.loop-i.invariant.origin) c.requires.base

pub loop-i-init : goal.loop-i-init
loop-i-init g c = record {
  sofar = rw c.requires.empty (begins (Checks c.args.world.now.origin) (stand c.args.world.now) (g.K.Sink.written c.args.sink.now) c.history.ensures.few);
  origin = refl;
  later = omega arith;
}

pub loop-i-preserved : goal.loop-i-preserved
loop-i-preserved g c =
    let t = c.in-Ok.ensures.ok in
    record {
      sofar = next_line (Checks c.args.world.now.origin) (stand c.args.world.now) c.args.lines.now c.loop-i.i c.line.result c.line.ensures (stand c.loop-i.world) _ _ _ c.loop-i.invariant.sofar (stand c.play_line-played.new.world) t.0 _ _ (subst (λ o. Takes (Checks o) (stand c.loop-i.world) c.line.result (stand c.play_line-played.new.world) t.0) c.loop-i.invariant.origin t.1.0) c.history-in-loop-i.ensures.few t.1.1;
      origin = c.in-Ok.ensures.origin ∙ c.loop-i.invariant.origin;
      later = omega (arith, c.loop-i.invariant.later, c.in-Ok.ensures.later);
    }

pub returns-in-Err-clause-write : goal.returns-in-Err-clause-write
returns-in-Err-clause-write g c = λ is.
    let t = c.in-Err.ensures.write is in
    cut_at (Checks c.args.world.now.origin) (stand c.args.world.now) c.args.lines.now c.loop-i.i c.line.result c.line.ensures (stand c.loop-i.world) _ _ _ c.loop-i.invariant.sofar (stand c.play_line-played.new.world) t.0 _ (subst (λ o. Takes (Checks o) (stand c.loop-i.world) c.line.result (stand c.play_line-played.new.world) t.0) c.loop-i.invariant.origin t.1.0) c.history-in-loop-i.ensures.few t.1.1

pub returns-in-Err-clause-memory : goal.returns-in-Err-clause-memory
returns-in-Err-clause-memory g c = λ is.
    let t = c.in-Err.ensures.memory is in
    stop_at (Checks c.args.world.now.origin) (stand c.args.world.now) c.args.lines.now c.loop-i.i c.line.result c.line.ensures (stand c.loop-i.world) _ _ _ c.loop-i.invariant.sofar Breaks (stand c.play_line-played.new.world) _ _ t.0 t.1 t.2

pub returns-in-Err-clause-full : goal.returns-in-Err-clause-full
returns-in-Err-clause-full g c = λ is.
    let t = c.in-Err.ensures.full is in
    stop_at (Checks c.args.world.now.origin) (stand c.args.world.now) c.args.lines.now c.loop-i.i c.line.result c.line.ensures (stand c.loop-i.world) _ _ _ c.loop-i.invariant.sofar EndsFull (stand c.play_line-played.new.world) _ _ t.0 t.1 t.2
