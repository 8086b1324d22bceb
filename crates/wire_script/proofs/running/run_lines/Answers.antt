use Rattle.std.proofs.Common.{ℕ, List, Option, Err, ap, subst, ◌∙◌, arith}
use Rattle.std.proofs.lemmas.List.{get_or_default}
use Rattle.script_text.specs.Outside.{with_back, WroteFront}
use Rattle.wire_script.proofs.RunLaws.{next_line, cut_at, halt_at, ran_cut, ran_to_end}
use Rattle.wire_script.proofs.running.run_lines.Goals as goal

pub loop-line-preserved : goal.loop-line-preserved
loop-line-preserved g c =
    let t = c.in-Ok.ensures.ok in
    record {
      so_far = next_line c.args.nodes c.args.lines.now c.loop-line.line-index _ c.loop-line-test.true (get_or_default c.args.lines.now c.loop-line.line-index _ _ c.loop-line-test.true)
          _ _ _ _ _ _ c.loop-line.invariant.so_far t.0 t.1.0 _ t.1.1;
      later = omega (arith, c.loop-line.invariant.later, c.in-Ok.ensures.later);
    }

pub returns-in-Err-Write-clause-write : goal.returns-in-Err-Write-clause-write
returns-in-Err-Write-clause-write g c = λ is.
    let t = c.in-Err-Write.ensures.write (ap Err c.in-Err-Write.field-0-is) in
    cut_at c.args.nodes c.args.lines.now c.loop-line.line-index _ c.loop-line-test.true (get_or_default c.args.lines.now c.loop-line.line-index _ _ c.loop-line-test.true)
    _ _ _ _ _ _ c.loop-line.invariant.so_far t.0 t.1.0 c.requires.some_node c.requires.nodes t.1.1

pub returns-in-Ok-flush-clause-memory : goal.returns-in-Ok-flush-clause-memory
returns-in-Ok-flush-clause-memory g c = λ is.
    let m = c.in-Err-Memory.ensures.memory (ap Err c.in-Err-Memory.field-0-is) in
    halt_at c.args.nodes c.requires.some_node c.requires.nodes c.args.lines.now c.loop-line.line-index _ _ _ _ _ c.loop-line-test.true c.loop-line.invariant.so_far
    (c.in-Ok-flush.ensures.ok ∙ (ap (λ (o : Option (List ℕ)). with_back o c.run_line.new.out) m.0 ∙ ap (with_back (g.K.Sink.written c.loop-line.sink)) m.1))

pub returns-in-Err-clause-write : goal.returns-in-Err-clause-write
returns-in-Err-clause-write g c = λ is.
    let m = c.in-Err-Memory.ensures.memory (ap Err c.in-Err-Memory.field-0-is) in
    ran_cut c.args.nodes c.requires.some_node c.requires.nodes c.args.lines.now c.loop-line.line-index _ _ _ _ _ c.loop-line.invariant.so_far
    (subst (λ (o : Option (List ℕ)). WroteFront o c.loop-line.out (g.K.Sink.written c.flush.new.sink)) m.0
    (subst (λ (w : List ℕ). WroteFront (g.K.Sink.written c.run_line.new.sink) w (g.K.Sink.written c.flush.new.sink)) m.1 c.in-Err.ensures.err))

pub returns-in-Ok-flush-2-clause-ok : goal.returns-in-Ok-flush-2-clause-ok
returns-in-Ok-flush-2-clause-ok g c = ran_to_end c.args.nodes c.requires.some_node c.requires.nodes c.args.lines.now c.loop-line.line-index _ _ _ _ _ c.loop-line-test.false c.loop-line.invariant.so_far c.in-Ok-flush-2.ensures.ok

pub returns-in-Err-flush-clause-write : goal.returns-in-Err-flush-clause-write
returns-in-Err-flush-clause-write g c = λ is.
    ran_cut c.args.nodes c.requires.some_node c.requires.nodes c.args.lines.now c.loop-line.line-index _ _ _ _ _ c.loop-line.invariant.so_far c.in-Err-flush.ensures.err
