use Rattle.script_play.proofs.Played.{on_ok, on_err, line_due, line_cut}
use Rattle.script_play.proofs.playing.put_line.Goals as goal

pub returns-clause-ok : goal.returns-clause-ok
returns-clause-ok g c =
    let first = rw c.as_bytes.ensures.value at c.in_ok-put.ensures.ok in
    on_ok c.put-2.result (λ due. line_due _ _ _ c.args.out.now c.args.text.now _ _ first due) c.put-2.ensures.ok

pub returns-clause-err : goal.returns-clause-err
returns-clause-err g c =
    let first = rw c.as_bytes.ensures.value at c.in_ok-put.ensures.ok in
    on_err c.put-2.result (λ front. line_cut _ _ _ c.args.out.now c.args.text.now _ first front) c.put-2.ensures.err
