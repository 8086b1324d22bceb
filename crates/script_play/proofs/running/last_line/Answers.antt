use Rattle.script_text.proofs.DueLaws.{due_cut_all}
use Rattle.script_play.proofs.Played.{on_err}
use Rattle.script_play.proofs.running.last_line.Goals as goal

pub returns-clause-err : goal.returns-clause-err
returns-clause-err g c = on_err c.flush.result (λ front. due_cut_all _ _ _ _ _ c.in_ok-put.ensures.ok front) c.flush.ensures.err
