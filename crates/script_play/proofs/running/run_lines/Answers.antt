use Rattle.std.proofs.Common.{Err, ap}
use Rattle.script_play.proofs.Ran.{ran_all_cut, ran_cut, ran_some_cut, ran_full_cut}
use Rattle.script_play.proofs.running.run_lines.Goals as goal

pub returns-in-Err-clause-ran : goal.returns-in-Err-clause-ran
returns-in-Err-clause-ran g c = ran_all_cut _ _ _ _ _ _ _ _ c.in-Ok.ensures.ok c.in-Err.ensures.err

pub returns-in-Err-Write-clause-ran : goal.returns-in-Err-Write-clause-ran
returns-in-Err-Write-clause-ran g c = ran_cut _ _ _ _ _ _ (c.in-Err-Write.ensures.write (ap Err c.in-Err-Write.field-0-is))

pub returns-in-Err-flush-clause-ran : goal.returns-in-Err-flush-clause-ran
returns-in-Err-flush-clause-ran g c = ran_some_cut _ _ _ _ _ _ _ _ (c.in-Err-Memory.ensures.memory (ap Err c.in-Err-Memory.field-0-is)) c.in-Err-flush.ensures.err

pub returns-in-Err-last_line-clause-ran : goal.returns-in-Err-last_line-clause-ran
returns-in-Err-last_line-clause-ran g c = ran_full_cut _ _ _ _ _ _ _ _ (c.in-Err-TraceFull.ensures.full (ap Err c.in-Err-TraceFull.field-0-is)) c.in-Err-last_line.ensures.err
