use Rattle.script_text.proofs.DueLaws.{flushed_ok, flushed_err}
use Rattle.script_text.proofs.text_out.TextOut.put.Goals as goal

pub returns-then-text-gt-ROOM-clause-ok : goal.returns-then-text-gt-ROOM-clause-ok
returns-then-text-gt-ROOM-clause-ok g c = flushed_ok _ _ _ _ _ _ c.write_all.result c.in_ok-flush.ensures.ok c.in_ok-flush.ensures.gone c.write_all.ensures.ok

pub returns-then-text-gt-ROOM-clause-err : goal.returns-then-text-gt-ROOM-clause-err
returns-then-text-gt-ROOM-clause-err g c = flushed_err _ _ _ _ _ c.write_all.result c.in_ok-flush.ensures.ok c.write_all.ensures.err
