use Rattle.std.proofs.lemmas.Result.{on_ok_weaker, on_err_weaker}
use Rattle.plain_history.proofs.Scans.{list_kept, list_changed}
use Rattle.plain_history.proofs.values.decide.Goals as goal

pub returns-clause-ok : goal.returns-clause-ok
returns-clause-ok c = on_ok_weaker c.leave_alone.result (list_changed (λ list. list.items) c.args.values.now.items c.args.s c.leave_alone.new.list _) c.leave_alone.ensures.ok

pub returns-clause-err : goal.returns-clause-err
returns-clause-err c = on_err_weaker c.leave_alone.result (list_kept (λ list. list.items) c.args.values.now.items c.args.s c.index_mut.result.now c.leave_alone.new.list c.index_mut.ensures.value) c.leave_alone.ensures.err
