use Rattle.std.proofs.Common.{◌++◌, ◌∷◌, [], ap, ◌∙◌, sym}
use Rattle.std.proofs.lemmas.Result.{on_ok_weaker, on_err_weaker}
use Rattle.plain_history.proofs.Scans.{list_at, list_kept, list_changed}
use Rattle.plain_history.proofs.values.append.Goals as goal

pub returns-clause-ok : goal.returns-clause-ok
returns-clause-ok c =
    let lists = c.args.values.now.items in
    let at = list_at (λ list. list.items) lists c.args.s c.index_mut.result.now c.requires c.index_mut.ensures.value in
    on_ok_weaker c.add.result (λ new. list_changed (λ list. list.items) lists c.args.s c.add.new.list _ (new ∙ ap (λ vs. vs ++ c.args.v.now ∷ []) (sym at))) c.add.ensures.ok

pub returns-clause-err : goal.returns-clause-err
returns-clause-err c = on_err_weaker c.add.result (list_kept (λ list. list.items) c.args.values.now.items c.args.s c.index_mut.result.now c.add.new.list c.index_mut.ensures.value) c.add.ensures.err
