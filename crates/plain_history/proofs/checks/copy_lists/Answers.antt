use Rattle.std.proofs.Common.{refl, ◌∙◌}
use Rattle.std.proofs.lemmas.List.{map-append}
use Rattle.plain_history.proofs.Traces.{map-take_more}
use Rattle.plain_history.proofs.checks.copy_lists.Goals as goal

pub loop-list-preserved : goal.loop-list-preserved
loop-list-preserved c =
    let lists = c.args.lists.now in
    let i = c.loop-list.list-index in
    let copied = c.in_ok-from_slice.ensures.items ∙ c.deref.ensures.value in
    let more = map-take_more (λ list. list.items) lists i c.list-item.result c.loop-list-test.true c.list-item.is in
    rw (c.in_ok-push.ensures.items, map-append, c.loop-list.invariant, copied, more) refl
