use Rattle.std.proofs.Common.{◌∙◌, ap, arith}
use Rattle.std.proofs.lemmas.List.{with_items_is}
use Rattle.node_recovery.specs.Progress.{pages_in}
use Rattle.node_recovery.proofs.RecoveringLaws.{cleared_after}
use Rattle.node_recovery.proofs.recovery.Recovery.slot_cleared.Goals as goal

pub returns-clause-cleared : goal.returns-clause-cleared
returns-clause-cleared c =
    let size = ap pages_in c.self.view_is in
    cleared_after c.self.inside.slot _ c.deref_mut.result.now c.self.inside.read.items
    c.self.inside.cleared.items c.self.inside.found c.args.self.now c.args.p c.args.l
    (with_items_is c.self.inside.cleared c.mark_page.new.done (omega arith)
    ∙ c.mark_page.ensures) c.deref_mut.ensures.value c.self.view_is
    (omega (arith, size, c.requires.page, c.self.invariant.same))
