use Rattle.node_recovery.proofs.RecoveringLaws.{is_begun}
use Rattle.node_recovery.proofs.recovery.Recovery.begin.Goals as goal

pub returns-clause-begun : goal.returns-clause-begun
returns-clause-begun c =
    rw (c.in_ok-vec.ensures.items_if_clones_equal (λ y e. e), c.in_ok-vec-2.ensures.items_if_clones_equal (λ y e. e), c.in_ok-new.ensures)
    (is_begun c.args.d c.pages-pages.result c.pages-pages.result c.chunks.result)
