use Rattle.std.proofs.Common.{◌∙◌, ◌==◌, ◌&&◌, ◌<◌, length, arith, if◌then◌else◌}
use Rattle.std.proofs.lemmas.List.{get_or_default}
use Rattle.std.proofs.lemmas.List.Edits.{map_over_more}
use Rattle.plain_history.specs.Asked.{started}
use Rattle.plain_history.proofs.Recursions.{start_in-is, all_changed}
use Rattle.plain_history.proofs.asked.start_each.Goals as goal

pub loop-w-preserved : goal.loop-w-preserved
loop-w-preserved c =
    let within : c.loop-w.w-index < length c.loop-w.writes = omega arith in
    rw c.start_one.ensures
    (map_over_more (λ w. if w.node == c.args.n && w.number == c.args.k then started w else w) c.args.writes.now c.loop-w.writes c.loop-w.w-index _ (omega arith) c.loop-w.invariant (get_or_default _ _ _ _ within))

pub returns : goal.returns
returns c = c.loop-w.invariant ∙ all_changed (λ w. if w.node == c.args.n && w.number == c.args.k then started w else w) c.args.writes.now c.loop-w.w-index c.loop-w-test.false ∙ start_in-is c.args.n c.args.k c.args.writes.now
