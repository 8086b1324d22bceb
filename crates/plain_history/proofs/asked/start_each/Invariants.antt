use Rattle.std.proofs.Common.{◌≡◌, ◌==◌, ◌&&◌, ◌++◌, map, take, drop, if◌then◌else◌}
use Rattle.plain_history.specs.Asked.{started}
use Rattle.plain_history.proofs.asked.start_each.Given as goal

abbrev pub invariant-loop-w : goal.invariant-loop-w
invariant-loop-w l = l.writes ≡ map (λ w. if w.node == l.n && w.number == l.k then started w else w) (take l.w-index l.initial.writes) ++ drop l.w-index l.initial.writes
