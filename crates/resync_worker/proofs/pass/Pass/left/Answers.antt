use Rattle.std.proofs.Common.{◌<◌, false, get_or, length}
use Rattle.std.specs.Prelude.{IfSome}
use Rattle.resync_worker.proofs.SectorLaws.{first_such-IfSome}
use Rattle.resync_worker.proofs.pass.Pass.left.Goals as goal

pub returns-clause-range : goal.returns-clause-range
returns-clause-range c =
    let below : IfSome c.first_from.result (λ k. k < length c.self.inside.todo) = rw c.first_from.ensures (first_such-IfSome (λ k. get_or c.self.inside.todo k false) 0 (length c.self.inside.todo)) in
    rw (← c.self.view_is, ← c.self.invariant.chunks) below
