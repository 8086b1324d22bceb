use Rattle.std.proofs.Common.{refl, arith}
use Rattle.resync_worker.proofs.CopyingLaws.{legs-out}
use Rattle.resync_worker.proofs.pass.Pass.uncover.Goals as goal

pub returns-clause-pass : goal.returns-clause-pass
returns-clause-pass c =
    let legs = legs-out c.self.inside.covered c.without_leg-self-inside.result c.args.l c.requires (omega arith) (omega arith) c.without_leg-self-inside.ensures in
    rw (← c.self.view_is, legs) refl
