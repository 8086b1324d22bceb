use Rattle.std.proofs.Common.{refl}
use Rattle.resync_worker.proofs.CopyingLaws.{legs-and}
use Rattle.resync_worker.proofs.pass.Pass.cover_only.Goals as goal

pub returns-clause-pass : goal.returns-clause-pass
returns-clause-pass c = rw (← c.self.view_is, legs-and c.self.inside.covered c.args.legs) refl
