use Rattle.std.proofs.Common.{◌≡◌, Some, ◌∙◌, sym, refl}
use Rattle.resync_worker.specs.Copying.{passing_of, next_in}
use Rattle.resync_worker.proofs.pass.Pass.copied_in.Goals as goal

pub returns-clause-pass : goal.returns-clause-pass
returns-clause-pass c =
    let next : next_in c.args.self.now.sizes (passing_of c.args.self.now) c.args.window ≡ Some c.in-Some.sector = sym c.next.ensures.value ∙ c.in-Some.is in
    rw (next, ← c.self.view_is, c.with_leg.ensures) refl
