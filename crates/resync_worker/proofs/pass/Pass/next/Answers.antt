use Rattle.std.proofs.Common.{sym, ◌∙◌, arith}
use Rattle.std.proofs.lemmas.Bool.Decides.{nat_tests}
use Rattle.resync_worker.proofs.SectorLaws.{place_in-next}
use Rattle.resync_worker.specs.Copying.{passing_of}
use Rattle.resync_worker.proofs.pass.Pass.next.Goals as goal

pub returns-clause-window : goal.returns-clause-window
returns-clause-window c = λ edge.
    let pass = c.args.self.now in
    let next = place_in-next pass.sizes (passing_of pass).todo pass.reached c.args.window.lo c.args.window.hi c.in_ok-c.c c.first_chunk_in.ensures.size (sym c.first_chunk_in.ensures.value ∙ c.in_ok-c.was) in
    let from = next.from in
    let below = next.below edge in
    rw c.place_in.ensures.value (grind (arith, nat_tests))
