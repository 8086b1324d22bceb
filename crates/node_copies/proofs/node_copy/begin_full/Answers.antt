use Rattle.std.proofs.Common.{ap}
use Rattle.std.specs.Prelude.{Some}
use Rattle.resync_worker.specs.Copying.{Passing}
use Rattle.cluster_model.specs.State.{Copy}
use Rattle.node_copies.specs.Copies.{turn_of}
use Rattle.node_copies.proofs.node_copy.begin_full.Goals as goal

pub returns-clause-copy : goal.returns-clause-copy
returns-clause-copy c =
    let with_pass : Passing → Copy = λ p. record { turn = turn_of c.args.x.now.turn; pass = Some p; window = c.args.x.now.window } in
    ap with_pass c.again_all.ensures.pass
