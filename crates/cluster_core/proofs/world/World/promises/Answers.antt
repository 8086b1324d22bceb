use Rattle.cluster_core.specs.World.{state}
use Rattle.cluster_core.proofs.world.World.promises.Goals as goal

pub returns : goal.returns
returns g c =
    let w = c.args.self.now in
    let r = c.history.ensures in
    record {
      reachable = r;
      guarantees = λ start opens run. c.runs_keep_their_promises.ensures w.origin start (state w) w.past opens run;
      header = λ some told. c.headers_keep_their_promises.ensures w.origin r.start (state w) w.past r.opens some r.run told;
    }
