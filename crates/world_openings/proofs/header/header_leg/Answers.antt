use Rattle.world_openings.proofs.Written.{pushed}
use Rattle.cluster_model.specs.Contents.{header_sector}
use Rattle.world_openings.proofs.header.header_leg.Goals as goal

pub loop-at-preserved : goal.loop-at-preserved
loop-at-preserved c =
    pushed c.loop-at.sectors.items c.push.new.self.items c.header_sector.result c.loop-at.at (header_sector c.args.opening.now c.args.l)
    c.in_ok-push.ensures.items c.loop-at.invariant.0 c.loop-at.invariant.1 c.header_sector.ensures
