use Rattle.std.proofs.Common.{◌<◌, length, arith}
use Rattle.dlm_space.specs.Locks.{died}
use Rattle.dlm_space.proofs.PartLaws.{locks_of-one_more}
use Rattle.dlm_space.proofs.space.leave_all.Goals as goal

pub loop-resource-preserved : goal.loop-resource-preserved
loop-resource-preserved c =
    let now = c.loop-resource.resource-items in
    let lt : c.loop-resource.resource-index < length now = omega arith in
    locks_of-one_more (λ lock. died lock c.args.node) c.args.resources.now now c.loop-resource.resource-index _ c.die.new.self lt c.loop-resource.invariant c.die.ensures
