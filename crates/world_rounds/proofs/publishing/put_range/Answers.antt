use Rattle.std.proofs.Common.{◌<◌, length, arith}
use Rattle.world_rounds.proofs.Saying.{range_put}
use Rattle.world_rounds.proofs.publishing.put_range.Goals as goal

pub returns-clause-ranges : goal.returns-clause-ranges
returns-clause-ranges c =
    let lt : c.args.n < length c.args.suspended.now = omega (arith, c.requires, c.told-suspended) in
    range_put c.args.suspended.now c.args.n c.args.r c.index-suspended-n.result c.put.new.self lt c.put.ensures
