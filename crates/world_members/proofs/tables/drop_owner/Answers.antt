use Rattle.std.proofs.Common.{◌∙◌, arith}
use Rattle.std.proofs.Math.ListN.{length-set}
use Rattle.world_members.proofs.Replacing.{owner_dropped, owner_gone}
use Rattle.world_members.proofs.tables.drop_owner.Goals as goal

pub loop-list-preserved : goal.loop-list-preserved
loop-list-preserved c = record {
  dropped =
      owner_dropped c.args.lists.now c.loop-list.lists c.loop-list.list-index c.args.o _ c.drop_owner.new.self (omega arith) c.loop-list.invariant.dropped c.drop_owner.ensures;
  size = length-set c.loop-list.lists c.loop-list.list-index c.drop_owner.new.self ∙ c.loop-list.invariant.size;
}

pub returns-clause-ranges : goal.returns-clause-ranges
returns-clause-ranges c = owner_gone c.args.lists.now c.loop-list.lists c.loop-list.list-index c.args.o (omega arith) c.loop-list.invariant.dropped
