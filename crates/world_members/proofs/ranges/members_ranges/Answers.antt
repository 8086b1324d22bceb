use Rattle.suspend_ranges.specs.Suspended.{ranges_of}
use Rattle.cluster_model.specs.Joining.{range_of_member}
use Rattle.world_state.specs.Kept.{core_of}
use Rattle.world_members.proofs.Replacing.{range_put, no_ranges}
use Rattle.world_members.proofs.ranges.members_ranges.Goals as goal

pub loop-m-init : goal.loop-m-init
loop-m-init c = no_ranges (ranges_of c.new-list.result) (range_of_member (core_of c.args.core.now)) c.new-list.ensures

pub loop-m-preserved : goal.loop-m-preserved
loop-m-preserved c =
    range_put (ranges_of c.loop-m.list) (ranges_of c.put.new.list) c.loop-m.m _ (range_of_member (core_of c.args.core.now)) c.put.ensures c.range_told.ensures c.loop-m.invariant
