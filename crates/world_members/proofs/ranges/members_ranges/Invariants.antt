use Rattle.std.proofs.Common.{◌≡◌, ℕ, nat_lt, None, if◌then◌else◌}
use Rattle.suspend_ranges.specs.Suspended.{ranges_of}
use Rattle.cluster_model.specs.Joining.{range_of_member}
use Rattle.world_state.specs.Kept.{core_of}
use Rattle.world_members.proofs.ranges.members_ranges.Given as goal

abbrev pub invariant-loop-m : goal.invariant-loop-m
invariant-loop-m l = (o : ℕ) → ranges_of l.list o ≡ (if nat_lt o l.m then range_of_member (core_of l.core) o else None)
