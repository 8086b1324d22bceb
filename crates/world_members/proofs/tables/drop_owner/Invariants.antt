use Rattle.std.proofs.Common.{◌≡◌, ℕ, length, nat_lt, None, if◌then◌else◌}
use Rattle.dlm_modes.specs.Points.{with_at}
use Rattle.world_members.specs.Tables.{suspended_of}
use Rattle.world_members.proofs.tables.drop_owner.Given as goal

abbrev pub invariant-loop-list : goal.invariant-loop-list
invariant-loop-list l = record {
  dropped : (m : ℕ) → suspended_of l.lists m ≡ (if nat_lt m l.list-index then with_at (suspended_of l.initial.lists m) l.o None else suspended_of l.initial.lists m);
  size : length l.lists ≡ 16;
}
