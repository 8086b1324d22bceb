use Rattle.std.proofs.Common.{◌≡◌, ℕ, ◌&&◌, nat_lt}
use Rattle.mdc_types.specs.Bits.{has_bit}
use Rattle.world_members.specs.Tries.{tries_of, is_lost_leg}
use Rattle.world_members.proofs.newest.lost_legs.Given as goal

abbrev pub invariant-loop-l : goal.invariant-loop-l
invariant-loop-l l = (k : ℕ) → has_bit l.lost k ≡ (nat_lt k l.l && is_lost_leg (tries_of l.tried) (record { legs = l.legs }) k)
