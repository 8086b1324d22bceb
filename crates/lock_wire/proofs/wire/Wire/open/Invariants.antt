use Rattle.std.proofs.Common.{◌≡◌, ℕ, length, get_or, false, nat_lt}
use Rattle.lock_wire.proofs.wire.Wire.open.Given as goal

abbrev pub invariant-loop-n : goal.invariant-loop-n
invariant-loop-n l = record {
  long : length l.live ≡ 16;
  set : (k : ℕ) → get_or l.live k false ≡ nat_lt k l.n;
}
