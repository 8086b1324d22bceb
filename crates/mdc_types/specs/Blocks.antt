-- The blocks of a set of chunks, in which one of its chunks may be.
use Rattle.std.specs.Prelude.{◌≡◌, ◌<◌, ◌≤◌, ℕ, ◌+◌, ◌*◌, ◌/◌, ◌^◌, Bool, true, false, List, length, get_or}

-- where a flag is set, its block is marked
pub record Covers (flags blocks : List Bool) : Type 0 where
  pub enough : length flags ≤ 128 * length blocks
  pub few : 128 * length blocks < length flags + 128
  pub each : (k : ℕ) → get_or flags k false ≡ true → get_or blocks (k / 128) false ≡ true

-- the blocks of a set of chunks, whose number has 32 bits
pub record IsIndexed (flags blocks : List Bool) : Type 0 where
  pub covers : Covers flags blocks
  pub small : length flags < 2 ^ 32
