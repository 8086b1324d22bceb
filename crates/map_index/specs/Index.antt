-- What is sought in a map, and the blocks in which it may be.
use Rattle.std.specs.Prelude.{◌≡◌, ◌<◌, ◌≤◌, ℕ, ◌*◌, ◌/◌, Bool, true, false, not, ◌&&◌, min, List, length, get_or, Option, Some, None}
use Rattle.node_bitmaps.specs.Bitmap.{Bitmap, unmarked_target}
use Rattle.node_bitmaps.specs.Map.{Map, bitmap_of, chunks_in}
use Rattle.map_index.specs.declared.search.Sought.{Sought}
use Rattle.map_index.specs.declared.search.Sought.TheVariants.{InSet, Needed, Settled}

-- whether the chunk is one that is sought: in the set, to be copied, or in the set and not to be copied
abbrev pub is_sought : Sought → Bitmap → ℕ → Bool
is_sought InSet bits = bits.set
is_sought Needed bits = bits.need
is_sought Settled bits = λ c. bits.set c && not (bits.need c)

-- where a chunk passes, its block is marked
pub record Covers (passes : ℕ → Bool) (chunks : ℕ) (blocks : List Bool) : Type 0 where
  pub enough : chunks ≤ 128 * length blocks
  pub few : length blocks ≤ 496
  pub each : (c : ℕ) → c < chunks → passes c ≡ true → get_or blocks (c / 128) false ≡ true

-- the blocks of a map
pub record IsIndexed (m : Map) (sets needs : List Bool) : Type 0 where
  pub set_in : Covers (bitmap_of m).set (chunks_in m) sets
  pub need_in : Covers (bitmap_of m).need (chunks_in m) needs

-- chunk c is the first of the set that has no mark on one of the legs, and l is the least such leg of it
pub record IsFirstLacking (m : Bitmap) (targets : ℕ → Bool) (chunks c l : ℕ) : Type 0 where
  pub within : c < chunks
  pub in_set : m.set c ≡ true
  pub leg : unmarked_target m targets c ≡ Some l
  pub before : (k : ℕ) → k < c → m.set k ≡ true → unmarked_target m targets k ≡ None

-- the lesser of two legs, where there is another
abbrev pub lesser : ℕ → Option ℕ → ℕ
lesser l None = l
lesser l (Some k) = min l k
