-- How a table of values lies in memory.
use Rattle.std.specs.Prelude.{ℕ, ◌≡◌, ◌≢◌, ◌≤◌, List, [], ◌∷◌, length, Option, Some, None}
use Rattle.slab.specs.Slab.{Slab, get, ContainsKey, slab_len}

-- no key of these is this one
abbrev pub HasNot : ℕ → List ℕ → Type 0
HasNot key [] = Unit {0}
HasNot key (k ∷ keys) = (k ≢ key) × HasNot key keys

module _ {T : Type 0} where
  -- a value in front, if there is one
  abbrev pub with_first : Option T → List T → List T
  with_first None xs = xs
  with_first (Some x) xs = x ∷ xs

  -- the values under these keys
  abbrev pub values_at : Slab T → List ℕ → List T
  values_at s [] = []
  values_at s (key ∷ keys) = with_first (get s key) (values_at s keys)

  -- each key has a value, and stands once
  abbrev pub AreKeys : Slab T → List ℕ → Type 0
  AreKeys s [] = Unit {0}
  AreKeys s (key ∷ keys) = ContainsKey s key × HasNot key keys × AreKeys s keys

  -- these are the keys of the values, of which 16 have room
  pub record IsTable (s : Slab T) (keys : List ℕ) : Type 0 where
    pub are_keys : AreKeys s keys
    pub all : slab_len s ≡ length keys
    pub most : length keys ≤ 16
    pub room : 16 ≤ s.capacity
