-- A place at the table that has the value.
use Rattle.std.specs.Prelude.{◌≡◌, ℕ, ◌^◌, ◌<◌, List, [], ◌∷◌, Bool, MatchBool, length}
use Rattle.atomic_table.specs.Table.{Me}
use Rattle.turn_table.specs.Lists.{Adds}
use Rattle.turn_table.specs.declared.stories.Story.{Ghosts}

-- it has the value y, of which P holds
abbrev pub HasValue : {T V : Type 0} → Me T V → (T → Type 0) → Type 0
HasValue {T} me P = (y : T) × (me.1 ≡ (0, y) ∷ []) × P y

module _ {T I O : Type 0} (g : Ghosts T I O) where
  -- an act left z of y, and the list has an entry more of this number if it grew
  abbrev pub Ran : ℕ → Bool → T → T → Type 0
  Ran number grew y z = (g.origin z ≡ g.origin y)
      × MatchBool grew
      (Adds g.number number (g.entries y) (g.entries z)) (g.entries z ≡ g.entries y)
      × (length (g.entries z) < 2 ^ 64)
