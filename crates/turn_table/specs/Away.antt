-- What the type of a seat keeps.
use Rattle.std.specs.Prelude.{◌≡◌, ◌≢◌, ℕ, ◌+◌, ◌^◌, ◌<◌, ◌≤◌, false, List, []}
use Rattle.turn_table.specs.Lists.{own, Has, from}
use Rattle.turn_table.specs.declared.views.View.{View}

module _ {I O : Type 0} where
  -- it isn't in the turn, and has so many numbers from the first on
  pub record IsAway (first count : ℕ) (v : View I O) : Type 0 where
    pub outside : v.inside ≡ false
    pub nothing_told : v.told ≡ []
    pub nothing_more : v.more ≡ []
    pub numbers_are : v.numbers ≡ from first count
    pub some_number : 0 < count
    pub in_range : first + count ≤ v.seats
    pub few : v.seats < 2 ^ 32

  -- the numbers that it has for splitting have no entry
  abbrev pub NoneElse : (I → ℕ) → ℕ → View I O → Type 0
  NoneElse number first v = (n : ℕ) → Has v.numbers n → n ≢ first → own number n v.seen ≡ []
