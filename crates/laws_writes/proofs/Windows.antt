-- Windows: whoever copies in a window has told all others, and nobody writes there.
use Rattle.std.specs.Prelude.{◌≡◌, ℕ, ◌<◌, ◌||◌, true, false, Some, None, is_some}
use Rattle.mdc_types.specs.declared.events.Wish.TheVariants as wishes
use Rattle.mdc_types.specs.declared.numbers.Range.{Range}
use Rattle.suspend_ranges.specs.Suspended.{suspends}
use Rattle.cluster_model.specs.State.{Offer}
use Rattle.cluster_model.specs.Phases.{is_in, is_up, offers}
use Rattle.cluster_model.specs.Wishes.{is_window}
use Rattle.laws_roles.proofs.Parts.{is_loaded}
use Rattle.storage_ways.proofs.Parts.{Part, write_of, writes_at, is_range, offered_range, tells_range, waits, own, has_pass}

-- an up node's list has each node's own range, unless it hasn't heard yet of the one published
abbrev pub ListOwn : Part → Type 0
ListOwn w = (n m : ℕ) → is_up (w.state n) ≡ true → waits w n m ≡ false
    → w.suspended n m ≡ own w m

abbrev pub WindowOwn : Part → Type 0
WindowOwn w = (n : ℕ) → is_some (w.copy n).window ≡ true → own w n ≡ (w.copy n).window

-- who has published a range has it for its own, and no window
abbrev pub RangeOwn : Part → Type 0
RangeOwn w = (n : ℕ) → tells_range w n ≡ true → own w n ≡ offered_range (w.offer n)

abbrev pub RangeShut : Part → Type 0
RangeShut w = (n : ℕ) → tells_range w n ≡ true → (w.copy n).window ≡ None

-- no live write of a node lies in a range of its list
abbrev pub NoWriteThere : Part → Type 0
NoWriteThere w = (n m k s : ℕ) → m < 16 → writes_at (write_of w n k) s ≡ true
    → suspends s (w.suspended n m) ≡ false

abbrev pub LoadedOwn : Part → Type 0
LoadedOwn w = (n m : ℕ) → is_loaded (w.state n) ≡ true → w.suspended n m ≡ own w m

-- the valid block of a slot's lock tells its node's own range
abbrev pub BlockOwn : Part → Type 0
BlockOwn w = (m : ℕ) → m < 16 → w.told m ≡ own w m

abbrev pub OwnWhy : Part → Type 0
OwnWhy w = (m : ℕ) → is_some (own w m) ≡ true
    → (is_some (w.copy m).window || tells_range w m) ≡ true

abbrev pub OwnUp : Part → Type 0
OwnUp w = (m : ℕ) → is_up (w.state m) ≡ false → own w m ≡ None

abbrev pub NoList : Part → Type 0
NoList w = (m k : ℕ) → is_in (w.state m) ≡ false → w.suspended m k ≡ None

-- a range that is offered is empty, or one of whole chunks
abbrev pub RangeForm : Part → Type 0
RangeForm w = (n : ℕ) (r : Range) (o : Offer) → w.offer n ≡ Some o → o.wish ≡ wishes.Range r
    → is_window w.geometry r ≡ true

abbrev pub OwnForm : Part → Type 0
OwnForm w = (m : ℕ) (r : Range) → own w m ≡ Some r → is_window w.geometry r ≡ true

-- it isn't empty
abbrev pub OwnSome : Part → Type 0
OwnSome w = (m : ℕ) (r : Range) → own w m ≡ Some r → r.lo < r.hi

abbrev pub WindowPass : Part → Type 0
WindowPass w = (n : ℕ) → is_some (w.copy n).window ≡ true → has_pass (w.copy n) ≡ true

abbrev pub RangePass : Part → Type 0
RangePass w = (n : ℕ) → offers is_range (w.offer n) ≡ true → has_pass (w.copy n) ≡ true

pub record Windows (w : Part) : Type 0 where
  pub list_own : ListOwn w
  pub window_own : WindowOwn w
  pub range_own : RangeOwn w
  pub range_shut : RangeShut w
  pub no_write_there : NoWriteThere w
  pub loaded_own : LoadedOwn w
  pub block_own : BlockOwn w
  pub own_why : OwnWhy w
  pub own_up : OwnUp w
  pub no_list : NoList w
  pub range_form : RangeForm w
  pub own_form : OwnForm w
  pub own_some : OwnSome w
  pub window_pass : WindowPass w
  pub range_pass : RangePass w
