-- Many seats made one.
use Rattle.std.specs.Prelude.{◌≡◌, ◌⊎◌, ℕ, ◌+◌, false, List, [], length, All, Any}
use Rattle.turn_table.specs.Lists.{BeginsWith, own, Has}
use Rattle.turn_table.specs.Seats.{seen, numbers, all_numbers}
use Rattle.turn_table.specs.declared.stories.Story.{Ghosts}
use Rattle.turn_table.specs.declared.seats.Seat.{Seat}
use Rattle.turn_table.specs.declared.views.View.{View}

-- w has each of these numbers, and knows all their entries that were seen
abbrev pub KnowsAll : {I O : Type 0} → (I → ℕ) → View I O → List ℕ → List I → Type 0
KnowsAll number w ns known =
    (n : ℕ) → Has ns n → Has w.numbers n × (own number n known ≡ own number n w.seen)

module _ {T I O : Type 0} {g : Ghosts T I O} where
  -- w has taken in what v and these seats have seen, and their numbers and no others
  pub record Gathers (v : View I O) (seats : List (Seat T I O g)) (w : View I O) : Type 0 where
    pub outside : w.inside ≡ false
    pub nothing_more : w.more ≡ []
    pub many : length w.numbers ≡ length v.numbers + all_numbers seats
    pub begins : BeginsWith w.seen v.seen
    pub begins_each : All (λ s. BeginsWith w.seen (seen s)) seats
    pub knows : KnowsAll g.number w v.numbers v.seen
    pub knows_each : All (λ s. KnowsAll g.number w (numbers s) (seen s)) seats
    pub only : (n : ℕ) → Has w.numbers n → Has v.numbers n ⊎ Any (λ s. Has (numbers s) n) seats
