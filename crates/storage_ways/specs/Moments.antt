-- How many of the entries may make an offer, end a round as a whole, make a slot pending, or settle
-- a sector.
use Rattle.std.specs.Prelude.{ℕ, suc, Bool, true, false, if◌then◌else◌, List, [], ◌∷◌}
use Rattle.mdc_types.specs.declared.events.Event.{Event}
use Rattle.mdc_types.specs.declared.events.Event.TheVariants.{Die, Offer, FinishRound, Settle}
use Rattle.mdc_types.specs.declared.outcomes.Entry.{Entry}

abbrev pub is_moment : Event → Bool
is_moment (Die n) = true
is_moment (Offer n wish) = true
is_moment (FinishRound n) = true
is_moment (Settle n) = true
is_moment e = false

-- after one entry more
abbrev pub moments_step : Event → ℕ → ℕ
moments_step e k = if is_moment e then suc k else k

-- after these entries
abbrev pub moments_in : List Entry → ℕ
moments_in [] = 0
moments_in (x ∷ past) = moments_step x.event (moments_in past)
