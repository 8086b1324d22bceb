-- The generator, and the turns of small storms.
use Rattle.std.proofs.Common.{◌≡◌, false, Some, None, refl}
use Rattle.mdc_types.specs.declared.events.Event.TheVariants.{Die, Mend}
use Rattle.mdc_types.specs.declared.roles.NodeState.TheVariants as states
use Rattle.cluster_model.proofs.Small.{base}
use Rattle.cluster_model.proofs.RowTests.{opening}
use Rattle.driver_rules.specs.Storms.{next_seed, drawn, named, those_below, death, leg_to_cut, turn}
use Rattle.driver_rules.specs.Storms.{Death, Cutting, Mending, Drawing}

first_seeds : next_seed 7 ≡ 9098160460397411210
first_seeds = refl

first_draws : drawn (next_seed 7) 4 ≡ 2
first_draws = refl

-- deaths go before the cut
turns_of_six : (named 6 2 ≡ Death) × (named 6 4 ≡ Death) × (named 6 3 ≡ Cutting) × (named 6 0 ≡ Drawing)
turns_of_six = (refl, refl, refl, refl)

one_turn : named 1 0 ≡ Death
one_turn = refl

mended_later : named 400 300 ≡ Mending
mended_later = refl

-- the greatest live node dies, where two or more are live
greatest_dies : death (opening 2 false).core ≡ Some (Die 1)
unfolding those_below
greatest_dies = refl

last_lives : death (opening 1 false).core ≡ None
unfolding those_below
last_lives = refl

-- the greatest leg that node 0 reads from is cut, and mended
greatest_is_cut : leg_to_cut base ≡ Some 1
unfolding those_below
greatest_is_cut = refl

out_cuts_nothing : leg_to_cut (record base { state = λ n. states.Out }) ≡ None
unfolding those_below
out_cuts_nothing = refl

cut_is_mended : turn base 5 7 (Some 1) Mending ≡ record { event = Some (Mend 0 1); seed = 7 }
cut_is_mended = refl
