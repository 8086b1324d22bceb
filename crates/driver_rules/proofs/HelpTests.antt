-- The helping events of small states.
use Rattle.std.proofs.Common.{◌≡◌, ℕ, zero, suc, false, List, [], ◌∷◌, Option, Some, None, refl}
use Rattle.dlm_modes.specs.First.{first_such}
use Rattle.mdc_types.specs.declared.numbers.Sector.{Sector}
use Rattle.mdc_types.specs.declared.events.Event.{Event}
use Rattle.mdc_types.specs.declared.events.Event.TheVariants.{AskWrite, AskRead, WritePage, Out, EndWrite, Clear, In}
use Rattle.cluster_model.specs.State.{State}
use Rattle.cluster_model.proofs.Player.{next}
use Rattle.cluster_model.proofs.RowTests.{opening}
use Rattle.driver_rules.specs.Helpers.{enabled, next_help}

-- what `auto` does, at most so often
abbrev helped_by : (State → ℕ → List Event) → State → Option Event → ℕ → List Event
helped_by more state None k = []
helped_by more state (Some e) k = e ∷ more (next state e) k

helped : ℕ → State → List Event
helped zero state = []
helped (suc k) state = helped_by (λ s n. helped k s) state (next_help state.core) k

-- one write is finished in eight events
one_write_is_helped : (v : Sector) → helped 9 (next (opening 2 false) (AskWrite 0 5 v))
    ≡ WritePage 0 0 0 ∷ WritePage 0 0 1 ∷ Out 0 0 0 ∷ Out 0 0 1 ∷ EndWrite 0 0 ∷ Clear 0 1
    ∷ WritePage 0 0 0 ∷ WritePage 0 0 1 ∷ []
unfolding first_such helped
one_write_is_helped v = refl

-- a list has one event of each line
write_and_read : (v : Sector) → enabled (next (next (opening 2 false) (AskWrite 0 5 v)) (AskRead 0 5)).core 0
    ≡ WritePage 0 0 0 ∷ In 0 0 ∷ WritePage 0 0 0 ∷ []
unfolding first_such
write_and_read v = refl

-- where nobody asked anything there is no help
nothing_to_help : next_help (opening 2 false).core ≡ None
unfolding first_such
nothing_to_help = refl
