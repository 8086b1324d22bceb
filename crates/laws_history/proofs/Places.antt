-- Places of a run, and what no event changes.
use Rattle.std.proofs.Common.{◌≡◌, ℕ, [], ◌∷◌, refl, ap, ◌∙◌}
use Rattle.mdc_types.specs.declared.events.Event.{Event}
use Rattle.mdc_types.specs.declared.outcomes.Outcome.{Outcome}
use Rattle.cluster_model.specs.State.{State, Legs}
use Rattle.cluster_model.specs.Run.{Moves, Quiet, Written, Read, Failed, Left}
use Rattle.laws_history.specs.Laws.{RunsHavePlaces, LegsKeepTelling}

pub runs_cut : RunsHavePlaces
runs_cut start past [] end run = record { state = end; before = run; after = refl }
runs_cut start past (x ∷ later) end run =
    let place = runs_cut start past later run.0 run.1 in
    record { state = place.state; before = place.before; after = (run.0, place.after, run.2) }

told_move : (old : State) (e : Event) (o : Outcome) (new : Legs) → Moves old e o new → (l : ℕ)
    → new.told l ≡ old.legs.told l
told_move old e o new (Quiet none is legs) l = ap (λ (x : Legs). x.told l) legs
told_move old e o new (Written t v at value path done legs) l = ap (λ (x : Legs). x.told l) legs
told_move old e o new (Read t v at value path gives is legs) l = ap (λ (x : Legs). x.told l) legs
told_move old e o new (Failed t at is legs) l = ap (λ (x : Legs). x.told l) legs
told_move old e o new (Left t v at value path is legs) l = ap (λ (x : Legs). x.told l) legs

pub legs_tell : LegsKeepTelling
legs_tell start [] end run l = ap (λ (s : State). s.legs.told l) run
legs_tell start (x ∷ past) end run l =
    told_move run.0 x.event x.outcome end.legs run.2.moves l ∙ legs_tell start past run.0 run.1 l
