-- What a world keeps.
use Rattle.std.proofs.Common.{◌≡◌, ◌<◌, ◌∷◌, [], length, ℕ, List, sym, ◌∙◌, ap, subst, arith, refl}
use Rattle.mdc_types.specs.declared.outcomes.Outcome.{Outcome}
use Rattle.mdc_types.specs.declared.outcomes.Outcome.TheVariants as outcomes
use Rattle.mdc_types.specs.declared.outcomes.Entry.{Entry}
use Rattle.mdc_types.specs.declared.events.Event.{Event}
use Rattle.cluster_model.specs.State.{State, Core, Legs, sizes}
use Rattle.cluster_model.specs.After.{after}
use Rattle.cluster_model.specs.Opening.{Origin, array_of}
use Rattle.cluster_model.specs.Contents.{Opens}
use Rattle.cluster_model.specs.Run.{Run, Step, Moves, entry}
use Rattle.laws_locks.specs.Rounded.{Rounded}
use Rattle.laws_sound.proofs.Change.{Changes, still, more}
use Rattle.laws_sound.proofs.LegSteps.{same_array}
use Rattle.laws_sound.proofs.AfterChange.{LosesNoLast, after_change}
use Rattle.laws_sound.proofs.Failing.{not_last}
use Rattle.laws_sound.proofs.Runs.{rounded, runs_are_in_range}
use Rattle.world_state.specs.Kept.{Kept, core_of}
use Rattle.world_state.specs.Told.{Fits, LegsSeen, Carries, state_with}
use Rattle.cluster_core.specs.World.{Seen, Reachable, state, trace_limit}

-- The array stays.

all_same : (core new : Core) → Changes core new → new.array ≡ core.array
all_same core new still = refl
all_same core new (more {mid = mid} cs c) = same_array mid new c ∙ all_same core mid cs

no_last : (old : State) (e : Event) (o : Outcome) (new : Legs) → Moves old e o new → LosesNoLast old.core e o
no_last old e (outcomes.Lost l) new m = λ t is. not_last old e l new t m is
no_last old e o new m = tt

array_is : (o : Origin) (start end : State) (past : List Entry) → Opens o start → Run start past end → end.core.array ≡ array_of o
array_is o start end [] opens run = ap (λ (s : State). s.core.array) run ∙ ap (λ (c : Core). c.array) opens.core
array_is o start end (x ∷ past) opens run =
    let old = run.0 in
    let s = run.2 in
    let range = runs_are_in_range o start old past opens run.1 in
    ap (λ (c : Core). c.array) s.core
    ∙ all_same old.core (after old.core x.event x.outcome)
    (after_change old.core x.event x.outcome (rounded o start old past opens run.1) (subst Rounded s.core (rounded o start end (x ∷ past) opens run)).offering.offers
    range.legs range.flight (no_last old x.event x.outcome end.legs s.moves) s.accepted)
    ∙ array_is o start old past opens run.1

-- the legs fit the sizes in memory, which are the opening's
pub same_sizes : (seen : Seen) → Reachable seen → Fits (sizes (core_of seen.kept)) seen.legs.sizes
same_sizes seen r =
    subst (λ a. Fits a.sizes seen.legs.sizes) (sym (array_is seen.origin r.start (state seen) seen.past r.opens r.run)) r.fits

-- one step more
pub one_more : (old new : Seen) (e : Event) (o : Outcome) → Reachable old → new.origin ≡ old.origin → new.past ≡ entry e o ∷ old.past → length old.past < trace_limit
    → Carries e o old.kept old.legs new.kept new.legs → Reachable new
one_more old new e o r origin past room c = record {
  start = r.start;
  opens = rw origin r.opens;
  fits = rw (origin, c.sizes) r.fits;
  run = rw past (state old, r.run, c.step);
  few = rw past (omega (arith, room));
}
