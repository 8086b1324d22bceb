-- Turns one after another, and bounds of what is counted.
use Rattle.std.proofs.Common.{◌≡◌, ℕ, zero, suc, ◌+◌, ◌-◌, ◌^◌, ◌<◌, ◌≤◌, Option, Some, None, refl, sym, ap, subst, ◌∙◌, arith}
use Rattle.mdc_types.specs.declared.events.Event.{Event}
use Rattle.mdc_types.specs.declared.outcomes.Outcome.{Outcome}
use Rattle.driver_rules.specs.Helpers.{next_help}
use Rattle.driver_rules.specs.Storms.{named, turn, cut_after}
use Rattle.world_state.specs.Kept.{core_of}
use Rattle.cluster_core.specs.Stands.{Stand, Makes, FindsFull}
use Rattle.storm_turns.specs.Choosing.{name_of}
use Rattle.auto_driver.specs.Helping.{Helps, Helped}
use Rattle.storm_turns.specs.declared.turning.TurnKind.{TurnKind}
use Rattle.auto_driver.specs.declared.counting.Counted.{Counted}
use Rattle.auto_driver.specs.declared.counting.Counted.TheVariants as counts
use Rattle.auto_driver.specs.declared.counting.Summary.{Summary}
use Rattle.auto_driver.specs.Storming.{with_event, with_refused, AllBelow, none_of, Tries, Refused, Made, Happens, Storm, does, Turns, Storms, StormedBelow, StormedTillFull}

pub none_below : (turns : ℕ) → AllBelow 1 (none_of turns)
none_below turns = record {
  events = omega arith;
  refused = omega arith;
  writes = omega arith;
  ended = omega arith;
  reads = omega arith;
  deaths = omega arith;
  recovered = omega arith;
}

more_below : (m : ℕ) (s : Summary) → AllBelow m s → AllBelow (m + 1) s
more_below m s b = grind (arith, b)

with_event_below : (m : ℕ) (s : Summary) (c : Counted) → AllBelow m s → AllBelow (m + 1) (with_event s c)
with_event_below m s counts.Write b = grind (arith, b)
with_event_below m s counts.Ended b = grind (arith, b)
with_event_below m s counts.Read b = grind (arith, b)
with_event_below m s counts.Death b = grind (arith, b)
with_event_below m s counts.Recovered b = grind (arith, b)
with_event_below m s counts.Other b = grind (arith, b)

with_refused_below : (m : ℕ) (s : Summary) → AllBelow m s → AllBelow (m + 1) (with_refused s)
with_refused_below m s b = grind (arith, b)

happens_below : (m : ℕ) (e : Option Event) (old new : Stand) (before now : Summary) → Happens e old before new now → AllBelow m before → AllBelow (m + 1) now
happens_below m None old new before now h b = subst (AllBelow (m + 1)) (sym h.1) (more_below m before b)
happens_below m (Some e) old new before now (Refused why is same counted) b = subst (AllBelow (m + 1)) (sym counted) (with_refused_below m before b)
happens_below m (Some e) old new before now (Made o makes counted) b = subst (AllBelow (m + 1)) (sym counted) (with_event_below m before _ b)

-- so many turns count no more than there are
pub storms_below : (turns seed made : ℕ) (start : Stand) (storm : Storm) → Storms turns seed made start storm → AllBelow (made + 1) storm.counts
storms_below turns seed zero start storm is = subst (λ s. AllBelow 1 s.counts) (sym is) (none_below turns)
storms_below turns seed (suc made) start storm is =
    let mid = is.0 in
    let before = storms_below turns seed made start mid is.1 in
    let e : suc made + 1 ≡ made + 1 + 1 = omega arith in
    subst (λ m. AllBelow m storm.counts) (sym e) (happens_below (made + 1) _ mid.at storm.at mid.counts storm.counts is.2.happens before)

pub below-more : (m k : ℕ) (s : Summary) → AllBelow m s → m ≤ k → AllBelow k s
below-more m k s b le = grind (arith, b)

-- One turn more.
pub turn_more : (turns seed i : ℕ) (start : Stand) (old new : Storm) (name : TurnKind) (event : Option Event) (x : ℕ)
    → Storms turns seed i start old → name_of name ≡ named turns i
    → event ≡ (turn (core_of old.at.kept) i old.seed old.cut (name_of name)).event
    → x ≡ (turn (core_of old.at.kept) i old.seed old.cut (name_of name)).seed
    → Happens event old.at old.counts new.at new.counts → new.seed ≡ x
    → new.cut ≡ cut_after (core_of old.at.kept) old.cut (name_of name)
    → Storms turns seed (i + 1) start new
turn_more turns seed i start old new name event x before is event_is seed_is happens seed_now cut_now =
    let e : suc i ≡ i + 1 = omega arith in
    let does_event : event ≡ (does turns i old).event = event_is ∙ ap (λ m. (turn (core_of old.at.kept) i old.seed old.cut m).event) is in
    let does_seed : new.seed ≡ (does turns i old).seed = seed_now ∙ seed_is ∙ ap (λ m. (turn (core_of old.at.kept) i old.seed old.cut m).seed) is in
    let does_cut : new.cut ≡ cut_after (core_of old.at.kept) old.cut (named turns i) = cut_now ∙ ap (cut_after (core_of old.at.kept) old.cut) is in
    subst (λ k. Storms turns seed k start new) e (
      old,
      before,
      record {
        happens = subst (λ o. Happens o old.at old.counts new.at new.counts) does_event happens;
        seed = does_seed;
        cut = does_cut;
      },
    )

-- the event of the next turn finds the trace full
pub turn_full : (turns seed i : ℕ) (start end : Stand) (old : Storm) (name : TurnKind) (e : Event)
    → i < turns → Storms turns seed i start old → name_of name ≡ named turns i
    → Some e ≡ (turn (core_of old.at.kept) i old.seed old.cut (name_of name)).event
    → old.at ≡ end → FindsFull end e
    → StormedTillFull turns seed start end
turn_full turns seed i start end old name e lt before is event_is at full = record {
  below = record { made = i; few = lt; storm = old; storms = before; ends = at };
  event = e;
  next = sym (event_is ∙ ap (λ m. (turn (core_of old.at.kept) i old.seed old.cut m).event) is);
  full = full;
}

-- One event that helps more.
pub helped_more : (made : ℕ) (start mid end : Stand) (e : Event) (o : Outcome) → Helped made start mid
    → next_help (core_of mid.kept) ≡ Some e → Makes mid e o end → Helped (made + 1) start end
helped_more made start mid end e o helped is makes =
    let one : suc made ≡ made + 1 = omega arith in
    subst (λ k. Helped k start end) one (mid, helped, record { event = e; helps = is; outcome = o; makes = makes })
