-- What holds of the part along each run.
use Rattle.std.proofs.Common.{◌≡◌, ℕ, ◌<◌, ◌≤◌, true, List, [], ◌∷◌, ◌++◌, refl, sym, ap, subst, ◌∙◌, arith}
use Rattle.std.specs.Prelude.{is_some}
use Rattle.std.proofs.lemmas.Bool.Decides.{nat_tests}
use Rattle.mdc_types.specs.declared.events.Event.{Event}
use Rattle.mdc_types.specs.declared.outcomes.Outcome.{Outcome}
use Rattle.mdc_types.specs.declared.outcomes.Outcome.TheVariants as outcomes
use Rattle.mdc_types.specs.declared.outcomes.Entry.{Entry}
use Rattle.md_superblock.specs.Arrays.{Array}
use Rattle.cluster_model.specs.State.{State, Core, Legs}
use Rattle.cluster_model.specs.After.{after}
use Rattle.cluster_model.specs.Opening.{Origin, array_of}
use Rattle.cluster_model.specs.Contents.{Opens}
use Rattle.cluster_model.specs.Run.{Run, Step, Moves, Quiet, Written, Read, Failed, Left}
use Rattle.laws_locks.specs.Rounded.{Rounded}
use Rattle.laws_locks.proofs.Runs.{run_is}
use Rattle.laws_sound.proofs.Change.{Changes, still, more}
use Rattle.laws_sound.proofs.LegSteps.{same_array}
use Rattle.laws_sound.proofs.AfterChange.{LosesNoLast, after_change}
use Rattle.laws_sound.proofs.Failing.{not_last}
use Rattle.laws_roles.specs.Laws.{Tells}
use Rattle.laws_roles.proofs.Parts.{Part, part_of, supers, ghost_after, ghost_at, ghost_in}
use Rattle.laws_roles.proofs.Ways as ways
use Rattle.laws_roles.proofs.Ways.{Way, Ways, writes, leaves}
use Rattle.laws_roles.proofs.Numbers.{Numbers}
use Rattle.laws_roles.proofs.Roles.{Roles}
use Rattle.laws_roles.proofs.Sizes.{SizesHold}
use Rattle.laws_roles.proofs.Additions.{Additions}
use Rattle.laws_roles.proofs.Sources.{Sources}
use Rattle.laws_roles.proofs.AdditionSteps.{additions_step}
use Rattle.laws_roles.proofs.SourceSteps.{sources_step}
use Rattle.laws_roles.proofs.NumberSteps.{numbers_step}
use Rattle.laws_roles.proofs.LateSteps.{roles_step}
use Rattle.laws_roles.proofs.SizeSteps.{sizes_step, never_shrinks}
use Rattle.laws_roles.proofs.Known.{Known, known}
use Rattle.laws_roles.proofs.Standing.{Bytes}
use Rattle.laws_roles.proofs.SuperRows.{move_way}
use Rattle.laws_roles.proofs.Opening.{opening_begins}
use Rattle.laws_roles.proofs.First.{first_numbers, first_roles, first_sizes, first_additions, first_sources}

-- The array stays, and whether legs tell.

all_same : (core new : Core) → Changes core new → new.array ≡ core.array
all_same core new still = refl
all_same core new (more {mid = mid} cs c) = same_array mid new c ∙ all_same core mid cs

no_last : (old : State) (e : Event) (o : Outcome) (new : Legs) → Moves old e o new → LosesNoLast old.core e o
no_last old e (outcomes.Lost l) new m = λ t is. not_last old e l new t m is
no_last old e o new m = tt

array_step : (old : State) (e : Event) (o : Outcome) (new : State) → Step old e o new → Known old.core → Known new.core → new.core.array ≡ old.core.array
array_step old e o new s k later =
    ap (λ (c : Core). c.array) s.core
    ∙ all_same old.core (after old.core e o)
    (after_change old.core e o k.rounded (subst Rounded s.core later.rounded).offering.offers k.range.legs k.range.flight (no_last old e o new.legs s.moves) s.accepted)

pub array_is : (o : Origin) (start end : State) (past : List Entry) → Opens o start → Run start past end → end.core.array ≡ array_of o
array_is o start end [] opens run = ap (λ (s : State). s.core.array) run ∙ ap (λ (c : Core). c.array) opens.core
array_is o start end (x ∷ past) opens run =
    array_step run.0 x.event x.outcome end run.2 (known o start run.0 past opens run.1) (known o start end (x ∷ past) opens run) ∙ array_is o start run.0 past opens run.1

told_move : (old : State) (e : Event) (o : Outcome) (new : Legs) → Moves old e o new → (l : ℕ) → new.told l ≡ old.legs.told l
told_move old e o new (Quiet nothing is legs) l = ap (λ (x : Legs). x.told l) legs
told_move old e o new (Written t v at value path done legs) l = ap (λ (x : Legs). x.told l) legs
told_move old e o new (Read t v at value path gives is legs) l = ap (λ (x : Legs). x.told l) legs
told_move old e o new (Failed t at is legs) l = ap (λ (x : Legs). x.told l) legs
told_move old e o new (Left t v at value path is legs) l = ap (λ (x : Legs). x.told l) legs

legs_tell : (start end : State) (past : List Entry) → Run start past end → (l : ℕ) → end.legs.told l ≡ start.legs.told l
legs_tell start end [] run l = ap (λ (s : State). s.legs.told l) run
legs_tell start end (x ∷ past) run l = told_move run.0 x.event x.outcome end.legs run.2.moves l ∙ legs_tell start run.0 past run.1 l

-- Steps.

pub record Holds (legs : ℕ) (w : Part) : Type 0 where
  pub numbers : Numbers w
  pub roles : Roles w
  pub sizes : SizesHold w
  pub additions : Additions w
  pub sources : Sources w
  pub each : (k : ℕ) → k < legs → is_some (w.super k) ≡ true

each_step : (w v : Part) → Way w v → (k : ℕ) → is_some (w.super k) ≡ true → is_some (v.super k) ≡ true
each_step w v (writes n l o i) k e = grind (arith, nat_tests)
each_step w v (leaves n l o i) k e = grind (arith, nat_tests)
each_step w v x k e = e

way_holds : (legs : ℕ) (w v : Part) → Way w v → Holds legs w → Holds legs v
way_holds legs w v x h = record {
  numbers = numbers_step w v x h.numbers;
  roles = roles_step w v x h.numbers h.roles;
  sizes = sizes_step w v x h.numbers h.sizes;
  additions = additions_step w v x h.numbers h.roles h.additions;
  sources = sources_step w v x h.numbers h.sources;
  each = λ k lt. each_step w v x k (h.each k lt);
}

ways_hold : (legs : ℕ) (w v : Part) → Ways w v → Holds legs w → Holds legs v
ways_hold legs w v ways.none h = h
ways_hold legs w v (ways.more {u = u} xs x) h = way_holds legs u v x (ways_hold legs w u xs h)

-- what was agreed on never shrinks
ways_grow : (legs : ℕ) (w v : Part) → Ways w v → Holds legs w → w.ghost.agreed.size ≤ v.ghost.agreed.size
ways_grow legs w v ways.none h = omega arith
ways_grow legs w v (ways.more {u = u} xs x) h =
    let first = ways_grow legs w u xs h in
    let last = never_shrinks u v x (ways_hold legs w u xs h).sizes in omega (arith, first, last)

-- Along runs, at the leg that is home at the opening.

module _ (o : Origin) (start : State) (opens : Opens o start) (tells : Tells o start) where
  abbrev pub home : ℕ
  home = (opening_begins o start opens tells).home

  abbrev pub At : List Entry → State → Part
  At past end = part_of end.core (supers (array_of o) end.legs) (ghost_in o home past)

  run_ways : (past : List Entry) (mid end : State) (x : Entry) → Run start past mid → Step mid x.event x.outcome end → Ways (At past mid) (At (x ∷ past) end)
  run_ways past mid end x run s =
      let k = known o start mid past opens run in
      let array = array_is o start mid past opens run in
      let bytes : Bytes mid.core.array = subst Bytes (sym array) (record { name = tells.name; uuid = tells.uuid }) in
      let told : (j : ℕ) → j < mid.core.array.sizes.legs → mid.legs.told j ≡ true
      = λ j lt. legs_tell start mid past run j ∙ tells.legs j (subst (λ (a : Array). j < a.sizes.legs) array lt) in
      let w = move_way mid k bytes (ghost_in o home past) x.event x.outcome end.legs s.accepted told s.moves in
      let leads = (run_is o start opens.core past mid run).leads in
      subst (λ c. Ways (At past mid) (part_of end.core (supers (array_of o) end.legs) (ghost_after c x.event (ghost_in o home past)))) leads
      (subst (λ c. Ways (At past mid) (part_of c (supers (array_of o) end.legs) (ghost_after mid.core x.event (ghost_in o home past)))) (sym s.core)
      (subst (λ a. Ways (part_of mid.core (supers a mid.legs) (ghost_in o home past)) (part_of (after mid.core x.event x.outcome) (supers a end.legs) (ghost_after mid.core x.event (ghost_in o home past)))) array w))

  first_holds : Holds o.sizes.legs (At [] start)
  first_holds =
      let b = opening_begins o start opens tells in
      let sup = supers (array_of o) start.legs in
      subst (λ c. Holds o.sizes.legs (part_of c sup (ghost_at o home))) (sym opens.core)
      (record {
        numbers = first_numbers o opens.origin sup b;
        roles = first_roles o opens.origin sup b;
        sizes = first_sizes o opens.origin sup b;
        additions = first_additions o opens.origin sup b;
        sources = first_sources o opens.origin sup b;
        each = λ k lt. ap is_some (b.found k lt);
      })

  pub holds : (past : List Entry) (end : State) → Run start past end → Holds o.sizes.legs (At past end)
  holds [] end run = subst (λ s. Holds o.sizes.legs (At [] s)) (sym run) first_holds
  holds (x ∷ past) end run = ways_hold o.sizes.legs (At past run.0) (At (x ∷ past) end) (run_ways past run.0 end x run.1 run.2) (holds past run.0 run.1)

  pub grows : (later before : List Entry) (end : State) → Run start (later ++ before) end → (ghost_in o home before).agreed.size ≤ (ghost_in o home (later ++ before)).agreed.size
  grows [] before end run = omega arith
  grows (x ∷ later) before end run =
      let first = grows later before run.0 run.1 in
      let last = ways_grow o.sizes.legs (At (later ++ before) run.0) (At (x ∷ later ++ before) end) (run_ways (later ++ before) run.0 end x run.1 run.2) (holds (later ++ before) run.0 run.1) in
      omega (arith, first, last)
