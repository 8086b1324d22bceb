-- Each write of a run is of a sector of the room, as the plain history's check takes it.
use Rattle.std.proofs.Common.{◌≡◌, ◌<◌, ◌≤◌, ℕ, true, List, [], ◌∷◌, None, refl, subst, sym, ap, ◌∙◌, arith}
use Rattle.std.specs.Prelude.{reverse, nat_lt, ◌↔◌, ◌+◌, length}
use Rattle.std.specs.List.{All}
use Rattle.std.proofs.lemmas.Bool.Decides.{nat_tests}
use Rattle.std.proofs.lemmas.List.{reverse-append, reverse-reverse, length-reverse}
use Rattle.std.proofs.lemmas.List.Elements.{All-nil, All-cons, All-append}
use Rattle.mdc_types.specs.declared.events.Event.{Event}
use Rattle.mdc_types.specs.declared.events.Event.TheVariants as events
use Rattle.mdc_types.specs.declared.outcomes.Outcome.{Outcome}
use Rattle.mdc_types.specs.declared.outcomes.Outcome.TheVariants as outcomes
use Rattle.mdc_types.specs.declared.refusals.Refusal.TheVariants.{NoSector}
use Rattle.mdc_types.specs.declared.numbers.Sector.{Sector}
use Rattle.mdc_types.specs.declared.outcomes.Entry.{Entry}
use Rattle.plain_history.specs.Tables.{IsWithin}
use Rattle.plain_history.specs.History.{Legal, values_at}
use Rattle.plain_history.specs.Runs.{IsFirstBad}
use Rattle.plain_history.specs.declared.checks.Checked.{Checked}
use Rattle.plain_history.specs.declared.checks.Checked.TheVariants as checks
use Rattle.cluster_core.specs.Stands.{Stand, state_at}
use Rattle.report_text.specs.Queries.{bad_line}
use Rattle.script_play.specs.QueryAnswers.{Checks}
use Rattle.script_play.specs.QueryAnswers.Judges.{first_bad}
use Rattle.cluster_model.specs.State.{Core, State, Legs, sizes}
use Rattle.cluster_model.specs.Writes.{w_guards}
use Rattle.cluster_model.specs.Table.{refusal}
use Rattle.cluster_model.specs.After.{after}
use Rattle.cluster_model.specs.Run.{Run, Step, Moves}
use Rattle.cluster_model.specs.Opening.{Origin}
use Rattle.cluster_model.specs.Contents.{Opens}
use Rattle.laws_locks.specs.Rounded.{Rounded}
use Rattle.laws_sound.specs.Laws.{InRange}
use Rattle.laws_sound.proofs.AfterChange.{LosesNoLast, after_change}
use Rattle.laws_sound.proofs.Change.{Changes, still, more}
use Rattle.laws_sound.proofs.Failing.{not_last}
use Rattle.laws_sound.proofs.Guarded.{all_none, unless_none}
use Rattle.laws_sound.proofs.LegSteps.{same_array}
use Rattle.laws_sound.proofs.Runs.{runs_are_in_range, rounded}
use Rattle.laws_promises.proofs.Promises.{promised}

below : (a b : ℕ) → nat_lt a b ≡ true → a < b
below a b is = grind (arith, nat_tests)

-- an accepted write is within the sectors that the node is sure of
within : (core : Core) (n s : ℕ) (v : Sector) → refusal core (events.AskWrite n s v) ≡ None
    → s < (core.view n).sure_size
within core n s v ok =
    let sector = (all_none (w_guards core n s) ok).1.1.1.1.1.0 in
    below _ _ (unless_none _ (NoSector s) sector)

changes_array : (core new : Core) → Changes core new → new.array ≡ core.array
changes_array core new still = refl
changes_array core new (more {mid = mid} cs c) = same_array mid new c ∙ changes_array core mid cs

no_last : (old : State) (e : Event) (o : Outcome) (new : Legs) → Moves old e o new
    → LosesNoLast old.core e o
no_last old e (outcomes.Lost l) new m = λ t is. not_last old e l new t m is
no_last old e o new m = tt

-- no event changes the array
step_array : (old : State) (e : Event) (o : Outcome) (new : State) → Step old e o new
    → Rounded old.core → Rounded new.core → InRange old.core → new.core.array ≡ old.core.array
step_array old e o new s before later i =
    ap (λ (c : Core). c.array) s.core
    ∙ changes_array old.core (after old.core e o)
    (after_change old.core e o before (subst Rounded s.core later).offering.offers i.legs i.flight (no_last old e o new.legs s.moves) s.accepted)

module _ (o : Origin) (start : State) (opens : Opens o start) where
  run_sizes : (past : List Entry) (end : State) → Run start past end → sizes end.core ≡ o.sizes
  run_sizes [] end run = ap (λ (s : State). sizes s.core) run ∙ ap sizes opens.core
  run_sizes (x ∷ past) end run =
      ap (λ a. a.sizes)
      (step_array run.0 x.event x.outcome end run.2 (rounded o start run.0 past opens run.1)
      (rounded o start end (x ∷ past) opens run) (runs_are_in_range o start run.0 past opens run.1))
      ∙ run_sizes past run.0 run.1

  entry_within : (core : Core) (e : Event) → refusal core e ≡ None → InRange core
      → sizes core ≡ o.sizes → IsWithin o.sizes.room e
  entry_within core (events.AskWrite n s v) ok i is =
      let lt = within core n s v ok in
      let le = (i.legs.views n).sure_size in
      let room : (sizes core).room ≡ o.sizes.room = ap (λ g. g.room) is in
      omega (arith, lt, le, room)
  entry_within core e ok i is = tt

  abbrev Within : Entry → Type 0
  Within x = IsWithin o.sizes.room x.event

  pub runs_within : (past : List Entry) (end : State) → Run start past end
      → All Within (reverse past)
  runs_within [] end run = All-nil Within
  runs_within (x ∷ past) end run =
      let here = entry_within run.0.core x.event run.2.accepted (runs_are_in_range o start run.0 past opens run.1) (run_sizes past run.0 run.1) in
      subst (All Within) (sym (reverse-append (x ∷ []) past))
      (All-append Within (reverse past) (x ∷ []) (runs_within past run.0 run.1) (All-cons Within x [] here (All-nil Within)))

-- What the check of a trace answers where an entry isn't legal: no run from a sound opening has one.
pub checks_bad : (o : Origin) (at : Stand) (lists : List (List Sector)) (trace : List Entry)
    (place : ℕ) (answer : Checked) (text : List ℕ) → lists ≡ o.base → at.past ≡ reverse trace
    → IsFirstBad (values_at lists) trace place → text ≡ bad_line (place + 1)
    → ((answer ≡ checks.Legal) ↔ Legal (values_at lists) (reverse trace))
    → answer ≡ checks.FirstBad place → Checks o at text
checks_bad o at lists trace place answer text is are bad says iff found = record {
  judges = first_bad place (rw (← is, are, reverse-reverse trace) bad) says;
  sound = λ c. absurd (none (iff.1 (rw (is, ← are) (promised o c.start c.sound c.tells (state_at at) at.past c.run).legal)));
}
  where
    none : answer ≡ checks.Legal → ⊥
    none also = cc

pub few_places : (past trace : List Entry) (place : ℕ) → length past ≤ 65536
    → past ≡ reverse trace → place < length trace → place < 65536
few_places past trace place few is lt = omega (arith, few, lt, ap length is, length-reverse trace)
