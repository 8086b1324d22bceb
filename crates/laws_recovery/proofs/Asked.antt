-- The asked reads of the plain history are those in flight, along each run.
use Rattle.std.proofs.Common.{◌≡◌, ℕ, ◌+◌, ◌==◌, ◌&&◌, ◌≤◌, Bool, true, false, if◌then◌else◌, List, [], ◌∷◌, ◌++◌, Option, Some, None, refl, sym, ap, subst, ◌∙◌, arith}
use Rattle.std.specs.Prelude.{is_some}
use Rattle.std.proofs.Math.Path.{fun_ext}
use Rattle.std.proofs.lemmas.Bool.Decides.{nat_tests}
use Rattle.dlm_modes.specs.First.{first_such}
use Rattle.dlm_modes.specs.Points.{with_at}
use Rattle.dlm_modes.proofs.FirstLaws.{first_such_some}
use Rattle.read_balance.specs.Choice.{least_leg, nearest_leg}
use Rattle.read_balance.proofs.Choices.{chosen_works, some_chosen}
use Rattle.mdc_types.specs.declared.refusals.Refusal.TheVariants.{NoRead}
use Rattle.mdc_types.specs.declared.roles.NodeState.{NodeState}
use Rattle.laws_sound.proofs.Guarded.{all_none, unless_none, found_none}
use Rattle.mdc_types.specs.declared.events.Event.{Event}
use Rattle.mdc_types.specs.declared.events.Event.TheVariants as events
use Rattle.mdc_types.specs.declared.numbers.Sector.{Sector}
use Rattle.mdc_types.specs.declared.outcomes.Outcome.{Outcome}
use Rattle.mdc_types.specs.declared.outcomes.Outcome.TheVariants as outcomes
use Rattle.mdc_types.specs.declared.outcomes.Entry.{Entry}
use Rattle.leg_failure.specs.Views.{is_last, works}
use Rattle.mirror_io.specs.declared.live.LiveRead.{LiveRead}
use Rattle.mirror_io.specs.Flight.{read_in, without_read, new_read, ReadsRise}
use Rattle.mirror_io.proofs.Lookups.{read_in-push, read_in-without}
use Rattle.plain_history.specs.History.{asked_step, asked_reads}
use Rattle.cluster_model.specs.State.{State, Core, Legs, place_of}
use Rattle.cluster_model.specs.After.{after}
use Rattle.cluster_model.specs.Contents.{Opens}
use Rattle.cluster_model.specs.Failures.{lost_or_io}
use Rattle.cluster_model.specs.Opening.{Origin}
use Rattle.cluster_model.specs.Outcomes.{outcome_of}
use Rattle.cluster_model.specs.Changes.{headed}
use Rattle.cluster_model.specs.Phases.{is_in, is_up}
use Rattle.cluster_model.specs.Reads.{given_leg, in_guards, end_read, read_sector, reads_first}
use Rattle.cluster_model.specs.Run.{Run, Moves, Quiet, Written, Read, Failed, Left}
use Rattle.cluster_model.specs.Transfers.{Transfer, transfer_of, in_transfer, reads_at, reads_from}
use Rattle.cluster_model.specs.Table.{refusal}
use Rattle.laws_roles.proofs.Known.{Known, known}
use Rattle.laws_recovery.proofs.KeptReads.{changes_reads, reads_kept, loss_kept}

-- the sector of a read in flight
abbrev pub reading : (ℕ → List LiveRead) → ℕ → ℕ → Option ℕ
reading reads n k = read_sector (read_in k (reads n))

same_point : (a b : ℕ) → (a == b) ≡ true → a ≡ b
same_point a b e = grind (arith, nat_tests)

reading_at : (reads : ℕ → List LiveRead) (n k m j : ℕ) (new : List LiveRead) (x : Option ℕ)
    → read_sector (read_in j new) ≡ (if j == k then x else read_sector (read_in j (reads n)))
    → reading (with_at reads n new) m j ≡ (if m == n && j == k then x else reading reads m j)
reading_at reads n k m j new x is = by (m == n) refl
  where
    by : (b : Bool) → (m == n) ≡ b → read_sector (read_in j (if b then new else reads m)) ≡ (if b && j == k then x else reading reads m j)
    by true e = is ∙ ap (λ z. if j == k then x else read_sector (read_in j (reads z))) (sym (same_point m n e))
    by false e = refl

sector_if : (b : Bool) (x y : Option LiveRead) → read_sector (if b then x else y) ≡ (if b then read_sector x else read_sector y)
sector_if true x y = refl
sector_if false x y = refl

ask_reads : (reads : ℕ → List LiveRead) (n k s l m j : ℕ) → read_in k (reads n) ≡ None
    → reading (with_at reads n (reads n ++ new_read k s l ∷ [])) m j ≡ (if m == n && j == k then Some s else reading reads m j)
ask_reads reads n k s l m j none =
    reading_at reads n k m j (reads n ++ new_read k s l ∷ []) (Some s)
    (ap read_sector (read_in-push j (reads n) (new_read k s l) none) ∙ sector_if (j == k) (Some (new_read k s l)) (read_in j (reads n)))

gone_reads : (reads : ℕ → List LiveRead) (n k m j : ℕ)
    → reading (with_at reads n (without_read k (reads n))) m j ≡ (if m == n && j == k then None else reading reads m j)
gone_reads reads n k m j =
    reading_at reads n k m j (without_read k (reads n)) None
    (ap read_sector (read_in-without j k (reads n)) ∙ sector_if (j == k) None (read_in j (reads n)))

dead_reads : (reads : ℕ → List LiveRead) (n m j : ℕ) → (if m == n then None else reading reads m j) ≡ reading (with_at reads n []) m j
dead_reads reads n m j = by (m == n)
  where
    by : (b : Bool) → (if b then None else reading reads m j) ≡ read_sector (read_in j (if b then [] else reads m))
    by true = refl
    by false = refl

-- a number that was not given yet is no read's
no_read : (lo hi k : ℕ) (rs : List LiveRead) → ReadsRise lo hi rs → hi ≤ k → read_in k rs ≡ None
no_read lo hi k [] rise le = refl
no_read lo hi k (r ∷ rs) rise le = grind (arith, nat_tests, no_read (r.number + 1) hi k rs rise.2 le, rise.0, rise.1)

-- By step.

others_step : (e : Event) (o : Outcome) (f : ℕ → ℕ → Option ℕ) (m j : ℕ) → changes_reads e ≡ false → asked_step e o f m j ≡ f m j
others_step (events.Die n) o f m j other = cc
others_step (events.AskRead n s) o f m j other = cc
others_step (events.In n k) o f m j other = cc
others_step e o f m j other = refl

abbrev Stays : Core → Event → Outcome → ℕ → ℕ → Type 0
Stays core e o m j = asked_step e o (reading core.reads) m j ≡ reading (after core e o).reads m j

others_stay : (core : Core) (e : Event) (o : Outcome) (m j : ℕ) → changes_reads e ≡ false → Stays core e o m j
others_stay core e o m j other = others_step e o (reading core.reads) m j other ∙ ap (λ rs. reading rs m j) (sym (reads_kept core e o other))

is_quiet : (old : State) (e : Event) (o : Outcome) (new : Legs) → Moves old e o new → transfer_of old.core e ≡ None → o ≡ outcome_of old.core e
is_quiet old e o new (Quiet nothing is legs) none = is
is_quiet old e o new (Written t v at value path done legs) none = cc
is_quiet old e o new (Read t v at value path gives is legs) none = cc
is_quiet old e o new (Failed t at is legs) none = cc
is_quiet old e o new (Left t v at value path is legs) none = cc

failed_stays : (core : Core) (n k : ℕ) (t : Transfer) (m j : ℕ) → Stays core (events.In n k) (lost_or_io core t) m j
failed_stays core n k t m j = by (is_last (core.view t.node) t.leg)
  where
    by : (b : Bool) → Stays core (events.In n k) (if b then outcomes.Io t.leg else outcomes.Lost t.leg) m j
    by true = sym (gone_reads core.reads n k m j)
    by false = sym (ap (λ rs. reading rs m j) (loss_kept core (transfer_of core (events.In n k))))

headed_reads : (core : Core) (n l : ℕ) (s : Option ℕ) → (headed core n l s).reads ≡ core.reads
headed_reads core n l None = refl
headed_reads core n l (Some s) = refl

value_stays : (core : Core) (n k l : ℕ) (v : Sector) (m j : ℕ) → Stays core (events.In n k) (outcomes.Value l v) m j
value_stays core n k l v m j = sym (ap (λ rs. reading rs m j) (headed_reads (end_read core n k) n l (read_sector (read_in k (core.reads n)))) ∙ gone_reads core.reads n k m j)

-- An accepted read is in flight, and reads from a leg that works.

pub record Reads (core : Core) (n k : ℕ) : Type 0 where
  pub up : is_up (core.state n) ≡ true
  pub read : LiveRead
  pub found : read_in k (core.reads n) ≡ Some read
  pub leg : ℕ
  pub works : works (core.view n) leg ≡ true
  pub transfer : transfer_of core (events.In n k) ≡ Some (reads_from n leg (place_of core read.sector))

found_one : (x : Option LiveRead) → is_some x ≡ true → (r : LiveRead) × (x ≡ Some r)
found_one None e = cc
found_one (Some r) e = (r, refl)

leg_by : (p : ℕ → Bool) (x : Option ℕ) → is_some x ≡ true → ((l : ℕ) → x ≡ Some l → p l ≡ true) → (l : ℕ) × (x ≡ Some l) × (p l ≡ true)
leg_by p None e all = cc
leg_by p (Some l) e all = (l, refl, all l refl)

near_by : (p : ℕ → Bool) (head : ℕ → ℕ) (s : ℕ) (x : Option ℕ) → first_such p 0 8 ≡ x → is_some x ≡ true → (l : ℕ) × (nearest_leg p head s ≡ Some l) × (p l ≡ true)
near_by p head s None e some = cc
near_by p head s (Some k) e some =
    let f = first_such_some p 0 8 k e in
    leg_by p (nearest_leg p head s) (some_chosen p head s false k (omega (arith, f.below)) f.passes) (λ l is. chosen_works p head s false l is)

leg_found : (p : ℕ → Bool) (head : ℕ → ℕ) (s j : ℕ) (first d : Bool) → p j ≡ d → is_some (first_such p 0 8) ≡ true
    → (l : ℕ) × ((if first then least_leg p else if d then Some j else nearest_leg p head s) ≡ Some l) × (p l ≡ true)
leg_found p head s j true d is some = leg_by p (least_leg p) some (λ l e. chosen_works p head s true l e)
leg_found p head s j false true is some = (j, refl, is)
leg_found p head s j false false is some = near_by p head s (first_such p 0 8) refl some

up_in : (s : NodeState) → is_up s ≡ true → is_in s ≡ true
up_in s e = grind arith

pub in_reads : (core : Core) → Known core → (n k : ℕ) → refusal core (events.In n k) ≡ None → Reads core n k
in_reads core known n k ok =
    let guards = all_none (in_guards core n k) ok in
    let up = unless_none (is_up (core.state n)) _ guards.1.1.1.0 in
    let read = found_one (read_in k (core.reads n)) (found_none _ (NoRead k) guards.1.1.1.1.0) in
    let leg = leg_found (works (core.view n)) (core.head n) read.0.sector read.0.chosen (reads_first core n read.0.sector) (works (core.view n) read.0.chosen) refl (known.leg.leg n (up_in (core.state n) up)) in
    record {
      up = up;
      read = read.0;
      found = read.1;
      leg = leg.0;
      works = leg.2;
      transfer = ap (in_transfer core n) read.1 ∙ ap (reads_at n (place_of core read.0.sector)) leg.1;
    }

read_stays : (old : State) (n k : ℕ) (o : Outcome) (new : Legs) → Known old.core → refusal old.core (events.In n k) ≡ None → Moves old (events.In n k) o new → (m j : ℕ) → Stays old.core (events.In n k) o m j
read_stays old n k o new known ok (Quiet nothing is legs) m j = let r = in_reads old.core known n k ok in let t = r.transfer in cc
read_stays old n k o new known ok (Written t v at value path is legs) m j = let r = in_reads old.core known n k ok in absurd (no_value t v (reads_from n r.leg (place_of old.core r.read.sector)) (sym r.transfer ∙ at) refl value)
  where
    no_value : (t : Transfer) (v : Sector) (s : Transfer) → Some s ≡ Some t → s.value ≡ None → t.value ≡ Some v → ⊥
    no_value t v s e none is = let same : s ≡ t = cc in let value = ap (λ (x : Transfer). x.value) same in cc
read_stays old n k o new known ok (Read t v at value path gives is legs) m j = subst (λ y. Stays old.core (events.In n k) y m j) (sym is) (value_stays old.core n k t.leg v m j)
read_stays old n k o new known ok (Failed t at is legs) m j = subst (λ y. Stays old.core (events.In n k) y m j) (sym is) (failed_stays old.core n k t m j)
read_stays old n k o new known ok (Left t v at value path is legs) m j = subst (λ y. Stays old.core (events.In n k) y m j) (sym is) (failed_stays old.core n k t m j)

stays : (old : State) (e : Event) (o : Outcome) (new : Legs) → Known old.core → refusal old.core e ≡ None → Moves old e o new → (m j : ℕ) → Stays old.core e o m j
stays old (events.Die n) o new known ok mv m j =
    subst (λ y. Stays old.core (events.Die n) y m j) (sym (is_quiet old (events.Die n) o new mv refl)) (dead_reads old.core.reads n m j)
stays old (events.AskRead n s) o new known ok mv m j =
    subst (λ y. Stays old.core (events.AskRead n s) y m j) (sym (is_quiet old (events.AskRead n s) o new mv refl))
    (sym (ask_reads old.core.reads n (old.core.reads_made n) s (given_leg old.core n s) m j
    (no_read 0 (old.core.reads_made n) (old.core.reads_made n) (old.core.reads n) (known.range.flight.requests n).order.reads_rise (omega arith))))
stays old (events.In n k) o new known ok mv m j = read_stays old n k o new known ok mv m j
stays old e o new known ok mv m j = others_stay old.core e o m j refl

-- the asked reads of the history are those in flight
pub asked_are : (o : Origin) (start end : State) (past : List Entry) → Opens o start → Run start past end → asked_reads past ≡ reading end.core.reads
asked_are o start end [] opens run = fun_ext (λ n. fun_ext (λ k. ap (λ (c : Core). reading c.reads n k) (sym (ap (λ (s : State). s.core) run ∙ opens.core))))
asked_are o start end (x ∷ past) opens run =
    let before = asked_are o start run.0 past opens run.1 in
    fun_ext (λ n. fun_ext (λ k.
    ap (λ f. asked_step x.event x.outcome f n k) before
    ∙ stays run.0 x.event x.outcome end.legs (known o start run.0 past opens run.1) run.2.accepted run.2.moves n k
    ∙ ap (λ (c : Core). reading c.reads n k) (sym run.2.core)))
