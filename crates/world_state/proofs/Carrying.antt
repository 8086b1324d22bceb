-- What a call on a leg and what became of the core make of an event with a transfer.
use Rattle.std.proofs.Common.{◌≡◌, ◌⊎◌, inl, inr, ℕ, Bool, true, false, Option, Some, None, List, refl, arith, sym, ◌∙◌, ap, subst, get_or, not}
use Rattle.std.specs.Prelude.{is_none, is_ok, Result, Ok, Err, IfOk, if◌then◌else◌, slice_set}
use Rattle.std.specs.Option.{option_map}
use Rattle.mdc_types.specs.declared.numbers.Sector.{Sector}
use Rattle.mdc_types.specs.declared.failed.Failed.{Failed}
use Rattle.mdc_types.specs.declared.events.Event.{Event}
use Rattle.mdc_types.specs.declared.outcomes.Outcome.{Outcome}
use Rattle.mdc_types.specs.declared.outcomes.Outcome.TheVariants.{Done}
use Rattle.leg_store.specs.Plans.{Plan, planned_failure, one_later}
use Rattle.leg_store.specs.declared.memory.Left.{Left}
use Rattle.leg_store.specs.declared.memory.Left.TheVariants.{Old, New}
use Rattle.cluster_model.specs.State.{State, Core, Legs}
use Rattle.cluster_model.specs.Run.{Step, Moves, Quiet, Written, Read, Failed as NotMoved, Left as OneLeft, Gives, put}
use Rattle.cluster_model.specs.Table.{refusal}
use Rattle.cluster_model.specs.After.{after}
use Rattle.cluster_model.specs.Transfers.{Transfer, transfer_of, is_open_path}
use Rattle.cluster_model.specs.Failures.{failure}
use Rattle.cluster_model.specs.Outcomes.{outcome_of, outcome_read}
use Rattle.world_state.specs.Kept.{Kept, core_of}
use Rattle.world_state.specs.Told.{LegsSeen, told_by, state_with, plan_at, plans_after, has_failed, Caused, CauseOf, MayFail, GoesByPlan, GoesAsTold, GoesSo, Succeeds, Leaves, Carries, Sent, Received}

cut_or_not : (b : Bool) → (b ≡ true) ⊎ (b ≡ false)
cut_or_not true = inl refl
cut_or_not false = inr refl

-- causes

no_cause : (core : Core) (e : Event) (o : Outcome) (before now : List ℕ) → has_failed o ≡ false → Caused core e o before now
no_cause core e o before now fine failed = grind (arith, fine, failed)

caused : (core : Core) (e : Event) (o : Outcome) (t : Transfer) (before now : List ℕ) → transfer_of core e ≡ Some t
    → MayFail (core.cut t.node t.leg) t.leg before now → Caused core e o before now
caused core e o t before now is may failed = rw is may

-- plans

counted : (core : Core) (e : Event) (t : Transfer) (plans now : List (Option Plan)) → transfer_of core e ≡ Some t
    → now ≡ (if core.cut t.node t.leg then plans else slice_set plans t.leg (option_map one_later (get_or plans t.leg None)))
    → now ≡ plans_after core (transfer_of core e) plans
counted core e t plans now is same = rw is same

goes : (old : State) (e : Event) (t : Transfer) (plans : List (Option Plan)) (o : Outcome) (new : Legs) → transfer_of old.core e ≡ Some t
    → (old.core.cut t.node t.leg ≡ false → GoesAsTold old e t (get_or plans t.leg None) o new)
    → GoesByPlan old e (transfer_of old.core e) plans o new
goes old e t plans o new is told = rw is told

as_told : (old : State) (e : Event) (t : Transfer) (x : Option Plan) (o : Outcome) (new : Legs)
    → ((p : Plan) → x ≡ Some p → GoesSo old e t (planned_failure p) o new) → GoesAsTold old e t x o new
as_told old e t None o new so = tt
as_told old e t (Some p) o new so = so p refl

goes_well : (old : State) (e : Event) (t : Transfer) (x : Option Left) (o : Outcome) (new : Legs) → is_none x ≡ true
    → Succeeds old e t t.value o new → GoesSo old e t x o new
goes_well old e t None o new is well = well
goes_well old e t (Some left) o new is well = cc

goes_ill : (old : State) (e : Event) (t : Transfer) (x : Option Left) (o : Outcome) (new : Legs) → is_none x ≡ false
    → o ≡ failure old.core e t → (x ≡ Some New → Leaves t t.value New old.legs new) → (x ≡ Some Old → Leaves t t.value Old old.legs new)
    → GoesSo old e t x o new
goes_ill old e t None o new is fails leaves_new leaves_old = cc
goes_ill old e t (Some New) o new is fails leaves_new leaves_old = (fails, leaves_new refl)
goes_ill old e t (Some Old) o new is fails leaves_new leaves_old = (fails, leaves_old refl)

-- an event without a transfer
module _ (old new : Kept) (legs : LegsSeen) (e : Event) (o : Outcome) (ok : refusal (core_of old) e ≡ None) (none : transfer_of (core_of old) e ≡ None)
    (core : core_of new ≡ after (core_of old) e o) where
  pub quiet : o ≡ outcome_of (core_of old) e → has_failed o ≡ false → Carries e o old legs new legs
  quiet is fine = record {
    step = record { accepted = ok; moves = Quiet none is refl; core = core };
    sizes = refl;
    cause = no_cause (core_of old) e o legs.faults legs.faults fine;
    later = rw none refl;
    planned = rw none tt;
  }

-- a write
module _ (old new : Kept) (before now : LegsSeen) (e : Event) (o : Outcome) (t : Transfer) (v : Sector) (accepted : refusal (core_of old) e ≡ None)
    (is : transfer_of (core_of old) e ≡ Some t) (value : t.value ≡ Some v) (core : core_of new ≡ after (core_of old) e o) where
  open_path : (core_of old).cut t.node t.leg ≡ false → is_open_path (core_of old) t ≡ true
  open_path e = ap not e

  pub sent : Sent ((core_of old).cut t.node t.leg) t.leg t.place v true before now → o ≡ Done → Carries e o old before new now
  sent s fine =
      let st : State = state_with old before in
      let done : Succeeds st e t t.value o (told_by now) = subst (λ x. Succeeds st e t x o (told_by now)) (sym value) (fine, s.written refl) in
      record {
        step = record { accepted = accepted; moves = Written t v is value (open_path (s.reached refl)) fine (s.written refl); core = core };
        sizes = s.sizes;
        cause = no_cause (core_of old) e o before.faults now.faults (ap has_failed fine);
        later = counted (core_of old) e t before.plans now.plans is s.plans;
        planned = goes st e t before.plans o (told_by now) is
            (λ cut. as_told st e t (plan_at before t.leg) o (told_by now) (λ p has. goes_well st e t (planned_failure p) o (told_by now) (sym (s.planned p cut has)) done));
      }

  moves_not : Sent ((core_of old).cut t.node t.leg) t.leg t.place v false before now → o ≡ failure (core_of old) e t
      → ((core_of old).cut t.node t.leg ≡ true) ⊎ ((core_of old).cut t.node t.leg ≡ false)
      → (told_by now ≡ told_by before) ⊎ (told_by now ≡ put (told_by before) t.leg t.place v)
      → Moves (state_with old before) e o (told_by now)
  moves_not s fails (inl cut) left = NotMoved t is fails (s.same cut)
  moves_not s fails (inr path) (inl same) = NotMoved t is fails same
  moves_not s fails (inr path) (inr new) = OneLeft t v is value (open_path path) fails new

  pub not_sent : Sent ((core_of old).cut t.node t.leg) t.leg t.place v false before now → o ≡ failure (core_of old) e t → Carries e o old before new now
  not_sent s fails =
      let st : State = state_with old before in
      record {
        step = record { accepted = accepted; moves = moves_not s fails (cut_or_not ((core_of old).cut t.node t.leg)) s.left; core = core };
        sizes = s.sizes;
        cause = caused (core_of old) e o t before.faults now.faults is (s.cause refl);
        later = counted (core_of old) e t before.plans now.plans is s.plans;
        planned = goes st e t before.plans o (told_by now) is
            (λ cut. as_told st e t (plan_at before t.leg) o (told_by now)
            (λ p has. goes_ill st e t (planned_failure p) o (told_by now) (sym (s.planned p cut has)) fails
            (λ f. rw value (s.leaves_new p cut has f)) (λ f. rw value (s.leaves_old p cut has f))));
      }

-- a read
module _ (old new : Kept) (before now : LegsSeen) (e : Event) (o : Outcome) (t : Transfer) (accepted : refusal (core_of old) e ≡ None)
    (is : transfer_of (core_of old) e ≡ Some t) (value : t.value ≡ None) (core : core_of new ≡ after (core_of old) e o) where
  pub got : (v : Sector) → Received ((core_of old).cut t.node t.leg) t.leg t.place (Ok v) before now → o ≡ outcome_read (core_of old) e t v → has_failed o ≡ false
      → Carries e o old before new now
  got v s fine told =
      let st : State = state_with old before in
      let done : Succeeds st e t t.value o (told_by now) = subst (λ x. Succeeds st e t x o (told_by now)) (sym value) ((v, s.value, fine), s.same) in
      record {
        step = record { accepted = accepted; moves = Read t v is value (ap not (s.reached refl)) s.value fine s.same; core = core };
        sizes = s.sizes;
        cause = no_cause (core_of old) e o before.faults now.faults told;
        later = counted (core_of old) e t before.plans now.plans is s.plans;
        planned = goes st e t before.plans o (told_by now) is
            (λ cut. as_told st e t (plan_at before t.leg) o (told_by now) (λ p has. goes_well st e t (planned_failure p) o (told_by now) (sym (s.planned p cut has)) done));
      }

  pub not_got : (f : Failed) → Received ((core_of old).cut t.node t.leg) t.leg t.place (Err f) before now → o ≡ failure (core_of old) e t → Carries e o old before new now
  not_got f s fails =
      let st : State = state_with old before in
      record {
        step = record { accepted = accepted; moves = NotMoved t is fails s.same; core = core };
        sizes = s.sizes;
        cause = caused (core_of old) e o t before.faults now.faults is (s.cause refl);
        later = counted (core_of old) e t before.plans now.plans is s.plans;
        planned = goes st e t before.plans o (told_by now) is
            (λ cut. as_told st e t (plan_at before t.leg) o (told_by now)
            (λ p has. goes_ill st e t (planned_failure p) o (told_by now) (sym (s.planned p cut has)) fails
            (λ x. rw value s.same) (λ x. rw value s.same)));
      }
