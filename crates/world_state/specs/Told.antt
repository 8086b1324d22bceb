-- What the machine sees of the legs, and the causes of failures.
use Rattle.std.specs.Prelude.{◌≡◌, ◌⊎◌, ◌<◌, ℕ, Bool, true, false, if◌then◌else◌, List, [], length}
use Rattle.std.specs.Prelude.{map, get_or, slice_set, is_some, is_none, Option, Some, None}
use Rattle.std.specs.Prelude.{Result, is_ok, IfOk}
use Rattle.std.specs.Option.{option_map}
use Rattle.mdc_types.specs.Faults.{Rose}
use Rattle.mdc_types.specs.Geometry.{Sizes, length_of}
use Rattle.mdc_types.specs.Sectors.{zero_sector}
use Rattle.mdc_types.specs.declared.numbers.Sector.{Sector}
use Rattle.mdc_types.specs.declared.failed.Failed.{Failed}
use Rattle.mdc_types.specs.declared.events.Event.{Event}
use Rattle.mdc_types.specs.declared.outcomes.Outcome.{Outcome}
use Rattle.mdc_types.specs.declared.outcomes.Outcome.TheVariants.{Done, Lost, Io, Unreached}
use Rattle.leg_store.specs.Plans.{Plan, planned_failure, one_later}
use Rattle.leg_store.specs.declared.memory.Left.{Left}
use Rattle.leg_store.specs.declared.memory.Left.TheVariants.{Old, New}
use Rattle.cluster_model.specs.State.{State, Core, Legs}
use Rattle.cluster_model.specs.Run.{Step, Gives, put}
use Rattle.cluster_model.specs.Transfers.{Transfer, transfer_of}
use Rattle.cluster_model.specs.Failures.{failure}
use Rattle.cluster_model.specs.Outcomes.{outcome_read}
use Rattle.world_state.specs.Kept.{Kept, core_of}

abbrev pub sectors_of : Option (List Sector) → List Sector
sectors_of None = []
sectors_of (Some c) = c

-- what the machine sees of what the legs tell
abbrev pub legs_of : List (Option (List Sector)) → Legs
legs_of told = record {
  told = λ l. is_some (get_or told l None);
  content = λ l s. get_or (sectors_of (get_or told l None)) s zero_sector;
}

abbrev pub state_of : Kept → List (Option (List Sector)) → State
state_of kept told = record { core = core_of kept; legs = legs_of told }

-- the legs are those of the array, and each has its sectors
pub record Fits (sizes : Sizes) (lengths : List ℕ) : Type 0 where
  pub count : length lengths ≡ sizes.legs
  pub each : (l : ℕ) → l < sizes.legs → get_or lengths l 0 ≡ length_of sizes

abbrev pub fault_at : List ℕ → ℕ → ℕ
fault_at faults l = get_or faults l 0

-- what legs tell, their lengths, their counts of faults, and which of their transfers fail
pub record LegsSeen : Type 0 where
  pub contents : List (Option (List Sector))
  pub sizes : List ℕ
  pub faults : List ℕ
  pub plans : List (Option Plan)

abbrev pub seen_of : {L : Type 0} → (L → Option (List Sector)) → (L → ℕ) → (L → ℕ)
    → (L → Option Plan) → List L → LegsSeen
seen_of contents size faults plan legs = record {
  contents = map contents legs;
  sizes = map size legs;
  faults = map faults legs;
  plans = map plan legs;
}

-- the machine's state over these legs
abbrev pub state_with : Kept → LegsSeen → State
state_with kept legs = state_of kept legs.contents

abbrev pub told_by : LegsSeen → Legs
told_by legs = legs_of legs.contents

abbrev pub plan_at : LegsSeen → ℕ → Option Plan
plan_at legs l = get_or legs.plans l None

-- Causes.

-- a transfer over this path with this leg may fail: the path is cut, or the leg's own count of
-- faults rose
abbrev pub MayFail : Bool → ℕ → List ℕ → List ℕ → Type 0
MayFail cut l before now = (cut ≡ true) ⊎ Rose (fault_at before l) (fault_at now l)

-- the event's transfer failed: so is told of all but `load`
abbrev pub has_failed : Outcome → Bool
has_failed (Lost l) = true
has_failed (Io l) = true
has_failed (Unreached l) = true
has_failed o = false

abbrev pub CauseOf : Core → Option Transfer → List ℕ → List ℕ → Type 0
CauseOf core None before now = ⊥
CauseOf core (Some t) before now = MayFail (core.cut t.node t.leg) t.leg before now

-- a failure is told only over a cut path, or for a fault of the leg in this call
abbrev pub Caused : Core → Event → Outcome → List ℕ → List ℕ → Type 0
Caused core e o before now = has_failed o ≡ true → CauseOf core (transfer_of core e) before now

-- Plans.

-- each transfer that reaches a leg counts
abbrev pub plans_after : Core → Option Transfer → List (Option Plan) → List (Option Plan)
plans_after core None plans = plans
plans_after core (Some t) plans =
    if core.cut t.node t.leg then plans
    else slice_set plans t.leg (option_map one_later (get_or plans t.leg None))

-- the transfer succeeded
abbrev pub Succeeds : State → Event → Transfer → Option Sector → Outcome → Legs → Type 0
Succeeds old e t (Some v) o new = (o ≡ Done) × (new ≡ put old.legs t.leg t.place v)
Succeeds old e t None o new =
    ((v : Sector) × Gives old.legs t.leg t.place v × (o ≡ outcome_read old.core e t v))
    × (new ≡ old.legs)

-- what a failed transfer leaves
abbrev pub Leaves : Transfer → Option Sector → Left → Legs → Legs → Type 0
Leaves t (Some v) New old new = new ≡ put old t.leg t.place v
Leaves t value left old new = new ≡ old

abbrev pub GoesSo : State → Event → Transfer → Option Left → Outcome → Legs → Type 0
GoesSo old e t None o new = Succeeds old e t t.value o new
GoesSo old e t (Some left) o new =
    (o ≡ failure old.core e t) × Leaves t t.value left old.legs new

abbrev pub GoesAsTold : State → Event → Transfer → Option Plan → Outcome → Legs → Type 0
GoesAsTold old e t None o new = Unit {0}
GoesAsTold old e t (Some p) o new = GoesSo old e t (planned_failure p) o new

-- over an open path the transfer goes as the leg's plan says, where the leg tells it
abbrev pub GoesByPlan : State → Event → Option Transfer → List (Option Plan) → Outcome → Legs
    → Type 0
GoesByPlan old e None plans o new = Unit {0}
GoesByPlan old e (Some t) plans o new =
    old.core.cut t.node t.leg ≡ false → GoesAsTold old e t (get_or plans t.leg None) o new

-- an accepted event over legs: a step of the machine, whose transfer has its cause and its plan
pub record Carries (e : Event) (o : Outcome) (old : Kept) (before : LegsSeen) (new : Kept)
    (now : LegsSeen) : Type 0 where
  pub step : Step (state_with old before) e o (state_with new now)
  pub sizes : now.sizes ≡ before.sizes
  pub cause : Caused (core_of old) e o before.faults now.faults
  pub later : now.plans ≡ plans_after (core_of old) (transfer_of (core_of old) e) before.plans
  pub planned : let old_state = state_with old before in
      GoesByPlan old_state e (transfer_of (core_of old) e) before.plans o (told_by now)

-- Calls on legs.

-- a write of v to leg l, over a path that is cut or not
pub record Sent (cut : Bool) (l at : ℕ) (v : Sector) (ok : Bool) (before now : LegsSeen)
    : Type 0 where
  pub sizes : now.sizes ≡ before.sizes
  pub reached : ok ≡ true → cut ≡ false
  pub written : ok ≡ true → told_by now ≡ put (told_by before) l at v
  pub same : cut ≡ true → told_by now ≡ told_by before
  pub left : (told_by now ≡ told_by before) ⊎ (told_by now ≡ put (told_by before) l at v)
  pub cause : ok ≡ false → MayFail cut l before.faults now.faults
  pub plans : now.plans
      ≡ (if cut then before.plans
      else slice_set before.plans l (option_map one_later (get_or before.plans l None)))
  pub planned : (p : Plan) → cut ≡ false → plan_at before l ≡ Some p
      → ok ≡ is_none (planned_failure p)
  pub leaves_new : (p : Plan) → cut ≡ false → plan_at before l ≡ Some p
      → planned_failure p ≡ Some New → told_by now ≡ put (told_by before) l at v
  pub leaves_old : (p : Plan) → cut ≡ false → plan_at before l ≡ Some p
      → planned_failure p ≡ Some Old → told_by now ≡ told_by before

-- a read of leg l, over a path that is cut or not
pub record Received (cut : Bool) (l at : ℕ) (result : Result Sector Failed)
    (before now : LegsSeen) : Type 0 where
  pub sizes : now.sizes ≡ before.sizes
  pub reached : is_ok result ≡ true → cut ≡ false
  pub value : IfOk result (λ v. Gives (told_by before) l at v)
  pub same : told_by now ≡ told_by before
  pub cause : is_ok result ≡ false → MayFail cut l before.faults now.faults
  pub plans : now.plans
      ≡ (if cut then before.plans
      else slice_set before.plans l (option_map one_later (get_or before.plans l None)))
  pub planned : (p : Plan) → cut ≡ false → plan_at before l ≡ Some p
      → is_ok result ≡ is_none (planned_failure p)
