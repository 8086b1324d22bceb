-- A recovery that is open was open before the entry, of the same slot, save where it began there.
use Rattle.std.proofs.Common.{◌≡◌, ℕ, ◌==◌, Bool, true, false, if◌then◌else◌, List, ◌∷◌, Option, Some, None, refl, sym, ap, subst, ◌∙◌, arith}
use Rattle.std.proofs.lemmas.Bool.Decides.{nat_tests}
use Rattle.mdc_types.specs.Geometry.{Sizes}
use Rattle.mdc_types.specs.declared.events.Event.{Event}
use Rattle.mdc_types.specs.declared.events.Event.TheVariants as events
use Rattle.mdc_types.specs.declared.outcomes.Entry.{Entry}
use Rattle.mdc_types.specs.declared.outcomes.Outcome.{Outcome}
use Rattle.mdc_types.specs.declared.outcomes.Outcome.TheVariants as outcomes
use Rattle.md_superblock.specs.Arrays.{Array}
use Rattle.node_recovery.specs.Progress.{Recovering}
use Rattle.cluster_model.specs.After.{after}
use Rattle.cluster_model.specs.Contents.{Opens}
use Rattle.cluster_model.specs.Opening.{Origin}
use Rattle.cluster_model.specs.Outcomes.{outcome_of}
use Rattle.cluster_model.specs.Recovered.{slot_step, slot_in, found_in}
use Rattle.cluster_model.specs.Run.{Run, Step, entry}
use Rattle.cluster_model.specs.State.{State, Core, sizes}
use Rattle.cluster_model.specs.Transfers.{transfer_of}
use Rattle.laws_roles.proofs.Runs.{array_is}
use Rattle.storage_ways.proofs.Moving.{quiet_of}
use Rattle.laws_pending.proofs.Points.{same_point}
use Rattle.laws_pending.proofs.Tracing.{TellsBy, Traced, after_by, traced_run}

-- the node's recovery begins
abbrev pub begins : ℕ → Event → Bool
begins n (events.Recover m d) = n == m
begins n e = false

-- the recovery is of the slot
pub record Opened (core : Core) (n d : ℕ) : Type 0 where
  pub recovering : Recovering
  pub is : core.recovery n ≡ Some recovering
  pub slot : recovering.slot ≡ d

turned : (m n : ℕ) → (n == m) ≡ false → (m == n) ≡ false
turned m n e = grind (arith, nat_tests)

self : (n : ℕ) → (n == n) ≡ true
self n = grind (arith, nat_tests)

if_none : (b : Bool) (x : Option ℕ) (d : ℕ) → (x ≡ Some d → ⊥) → (if b then None else x) ≡ Some d → ⊥
if_none true x d f e = cc
if_none false x d f e = f e

no_slot : (d : ℕ) → None ≡ Some d → ⊥
no_slot d e = cc

if_same : (b : Bool) (a d : ℕ) → (if b then None else Some a) ≡ Some d → a ≡ d
if_same true a d e = cc
if_same false a d e = cc

if_other : (b : Bool) (k d : ℕ) (x : Option ℕ) → b ≡ false → (if b then Some k else x) ≡ Some d → x ≡ Some d
if_other true k d x f e = cc
if_other false k d x f e = e

some_same : (a d : ℕ) → Some a ≡ Some d → a ≡ d
some_same a d e = cc

-- where nothing was recovered nothing is
none_stays : (n d : ℕ) (e : Event) → begins n e ≡ false → slot_step n e None ≡ Some d → ⊥
none_stays n d (events.Recover m k) other is = no_slot d (if_other (m == n) k d None (turned m n other) is)
none_stays n d (events.Recovered m) other is = if_none (m == n) None d (no_slot d) is
none_stays n d (events.Die m) other is = if_none (m == n) None d (no_slot d) is
none_stays n d e other is = no_slot d is

-- and what is recovered is of the same slot
slot_stays : (n a d : ℕ) (e : Event) → begins n e ≡ false → slot_step n e (Some a) ≡ Some d → a ≡ d
slot_stays n a d (events.Recover m k) other is = some_same a d (if_other (m == n) k d (Some a) (turned m n other) is)
slot_stays n a d (events.Recovered m) other is = if_same (m == n) a d is
slot_stays n a d (events.Die m) other is = if_same (m == n) a d is
slot_stays n a d e other is = some_same a d is

module _ (g : Sizes) (past : List Entry) (core : Core) (t : Traced g past core.recovery) (n : ℕ) where
  -- where nothing is open, one more end tells nothing new
  abbrev Ended : List Entry
  Ended = entry (events.Recovered n) outcomes.Done ∷ past

  ended : core.recovery n ≡ None → Traced g Ended core.recovery
  ended none m r is = by (n == m) refl
    where
      by : (b : Bool) → (n == m) ≡ b → TellsBy (if b then None else slot_in m past) (λ c. found_in g m past c) r
      by true e = let empty : None ≡ Some r = sym none ∙ ap core.recovery (same_point n m e) ∙ is in cc
      by false e = t m r is

  pub open_before : sizes core ≡ g → (e : Event) (o : Outcome) → (transfer_of core e ≡ None → o ≡ outcome_of core e) → begins n e ≡ false → (r : Recovering) → (after core e o).recovery n ≡ Some r → Opened core n r.slot
  open_before same e o q other r is = by (core.recovery n) refl
    where
      by : (x : Option Recovering) → core.recovery n ≡ x → Opened core n r.slot
      by None at =
          let told : slot_step n e (if n == n then None else slot_in n past) ≡ Some r.slot = (after_by g Ended core (ended at) same e o q n r is).0 in
          absurd (none_stays n r.slot e other (subst (λ b. slot_step n e (if b then None else slot_in n past) ≡ Some r.slot) (self n) told))
      by (Some old) at =
          let told : slot_step n e (slot_in n past) ≡ Some r.slot = (after_by g past core t same e o q n r is).0 in
          record { recovering = old; is = at; slot = slot_stays n old.slot r.slot e other (subst (λ x. slot_step n e x ≡ Some r.slot) (t n old at).0 told) }

-- along a run
pub opened_before : (o : Origin) (start mid end : State) (past : List Entry) (x : Entry) → Opens o start → Run start past mid → Step mid x.event x.outcome end → (n d : ℕ) → begins n x.event ≡ false → Opened end.core n d → Opened mid.core n d
opened_before o start mid end past x opens run s n d other there =
    let same : sizes mid.core ≡ o.sizes = ap (λ (a : Array). a.sizes) (array_is o start mid past opens run) in
    let before = open_before o.sizes past mid.core (traced_run o start opens past mid run) n same x.event x.outcome (λ none. (quiet_of mid x.event x.outcome end.legs none s.moves).is) other there.recovering (ap (λ (c : Core). c.recovery n) (sym s.core) ∙ there.is) in
    record { recovering = before.recovering; is = before.is; slot = before.slot ∙ there.slot }
