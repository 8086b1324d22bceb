-- Where a recovery ends, the legs that its node reads from are equal where it found something.
use Rattle.std.proofs.Common.{◌≡◌, ◌⊎◌, inl, inr, ℕ, ◌<◌, ◌≤◌, ◌&&◌, true, false, List, [], ◌∷◌, ◌++◌, Some, None, refl, sym, ap, subst, ◌∙◌, arith}
use Rattle.std.proofs.lemmas.Bool.{cases_lt}
use Rattle.dlm_modes.proofs.FirstLaws.{first_such_none}
use Rattle.mdc_types.specs.Geometry.{chunk_of, chunks_of}
use Rattle.mdc_types.specs.Roles.{is_working}
use Rattle.mdc_types.specs.declared.events.Event.TheVariants as events
use Rattle.mdc_types.specs.declared.numbers.Sector.{Sector}
use Rattle.mdc_types.specs.declared.outcomes.Entry.{Entry}
use Rattle.mdc_types.specs.declared.refusals.Refusal.TheVariants.{Needed}
use Rattle.mdc_types.specs.declared.roles.NodeState.{NodeState}
use Rattle.mdc_types.specs.declared.roles.NodeState.TheVariants.{Up}
use Rattle.md_superblock.specs.Arrays.{Array}
use Rattle.node_recovery.specs.Progress.{Recovering}
use Rattle.leg_failure.specs.Views.{NodeView, works}
use Rattle.plain_history.specs.History.{IsIn, here, there, candidates, values_at}
use Rattle.plain_history.specs.Seen.{OpenSince}
use Rattle.cluster_model.specs.Contents.{SoundOpening}
use Rattle.cluster_model.specs.Opening.{Origin}
use Rattle.cluster_model.specs.Phases.{is_up}
use Rattle.cluster_model.specs.Recovered.{Pended, AreEqual, slot_in, found_in}
use Rattle.cluster_model.specs.Recovering.{recovered_guards, chunk_needed}
use Rattle.cluster_model.specs.Run.{Run}
use Rattle.cluster_model.specs.State.{State, Core, sizes}
use Rattle.cluster_model.specs.Stored.{data_on}
use Rattle.cluster_model.specs.Table.{refusal}
use Rattle.laws_sound.proofs.Guarded.{all_none, unless_none, refused_none}
use Rattle.laws_roles.specs.Laws.{Tells}
use Rattle.laws_roles.proofs.Known.{known}
use Rattle.laws_roles.proofs.Runs.{array_is}
use Rattle.storage_ways.proofs.Guarding.{one_open, both_nots}
use Rattle.storage_ways.specs.Since.{since_in}
use Rattle.laws_writes.proofs.Ghosts.{is_open}
use Rattle.laws_recovery.proofs.Promises.{runs_recover, runs_serve_no_stale_leg}
use Rattle.laws_pending.proofs.Back.{Opened}
use Rattle.laws_pending.proofs.Points.{by_test, clash}
use Rattle.laws_pending.proofs.Settling.{open_since}
use Rattle.laws_pending.proofs.Tracing.{traced_run}

-- A node that may end its recovery.

pub record Ends (core : Core) (n : ℕ) : Type 0 where
  pub up : core.state n ≡ Up
  pub recovering : Recovering
  pub is : core.recovery n ≡ Some recovering
  pub met : (c : ℕ) → c < chunks_of (sizes core) → recovering.found c ≡ true → (core.bitmap n).need c ≡ false

up_state : (s : NodeState) → is_up s ≡ true → s ≡ Up
up_state Up e = refl
up_state s e = cc

pub ends : (core : Core) (n : ℕ) → refusal core (events.Recovered n) ≡ None → Ends core n
ends core n ok =
    let g = (all_none (recovered_guards core n) ok).1.1.1 in
    let o = one_open (core.recovery n) (unless_none _ _ g.1.0) in
    let r = o.recovering in
    record {
      up = up_state (core.state n) (unless_none (is_up (core.state n)) _ g.0);
      recovering = r;
      is = o.is;
      met = λ c below f. both_nots (r.found c) ((core.bitmap n).need c)
          (first_such_none (λ d. r.found d && (core.bitmap n).need d) 0 (chunks_of (sizes core)) (subst (λ x. chunk_needed core n x ≡ None) o.is (refused_none Needed (chunk_needed core n (core.recovery n)) g.1.1.1.1.1.0)) c (omega arith) (omega (arith, below))) f;
    }

-- What is read.

leg_there : (legs : ℕ) (v : NodeView) (l : ℕ) → ((k : ℕ) → legs ≤ k → is_working (v.role k) ≡ false) → works v l ≡ true → l < legs
leg_there legs v l spare e = elim (cases_lt l legs) [
  | inl lt ↦ lt
  | inr past ↦ let idle = spare l past in absurd (grind arith)
]

in_none : (a : Sector) → IsIn a [] → ⊥
in_none a p = elim p [ ]

in_one : (a v : Sector) → IsIn a (v ∷ []) → a ≡ v
in_one a v here = refl
in_one a v (there p) = absurd (in_none a p)

-- where there is one value, it is the only one
only : (a b : Sector) (vs : List Sector) → is_open vs ≡ false → IsIn a vs → IsIn b vs → a ≡ b
only a b [] one p q = absurd (in_none a p)
only a b (v ∷ []) one p q = in_one a v p ∙ sym (in_one b v q)
only a b (v ∷ u ∷ us) one p q = cc

some_slot : (a d : ℕ) → Some a ≡ Some d → a ≡ d
some_slot a d e = cc

module _ (o : Origin) (start end : State) (past : List Entry) (opening : SoundOpening o start) (tells : Tells o start) (run : Run start past end) (n : ℕ) where
  -- where the sector has one value, all legs that the node reads from have that
  pub one_value : end.core.state n ≡ Up → (s : ℕ) → s < (sizes end.core).room → is_open (candidates (values_at o.base) past s) ≡ false → AreEqual end n s
  one_value up s lt one l k at_l at_k =
      only (data_on (sizes end.core) end.legs l s) (data_on (sizes end.core) end.legs k s) (candidates (values_at o.base) past s) one (holds l at_l) (holds k at_k)
    where
      within : (j : ℕ) → works (end.core.view n) j ≡ true → j < (sizes end.core).legs
      within j e = leg_there (sizes end.core).legs (end.core.view n) j (λ i le. ap is_working (((known o start end past opening.opens run).range.legs.views n).roles i le)) e

      holds : (j : ℕ) → works (end.core.view n) j ≡ true → IsIn (data_on (sizes end.core) end.legs j s) (candidates (values_at o.base) past s)
      holds j e = runs_serve_no_stale_leg o start end past opening tells run j s (within j e) lt (inl (record { node = n; up = up; works = e }))

  -- what was found was settled since the recovery began, where it may end
  pub settled_since : (x : Ends end.core n) (s c : ℕ) → s < (sizes end.core).room → chunk_of (sizes end.core) s ≡ c → c < chunks_of (sizes end.core) → x.recovering.found c ≡ true → since_in past n s ≡ true
  settled_since x s c lt is below found = by ((runs_recover o start end past opening tells run).found n c x.recovering x.is found)
    where
      by : (((end.core.bitmap n).set c ≡ true) × ((end.core.bitmap n).need c ≡ true)) ⊎ ((t : ℕ) → t < (sizes end.core).room → chunk_of (sizes end.core) t ≡ c → since_in past n t ≡ true) → since_in past n s ≡ true
      by (inl kept) = absurd (clash ((end.core.bitmap n).need c) kept.1 (x.met c below found))
      by (inr all) = all s lt is

  pub found_is_equal : refusal end.core (events.Recovered n) ≡ None → (d c s : ℕ) (before later : List Entry) → Pended start before later end d → slot_in n past ≡ Some d → past ≡ later ++ before → s < (sizes end.core).room
      → chunk_of (sizes end.core) s ≡ c → found_in (sizes end.core) n past c ≡ true → AreEqual end n s ⊎ OpenSince later before s
  found_is_equal ok d c s before later pended slot split lt is found =
      by_test (is_open (candidates (values_at o.base) past s)) (λ two. inr (open_at two)) (λ one. inl (one_value x.up s lt one))
    where
      x : Ends end.core n
      x = ends end.core n ok

      same : sizes end.core ≡ o.sizes
      same = ap (λ (a : Array). a.sizes) (array_is o start end past opening.opens run)

      told : (slot_in n past ≡ Some x.recovering.slot) × ((k : ℕ) → found_in o.sizes n past k ≡ true → x.recovering.found k ≡ true)
      told = traced_run o start opening.opens past end run n x.recovering x.is

      there_found : x.recovering.found c ≡ true
      there_found = told.1 c (subst (λ g. found_in g n past c ≡ true) same found)

      below : c < chunks_of (sizes end.core)
      below = ((known o start end past opening.opens run).range.room.recoveries n x.recovering x.is).found c there_found

      recovers : Opened end.core n d
      recovers = record { recovering = x.recovering; is = x.is; slot = some_slot x.recovering.slot d (sym told.0 ∙ slot) }

      open_at : is_open (candidates (values_at o.base) past s) ≡ true → OpenSince later before s
      open_at two =
          open_since o start opening tells n d (values_at o.base) s before later pended.place.state end pended.became (subst (λ p. Run start p end) split run) recovers
          (subst (λ p. since_in p n s ≡ true) split (settled_since x s c lt is below there_found))
          (subst (λ p. is_open (candidates (values_at o.base) p s) ≡ true) split two)
