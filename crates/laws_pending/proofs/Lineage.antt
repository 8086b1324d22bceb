-- From where a slot became pending on: what was taken from it has moved, what is settled the entries
-- settle, and who died in a recovery is remembered.
use Rattle.std.proofs.Common.{◌≡◌, ◌⊎◌, inl, inr, ℕ, ◌==◌, ◌&&◌, ◌||◌, Bool, true, false, List, [], ◌∷◌, ◌++◌, Option, Some, None, refl, sym, ap, subst, ◌∙◌, arith}
use Rattle.std.proofs.lemmas.Bool.Decides.{nat_tests}
use Rattle.mdc_types.specs.Geometry.{Sizes}
use Rattle.mdc_types.specs.declared.events.Event.{Event}
use Rattle.mdc_types.specs.declared.events.Event.TheVariants as events
use Rattle.mdc_types.specs.declared.outcomes.Entry.{Entry}
use Rattle.cluster_model.specs.Contents.{SoundOpening}
use Rattle.cluster_model.specs.Guards.{is_out}
use Rattle.cluster_model.specs.Opening.{Origin}
use Rattle.cluster_model.specs.Recovered.{BecamePending, NotAgain, makes_pending}
use Rattle.cluster_model.specs.Run.{Run, Step, entry}
use Rattle.cluster_model.specs.State.{State, Core}
use Rattle.laws_roles.specs.Laws.{Tells}
use Rattle.storage_ways.proofs.Parts.{Part}
use Rattle.storage_ways.proofs.QuietSteps.{has_transfer}
use Rattle.storage_ways.proofs.Runs as ways_runs
use Rattle.storage_ways.proofs.Runs.{At, run_ways, run_way}
use Rattle.storage_ways.proofs.Ways.{Ways, one}
use Rattle.storage_ways.specs.Moments.{is_moment}
use Rattle.laws_writes.proofs.Ghosts.{Ghost}
use Rattle.laws_writes.proofs.Runs.{ghost_of}
use Rattle.laws_writes.proofs.Settled.{Since}
use Rattle.laws_writes.proofs.Written.{ghost_over}
use Rattle.laws_recovery.proofs.Ghosts.{Hold}
use Rattle.laws_recovery.proofs.Recovered.{hold_over, since_over}
use Rattle.laws_recovery.proofs.Runs.{hold_of, since_of}
use Rattle.laws_pending.specs.Heirs.{takes, TakenSince, SettledIn}
use Rattle.laws_pending.proofs.Ghosts.{Pend, slot_of}
use Rattle.laws_pending.proofs.Heritage.{more_moved, more_pendings}
use Rattle.laws_pending.proofs.Offers.{pending_before, same_moments}
use Rattle.laws_pending.proofs.Owed.{New, new_way, Stays, stays_way, calm_stays}
use Rattle.laws_pending.proofs.Points.{clash, by_test}
use Rattle.laws_pending.proofs.Runs.{All, all_ways, all, pend_over, pend_of}
use Rattle.laws_pending.proofs.Settling.{was_live}
use Rattle.laws_pending.proofs.Settlings.{settling, settled_by, still_over, new_was, was_way, was_over}
use Rattle.laws_pending.proofs.Taking.{held}
use Rattle.laws_pending.proofs.Untouched.{join}

made_moment : (d : ℕ) (past : List Entry) (e : Event) → makes_pending d past e ≡ true → is_moment e ≡ true
made_moment d past (events.Die n) made = refl
made_moment d past (events.FinishRound n) made = refl
made_moment d past e made = cc

moment_still : (e : Event) → is_moment e ≡ true → has_transfer e ≡ false
moment_still (events.Die n) m = refl
moment_still (events.Offer n wish) m = refl
moment_still (events.FinishRound n) m = refl
moment_still (events.Settle n) m = refl
moment_still e m = cc

moment_takes : (g : Sizes) (d c : ℕ) (past : List Entry) (e : Event) → is_moment e ≡ true → takes g d c past e ≡ true → ⊥
moment_takes g d c past (events.Die n) m t = cc
moment_takes g d c past (events.Offer n wish) m t = cc
moment_takes g d c past (events.FinishRound n) m t = cc
moment_takes g d c past (events.Settle n) m t = cc
moment_takes g d c past e m t = cc

first_true : (a b : Bool) → a ≡ true → (a || b) ≡ true
first_true a b e = grind arith

second_true : (a : Bool) (d : ℕ) (b : Bool) → b ≡ true → (a || ((d == d) && b)) ≡ true
second_true a d b e = grind (arith, nat_tests)

not_true : (b : Bool) → (b ≡ true → ⊥) → b ≡ false
not_true true f = absurd (f refl)
not_true false f = refl

module _ (o : Origin) (start : State) (opening : SoundOpening o start) (tells : Tells o start) where
  abbrev pub At_of : List Entry → State → Part
  At_of past end = At o start opening.opens tells past end

  -- the slot that the node recovered just before its own became pending
  abbrev pub left_with : (d : ℕ) (before : List Entry) (place : State) → Run start before place → Option ℕ
  left_with d [] place b = None
  left_with d (x ∷ past) place b = slot_of (b.0.core.recovery d)

  -- ghosts for which all holds
  pub record Told (d : ℕ) (before : List Entry) (left : Option ℕ) (later : List Entry) (end : State) : Type 0 where
    pub ghost : Ghost
    pub hold : Hold
    pub since : Since
    pub pend : Pend
    pub all : All (At_of (later ++ before) end) ghost hold since pend
    pub taken : (c : ℕ) → TakenSince o.sizes later before d c → pend.moved d c ≡ true
    pub settled : (s : ℕ) → since.since d s ≡ true → SettledIn later s
    pub was : (k : ℕ) → left ≡ Some k → pend.was d ≡ Some k

  -- At the place.

  new_told : (d : ℕ) (past : List Entry) (mid place : State) (x : Entry) (b : Run start past mid) (s : Step mid x.event x.outcome place) → is_moment x.event ≡ true
      → mid.core.members.pending d ≡ false → place.core.members.pending d ≡ true → Told d (x ∷ past) (slot_of (mid.core.recovery d)) [] place
  new_told d past mid place x b s moment was pend =
      let w = At_of past mid in
      let v = At_of (x ∷ past) place in
      let way = run_way o start opening.opens tells past mid place x (moment_still x.event moment) b s in
      let xs : Ways w v = one (ways_runs.sound o start opening.opens tells past mid b) way in
      let g = ghost_of o start opening tells past mid b in
      let h = hold_of o start opening tells past mid b in
      let z = since_of o start opening tells past mid b in
      let p = pend_of o start opening tells past mid b in
      let new = new_way w v way z p d was pend in
      record {
        ghost = ghost_over xs g;
        hold = hold_over xs g h;
        since = since_over xs z;
        pend = pend_over xs p;
        all = all_ways w v xs g h z p (all o start opening tells past mid b);
        taken = λ c t. absurd t;
        settled = λ t e. absurd (clash ((since_over xs z).since d t) e (new.since t));
        was = λ k e. new_was w v way p d was pend ∙ e;
      }

  at_place : (d : ℕ) (before : List Entry) (place : State) (b : Run start before place) → BecamePending d before place → place.core.members.pending d ≡ true → Told d before (left_with d before place b) [] place
  at_place d [] place b became pend = record {
    ghost = ghost_of o start opening tells [] place b;
    hold = hold_of o start opening tells [] place b;
    since = since_of o start opening tells [] place b;
    pend = pend_of o start opening tells [] place b;
    all = all o start opening tells [] place b;
    taken = λ c t. absurd t;
    settled = λ s e. cc;
    was = λ k e. cc;
  }
  at_place d (x ∷ past) place b became pend = new_told d past b.0 place x b.1 b.2 (made_moment d past x.event became) (not_true (b.0.core.members.pending d) out) pend
    where
      out : b.0.core.members.pending d ≡ true → ⊥
      out e =
          let known = ways_runs.sound o start opening.opens tells past b.0 b.1 in
          clash (is_out (b.0.core.state d)) (ap is_out (known.phases.pending d e)) (was_live b.0.core d past x.event became b.2.accepted)

  -- After it.

  more_told : (d : ℕ) (before : List Entry) (left : Option ℕ) (later : List Entry) (mid end : State) (x : Entry) → Run start (later ++ before) mid → Step mid x.event x.outcome end → mid.core.members.pending d ≡ true → end.core.members.pending d ≡ true
      → Told d before left later mid → Told d before left (x ∷ later) end
  more_told d before left later mid end x run s pend after t = by_test (is_moment x.event) moment calm
    where
      past : List Entry
      past = later ++ before

      w : Part
      w = At_of past mid

      v : Part
      v = At_of (x ∷ past) end

      moment : is_moment x.event ≡ true → Told d before left (x ∷ later) end
      moment m =
          let known = ways_runs.sound o start opening.opens tells past mid run in
          let way = run_way o start opening.opens tells past mid end x (moment_still x.event m) run s in
          let xs : Ways w v = one known way in
          let stays = stays_way w v way t.since t.pend d known pend in
          record {
            ghost = ghost_over xs t.ghost;
            hold = hold_over xs t.ghost t.hold;
            since = since_over xs t.since;
            pend = pend_over xs t.pend;
            all = all_ways w v xs t.ghost t.hold t.since t.pend t.all;
            taken = λ c k. elim k [
              | inl now ↦ absurd (moment_takes o.sizes d c past x.event m now)
              | inr old ↦ stays.moved c (t.taken c old)
            ];
            settled = λ k e. elim (settling w v way t.since d k e) [
              | inl old ↦ inr (t.settled k old)
              | inr new ↦ inl (settled_by o start opening tells past mid end run x.outcome x.event s k m new)
            ];
            was = λ k e. was_way w v way t.pend d known pend ∙ t.was k e;
          }

      calm : is_moment x.event ≡ false → Told d before left (x ∷ later) end
      calm m =
          let xs = run_ways o start opening.opens tells past mid end x run s in
          let still = same_moments o start opening.opens tells past mid end x m in
          let stays = calm_stays w v xs t.since t.pend d still in
          let a : All v (ghost_over xs t.ghost) (hold_over xs t.ghost t.hold) (since_over xs t.since) (pend_over xs t.pend) = all_ways w v xs t.ghost t.hold t.since t.pend t.all in
          let more : ℕ → Bool = λ c. takes o.sizes d c past x.event in
          record {
            ghost = ghost_over xs t.ghost;
            hold = hold_over xs t.ghost t.hold;
            since = since_over xs t.since;
            pend = more_moved (pend_over xs t.pend) d more;
            all = record {
              recovered = a.recovered;
              pendings = more_pendings v (ghost_over xs t.ghost) (since_over xs t.since) (pend_over xs t.pend) a.pendings d more
                  (λ c e. held o start opening tells past mid end run x.outcome x.event s d c (ghost_over xs t.ghost) (hold_over xs t.ghost t.hold) (since_over xs t.since) (pend_over xs t.pend) a after e);
            };
            taken = λ c k. elim k [
              | inl now ↦ second_true ((pend_over xs t.pend).moved d c) d (more c) now
              | inr old ↦ first_true ((pend_over xs t.pend).moved d c) ((d == d) && more c) (stays.moved c (t.taken c old))
            ];
            settled = λ k e. inr (t.settled k (still_over w v xs t.since d k still e));
            was = λ k e. was_over w v xs t.pend d still ∙ t.was k e;
          }

  pub told : (d : ℕ) (before : List Entry) (place : State) (b : Run start before place) → BecamePending d before place
      → (later : List Entry) (end : State) → Run place later end → NotAgain d later before → end.core.members.pending d ≡ true → Told d before (left_with d before place b) later end
  told d before place b became [] end a none pend = subst (λ s. Told d before (left_with d before place b) [] s) (sym a) (at_place d before place b became (subst (λ (s : State). s.core.members.pending d ≡ true) a pend))
  told d before place b became (x ∷ later) end a none pend =
      let run = join start place a.0 before later b a.1 in
      let was = pending_before o start opening.opens tells (later ++ before) a.0 end x run a.2 d none.0 pend in
      more_told d before (left_with d before place b) later a.0 end x run a.2 was pend (told d before place b became later a.0 a.1 none.1 was)
