-- From where a slot became pending on: it owes what it marked then, and a sector that was settled since
-- and has two values again has a write that started since.
use Rattle.std.proofs.Common.{◌≡◌, inl, inr, ℕ, Bool, true, false, List, [], ◌∷◌, ◌++◌, refl, sym, ap, subst, ◌∙◌}
use Rattle.mdc_types.specs.declared.outcomes.Entry.{Entry}
use Rattle.plain_history.specs.History.{candidates, values_at}
use Rattle.plain_history.specs.Seen.{OpenSince}
use Rattle.cluster_model.specs.Contents.{SoundOpening}
use Rattle.cluster_model.specs.Guards.{is_out}
use Rattle.cluster_model.specs.Opening.{Origin, array_of}
use Rattle.cluster_model.specs.Recovered.{BecamePending, NotAgain}
use Rattle.cluster_model.specs.Run.{Run, Step}
use Rattle.cluster_model.specs.State.{State}
use Rattle.laws_roles.specs.Laws.{Tells}
use Rattle.laws_roles.proofs.Parts.{supers}
use Rattle.storage_ways.proofs.Parts.{Part}
use Rattle.storage_ways.proofs.Place.{here}
use Rattle.storage_ways.proofs.Runs as ways_runs
use Rattle.storage_ways.proofs.Runs.{around_at, At}
use Rattle.laws_writes.proofs.Ghosts.{Ghost, is_open}
use Rattle.laws_writes.proofs.First.{First}
use Rattle.laws_writes.proofs.Runs.{ghost_of}
use Rattle.laws_writes.proofs.Settled.{Since}
use Rattle.laws_writes.proofs.Written.{ghost_over}
use Rattle.laws_recovery.proofs.Ghosts.{Hold}
use Rattle.laws_recovery.proofs.Recovered.{hold_over, since_over}
use Rattle.laws_recovery.proofs.Runs.{hold_of, since_of}
use Rattle.laws_pending.proofs.Ghosts.{Pend, marks_trusted}
use Rattle.laws_pending.proofs.Offers.{pending_before}
use Rattle.laws_pending.proofs.Opened.{opened_step}
use Rattle.laws_pending.proofs.Points.{clash}
use Rattle.laws_pending.proofs.Runs.{All, all_ways, all, pend_over, pend_of}
use Rattle.laws_pending.proofs.Settling.{was_live}
use Rattle.laws_pending.proofs.Stepped.{stepped}

-- one run after the other
pub joined : (start place end : State) (before later : List Entry) → Run start before place → Run place later end → Run start (later ++ before) end
joined start place end before [] b a = subst (λ s. Run start before s) (sym a) b
joined start place end before (x ∷ later) b a = (a.0, joined start place a.0 before later b a.1, a.2)

module _ (o : Origin) (start : State) (opening : SoundOpening o start) (tells : Tells o start) where
  abbrev pub At_of : List Entry → State → Part
  At_of past end = At o start opening.opens tells past end

  -- ghosts for which all holds
  pub record Tied (d : ℕ) (before : List Entry) (place : State) (later : List Entry) (end : State) : Type 0 where
    pub ghost : Ghost
    pub hold : Hold
    pub since : Since
    pub pend : Pend
    pub all : All (At_of (later ++ before) end) ghost hold since pend
    pub owed : (c : ℕ) → pend.owed d c ≡ marks_trusted (At_of before place) d c
    pub opened : (s : ℕ) → since.since d s ≡ true → is_open (candidates (values_at o.base) (later ++ before) s) ≡ true → OpenSince later before s

  -- At the place.

  first_owed : (place : State) → place ≡ start → (d c : ℕ) → marks_trusted (First o start opening tells (supers (array_of o) start.legs) (ways_runs.home o start opening.opens tells)) d c ≡ marks_trusted (At_of [] place) d c
  first_owed place is d c =
      subst (λ s. marks_trusted (First o start opening tells (supers (array_of o) start.legs) (ways_runs.home o start opening.opens tells)) d c ≡ marks_trusted (At_of [] s) d c) (sym is)
      (subst (λ x. marks_trusted (First o start opening tells (supers (array_of o) start.legs) (ways_runs.home o start opening.opens tells)) d c ≡ marks_trusted (here x (around_at o start opening.opens tells [] start)) d c) (sym opening.opens.core) refl)

  -- it became pending there
  new_tied : (d : ℕ) (past : List Entry) (mid place : State) (x : Entry) (b : Run start past mid) (s : Step mid x.event x.outcome place) → mid.core.members.pending d ≡ false → place.core.members.pending d ≡ true → Tied d (x ∷ past) place [] place
  new_tied d past mid place x b s was pend =
      let go = stepped o start opening.opens tells past mid place x b s in
      let g = ghost_of o start opening tells past mid b in
      let h = hold_of o start opening tells past mid b in
      let z = since_of o start opening tells past mid b in
      let p = pend_of o start opening tells past mid b in
      let new = go.new z p d was pend in
      record {
        ghost = ghost_over go.ways g;
        hold = hold_over go.ways g h;
        since = since_over go.ways z;
        pend = pend_over go.ways p;
        all = all_ways (At_of past mid) (At_of (x ∷ past) place) go.ways g h z p (all o start opening tells past mid b);
        owed = new.owed;
        opened = λ t e two. absurd (clash ((since_over go.ways z).since d t) e (new.since t));
      }

  at_place : (d : ℕ) (before : List Entry) (place : State) → Run start before place → BecamePending d before place → place.core.members.pending d ≡ true → Tied d before place [] place
  at_place d [] place b became pend = record {
    ghost = ghost_of o start opening tells [] place b;
    hold = hold_of o start opening tells [] place b;
    since = since_of o start opening tells [] place b;
    pend = pend_of o start opening tells [] place b;
    all = all o start opening tells [] place b;
    owed = λ c. first_owed place b d c;
    opened = λ s e two. cc;
  }
  at_place d (x ∷ past) place b became pend = new_tied d past b.0 place x b.1 b.2 (settled (b.0.core.members.pending d) out) pend
    where
      out : b.0.core.members.pending d ≡ true → ⊥
      out e =
          let known = ways_runs.sound o start opening.opens tells past b.0 b.1 in
          clash (is_out (b.0.core.state d)) (ap is_out (known.phases.pending d e)) (was_live b.0.core d past x.event became b.2.accepted)

      settled : (t : Bool) → (t ≡ true → ⊥) → t ≡ false
      settled true f = absurd (f refl)
      settled false f = refl

  -- After it.

  more_tied : (d : ℕ) (before : List Entry) (place : State) (later : List Entry) (mid end : State) (x : Entry) → Run start (later ++ before) mid → Step mid x.event x.outcome end → mid.core.members.pending d ≡ true → Tied d before place later mid → Tied d before place (x ∷ later) end
  more_tied d before place later mid end x run s pend t =
      let go = stepped o start opening.opens tells (later ++ before) mid end x run s in
      let stays = go.stays t.since t.pend d pend in
      record {
        ghost = ghost_over go.ways t.ghost;
        hold = hold_over go.ways t.ghost t.hold;
        since = since_over go.ways t.since;
        pend = pend_over go.ways t.pend;
        all = all_ways (At_of (later ++ before) mid) (At_of (x ∷ (later ++ before)) end) go.ways t.ghost t.hold t.since t.pend t.all;
        owed = λ c. stays.owed c ∙ t.owed c;
        opened = λ k e two. elim (stays.since k e) [
          | inl old ↦ opened_step (values_at o.base) later before x k (t.opened k old) two
          | inr single ↦ absurd (clash (is_open (candidates (values_at o.base) (x ∷ (later ++ before)) k)) two single)
        ];
      }

  pub tied : (d : ℕ) (before : List Entry) (place : State) → Run start before place → BecamePending d before place
      → (later : List Entry) (end : State) → Run place later end → NotAgain d later before → end.core.members.pending d ≡ true → Tied d before place later end
  tied d before place b became [] end a none pend = subst (λ s. Tied d before place [] s) (sym a) (at_place d before place b became (subst (λ (s : State). s.core.members.pending d ≡ true) a pend))
  tied d before place b became (x ∷ later) end a none pend =
      let run = joined start place a.0 before later b a.1 in
      let was = pending_before o start opening.opens tells (later ++ before) a.0 end x run a.2 d none.0 pend in
      more_tied d before place later a.0 end x run a.2 was (tied d before place b became later a.0 a.1 none.1 was)
