-- A covered leg holds a candidate at each sector that its pass has settled, along each run.
use Rattle.std.proofs.Common.{◌≡◌, ℕ, suc, ◌<◌, ◌==◌, ◌||◌, Bool, true, false, if◌then◌else◌, List, [], ◌∷◌, refl, sym, ap, subst, ◌∙◌, arith}
use Rattle.std.specs.Prelude.{is_some}
use Rattle.std.proofs.lemmas.Bool.Decides.{nat_tests}
use Rattle.mdc_types.specs.declared.events.Event.{Event}
use Rattle.mdc_types.specs.declared.events.Event.TheVariants as events
use Rattle.mdc_types.specs.declared.numbers.Sector.{Sector}
use Rattle.mdc_types.specs.declared.outcomes.Entry.{Entry}
use Rattle.mdc_types.specs.declared.outcomes.Outcome.{Outcome}
use Rattle.mdc_types.specs.declared.outcomes.Outcome.TheVariants as outcomes
use Rattle.md_superblock.specs.Arrays.{Array}
use Rattle.plain_history.specs.History.{candidates, live_writes, values_at, values_step}
use Rattle.cluster_model.specs.Contents.{SoundOpening}
use Rattle.cluster_model.specs.Copying.{settled_with}
use Rattle.cluster_model.specs.Opening.{Origin}
use Rattle.cluster_model.specs.Run.{Run, Step}
use Rattle.cluster_model.specs.State.{State, Core, Legs}
use Rattle.cluster_model.specs.Stored.{data_on}
use Rattle.laws_locks.specs.Following.{core_after}
use Rattle.laws_locks.proofs.Runs.{run_is}
use Rattle.laws_roles.specs.Laws.{Tells}
use Rattle.laws_roles.proofs.Parts.{covered_by}
use Rattle.laws_roles.proofs.Runs.{array_is}
use Rattle.storage_ways.specs.Moments.{is_moment, moments_in}
use Rattle.storage_ways.proofs.Moving.{quiet_of}
use Rattle.storage_ways.proofs.Parts.{Part, has_pass, covers}
use Rattle.storage_ways.proofs.QuietSteps.{has_transfer}
use Rattle.storage_ways.proofs.Roled.{covers_written, written_target}
use Rattle.storage_ways.proofs.Runs as ways_runs
use Rattle.storage_ways.proofs.Runs.{around_at, At, place, run_way, run_ways}
use Rattle.storage_ways.proofs.SectorRows.{settled}
use Rattle.laws_writes.proofs.Ghosts.{is_among}
use Rattle.laws_writes.proofs.Points.{same_point, and_left, and_right, or_right}
use Rattle.laws_writes.proofs.Runs.{ghost_of}
use Rattle.laws_recovery.proofs.Lacks.{decides_settle}
use Rattle.laws_recovery.proofs.Runs.{hold_of, since_of, recovered}
use Rattle.laws_recovery.proofs.Values.{same_self}
use Rattle.laws_rebuild.specs.Settled.{settles, settled_in_pass}
use Rattle.laws_rebuild.proofs.Covers.{covers_before, covered_before}
use Rattle.laws_rebuild.proofs.Stays.{fresh, fresh_way, fresh_over}

pub by_test : {P : Type 0} (b : Bool) → (b ≡ true → P) → (b ≡ false → P) → P
by_test true t f = t refl
by_test false t f = f refl

not_moment : (ev : Event) → has_transfer ev ≡ true → is_moment ev ≡ false
not_moment (events.Die n) t = cc
not_moment (events.Offer n wish) t = cc
not_moment (events.FinishRound n) t = cc
not_moment (events.Settle n) t = cc
not_moment ev t = refl

settled_same : (t u : ℕ) (v y : Sector) → outcomes.Settled t v ≡ outcomes.Settled u y → (t ≡ u) × (v ≡ y)
settled_same t u v y e = let first : t ≡ u = cc in let second : v ≡ y = cc in (first, second)

decided_one : (v : Sector) (t : ℕ) (us : List Sector) → is_among v (if t == t then v ∷ [] else us) ≡ true
decided_one v t us = grind (arith, nat_tests, same_self v)

module _ (o : Origin) (start : State) (sound : SoundOpening o start) (tells : Tells o start) where
  abbrev pub Here : List Entry → State → Part
  Here past end = At o start sound.opens tells past end

  room : (past : List Entry) (end : State) → Run start past end → o.sizes.room ≡ (Here past end).geometry.room
  room past end run = sym (ap (λ (a : Array). a.sizes.room) (array_is o start end past sound.opens run))

  pub led : (past : List Entry) (end : State) → Run start past end → end.core ≡ core_after o past
  led past end run = (run_is o start sound.opens.core past end run).leads

  passing : (past : List Entry) (mid : State) → Run start past mid → (n s : ℕ) → settled_in_pass o past n s ≡ true → has_pass (mid.core.copy n) ≡ true
  passing [] mid run n s e = cc
  passing (y ∷ older) mid run n s e =
      subst (λ (c : Core). has_pass (c.copy n) ≡ true) (sym (led (y ∷ older) mid run))
      (and_left (is_some ((core_after o (y ∷ older)).copy n).pass) (settles y.event y.outcome n s || settled_in_pass o older n s) e)

  module _ (past : List Entry) (mid end : State) (run : Run start past mid) where
    -- what an entry tells of a sector that it settles
    abbrev Tells_settled : Event → Outcome → ℕ → ℕ → Type 0
    Tells_settled ev out n s =
        (has_pass (mid.core.copy n) ≡ true)
        × (s < o.sizes.room)
        × ((l : ℕ) → covers (Here past mid) n l ≡ true → is_among (data_on o.sizes end.legs l s) (values_step ev out (live_writes past) (candidates (values_at o.base) past) s) ≡ true)

    settled_here : (m t : ℕ) (v : Sector) → Step mid (events.Settle m) (outcomes.Settled t v) end → Tells_settled (events.Settle m) (outcomes.Settled t v) m t
    settled_here m t v st =
        let it = settled mid.core (around_at o start sound.opens tells past mid) (place o start sound.opens tells past mid run) m st.accepted in
        let b = it.it.buffer in
        let q = quiet_of mid (events.Settle m) (outcomes.Settled t v) end.legs refl st.moves in
        let is = settled_same t b.sector v b.value (q.is ∙ ap settled_with it.it.of) in
        let sd = ways_runs.sound o start sound.opens tells past mid run in
        let r = recovered o start sound tells past mid run in
        let d = decides_settle (Here past mid) (ghost_of o start sound tells past mid run) r.written.contents r.stale.buffer_value m it.it.passing b it.settles in (
          ap is_some it.it.buffers.pass,
          subst (λ i. i < o.sizes.room) (sym is.0) (subst (λ i. b.sector < i) (sym (room past mid run)) it.it.buffers.sector),
          λ l cov.
              let target = written_target (Here past mid) sd m l d.up d.acked (covers_written (Here past mid) sd m l cov) in
              let there : data_on o.sizes end.legs l t ≡ v
              = ap (λ (x : Legs). data_on o.sizes x l t) q.legs ∙ ap (λ i. data_on o.sizes mid.legs l i) is.0 ∙ d.holds l target ∙ sym is.1 in
              subst (λ y. is_among y (values_step (events.Settle m) (outcomes.Settled t v) (live_writes past) (candidates (values_at o.base) past) t) ≡ true) (sym there)
              (decided_one v t (candidates (values_at o.base) past t)),
        )

    settled_by : (m : ℕ) (out : Outcome) → Step mid (events.Settle m) out end → (n s : ℕ) → settles (events.Settle m) out n s ≡ true → Tells_settled (events.Settle m) out n s
    settled_by m (outcomes.Settled t v) st n s e =
        subst (λ i. Tells_settled (events.Settle m) (outcomes.Settled t v) i s) (sym (same_point n m (and_left (n == m) (s == t) e)))
        (subst (λ i. Tells_settled (events.Settle m) (outcomes.Settled t v) m i) (sym (same_point s t (and_right (n == m) (s == t) e))) (settled_here m t v st))
    settled_by m out st n s e = cc

    settled_now : (ev : Event) (out : Outcome) → Step mid ev out end → (n s : ℕ) → settles ev out n s ≡ true → Tells_settled ev out n s
    settled_now (events.Settle m) out st n s e = settled_by m out st n s e
    settled_now ev out st n s e = cc

    module _ (x : Entry) (st : Step mid x.event x.outcome end) where
      -- what is covered now, was
      back : (n l : ℕ) → has_pass (mid.core.copy n) ≡ true → covered_by (end.core.copy n).pass l ≡ true → covered_by (mid.core.copy n).pass l ≡ true
      back n l has cov = by_test (has_transfer x.event)
          (λ t. covered_before mid.core x.event x.outcome t n l (subst (λ (c : Core). covered_by (c.copy n).pass l ≡ true) st.core cov))
          (λ f. covers_before (Here past mid) (Here (x ∷ past) end) (run_way o start sound.opens tells past mid end x f run st) n l has cov)

      kept : (n l s : ℕ) → covered_by (mid.core.copy n).pass l ≡ true → s < o.sizes.room → fresh (Here past mid) l s ≡ true → fresh (Here (x ∷ past) end) l s ≡ true
      kept n l s cov lt old =
          let sd = ways_runs.sound o start sound.opens tells past mid run in
          let g = ghost_of o start sound tells past mid run in
          let h = hold_of o start sound tells past mid run in
          let z = since_of o start sound tells past mid run in
          let r = recovered o start sound tells past mid run in
          let written = covers_written (Here past mid) sd n l cov in
          let was = subst (λ i. s < i) (room past mid run) lt in
          let is = subst (λ i. s < i) (room (x ∷ past) end (mid, run, st)) lt in
          by_test (has_transfer x.event)
          (λ t. fresh_over (Here past mid) (Here (x ∷ past) end) (run_ways o start sound.opens tells past mid end x run st) g h z r
          (ap (λ b. if b then suc (moments_in past) else moments_in past) (not_moment x.event t)) l s was is written old)
          (λ f. fresh_way (Here past mid) (Here (x ∷ past) end) (run_way o start sound.opens tells past mid end x f run st) g h z sd r l s was is written old)

      fresh_step : (n l s : ℕ) → (covered_by (mid.core.copy n).pass l ≡ true → settled_in_pass o past n s ≡ true → (s < o.sizes.room) × (fresh (Here past mid) l s ≡ true))
          → covered_by (end.core.copy n).pass l ≡ true → settled_in_pass o (x ∷ past) n s ≡ true → (s < o.sizes.room) × (fresh (Here (x ∷ past) end) l s ≡ true)
      fresh_step n l s was cov e = by_test (settles x.event x.outcome n s)
          (λ t. let now = settled_now x.event x.outcome st n s t in (now.1, now.2 l (back n l now.0 cov)))
          (λ f.
          let before = or_right (settles x.event x.outcome n s) (settled_in_pass o past n s) f
          (and_right (is_some ((core_after o (x ∷ past)).copy n).pass) (settles x.event x.outcome n s || settled_in_pass o past n s) e) in
          let covered = back n l (passing past mid run n s before) cov in
          let old = was covered before in
          (old.0, kept n l s covered old.0 old.1))

  pub fresh_in_pass : (past : List Entry) (end : State) → Run start past end → (n l s : ℕ) → covered_by (end.core.copy n).pass l ≡ true → settled_in_pass o past n s ≡ true
      → (s < o.sizes.room) × (fresh (Here past end) l s ≡ true)
  fresh_in_pass [] end run n l s cov e = cc
  fresh_in_pass (x ∷ past) end run n l s cov e = fresh_step past run.0 end run.1 x run.2 n l s (λ c b. fresh_in_pass past run.0 run.1 n l s c b) cov e
