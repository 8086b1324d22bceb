-- A sector that was settled in the open window was settled in its pass, and has one candidate.
use Rattle.std.proofs.Common.{◌≡◌, ℕ, ◌==◌, ◌&&◌, ◌||◌, not, Bool, true, false, if◌then◌else◌, List, [], ◌∷◌, ◌++◌, Option, Some, None, refl, sym, ap, subst, ◌∙◌, arith}
use Rattle.std.specs.Prelude.{is_some}
use Rattle.std.proofs.lemmas.Bool.Decides.{nat_tests}
use Rattle.mdc_types.specs.Ranges.{holds}
use Rattle.mdc_types.specs.declared.events.Event.{Event}
use Rattle.mdc_types.specs.declared.events.Event.TheVariants as events
use Rattle.mdc_types.specs.declared.numbers.Range.{Range}
use Rattle.mdc_types.specs.declared.numbers.Sector.{Sector}
use Rattle.mdc_types.specs.declared.outcomes.Entry.{Entry}
use Rattle.mdc_types.specs.declared.outcomes.Outcome.{Outcome}
use Rattle.mdc_types.specs.declared.outcomes.Outcome.TheVariants as outcomes
use Rattle.mirror_io.specs.Flight.{write_in}
use Rattle.mirror_io.specs.declared.live.LiveWrite.{LiveWrite}
use Rattle.suspend_ranges.specs.Suspended.{suspends}
use Rattle.plain_history.specs.History.{PlainWrite, candidates, live_writes, values_at, values_step, with_start, with_end}
use Rattle.cluster_model.specs.Contents.{SoundOpening}
use Rattle.cluster_model.specs.Opening.{Origin}
use Rattle.cluster_model.specs.Run.{Run}
use Rattle.cluster_model.specs.State.{State, Core}
use Rattle.laws_locks.specs.Following.{core_after}
use Rattle.laws_roles.specs.Laws.{Tells}
use Rattle.storage_ways.proofs.Flying.{plain_of, live_is}
use Rattle.storage_ways.proofs.Parts.{has_pass}
use Rattle.laws_writes.proofs.Points.{same_point, either_if, clash, and_left, and_right, or_right}
use Rattle.laws_writes.proofs.Promises.{runs_hold_windows}
use Rattle.laws_writes.proofs.Runs.{written}
use Rattle.laws_rebuild.specs.Settled.{settles, settled_in_pass, settled_in_window}
use Rattle.laws_rebuild.proofs.Settling.{by_test, led}

-- there is one value
abbrev pub One : List Sector → Type 0
One vs = (v : Sector) × (vs ≡ v ∷ [])

turned : (s t : ℕ) → (s == t) ≡ true → (t == s) ≡ true
turned s t e = grind (arith, nat_tests)

both : (a b : Bool) → a ≡ true → b ≡ true → (a && b) ≡ true
both a b e f = grind arith

or_more : (a b c : Bool) → (b ≡ true → c ≡ true) → (a || b) ≡ true → (a || c) ≡ true
or_more true b c f e = refl
or_more false b c f e = f e

is_open : (s : ℕ) (x : Option Range) → suspends s x ≡ true → is_some x ≡ true
is_open s None e = cc
is_open s (Some r) e = refl

not_started : (same begun : Bool) (vs us : List Sector) → same ≡ false → (if same && not begun then us else vs) ≡ vs
not_started same begun vs us e = grind arith

not_ended : (same : Bool) (vs us : List Sector) → same ≡ false → (if same then us else vs) ≡ vs
not_ended same vs us e = grind arith

-- the entry decides the sector
new_one : (ev : Event) (out : Outcome) (writes : ℕ → ℕ → Option PlainWrite) (values : ℕ → List Sector) (n s : ℕ) → settles ev out n s ≡ true → One (values_step ev out writes values s)
new_one (events.Settle m) out writes values n s e = by out e
  where
    by : (out : Outcome) → settles (events.Settle m) out n s ≡ true → One (values_step (events.Settle m) out writes values s)
    by (outcomes.Settled t v) e = subst (λ b. One (if b then v ∷ [] else values s)) (sym (turned s t (and_right (n == m) (s == t) e))) (v, refl)
    by out e = cc
new_one ev out writes values n s e = cc

settle_one : (m : ℕ) (out : Outcome) (writes : ℕ → ℕ → Option PlainWrite) (values : ℕ → List Sector) (s : ℕ) → One (values s) → One (values_step (events.Settle m) out writes values s)
settle_one m (outcomes.Settled t v) writes values s one = either_if One (t == s) (v ∷ []) (values s) (λ e. (v, refl)) (λ e. one)
settle_one m out writes values s one = one

module _ (o : Origin) (start : State) (sound : SoundOpening o start) (tells : Tells o start) where
  inside : (past : List Entry) (mid : State) → Run start past mid → (n s : ℕ) → settled_in_window o past n s ≡ true → suspends s (mid.core.copy n).window ≡ true
  inside [] mid run n s e = cc
  inside (y ∷ older) mid run n s e =
      subst (λ (c : Core). suspends s (c.copy n).window ≡ true) (sym (led o start sound tells (y ∷ older) mid run))
      (and_left (suspends s ((core_after o (y ∷ older)).copy n).window) (settles y.event y.outcome n s || settled_in_window o older n s) e)

  pub in_pass : (past : List Entry) (end : State) → Run start past end → (n s : ℕ) → settled_in_window o past n s ≡ true → settled_in_pass o past n s ≡ true
  in_pass [] end run n s e = cc
  in_pass (x ∷ past) end run n s e =
      let some = is_open s (end.core.copy n).window (inside (x ∷ past) end run n s e) in
      let has = (written o start sound tells (x ∷ past) end run).windows.window_pass n some in
      both (is_some ((core_after o (x ∷ past)).copy n).pass) (settles x.event x.outcome n s || settled_in_pass o past n s)
      (subst (λ (c : Core). has_pass (c.copy n) ≡ true) (led o start sound tells (x ∷ past) end run) has)
      (or_more (settles x.event x.outcome n s) (settled_in_window o past n s) (settled_in_pass o past n s) (λ b. in_pass past run.0 run.1 n s b)
      (and_right (suspends s ((core_after o (x ∷ past)).copy n).window) (settles x.event x.outcome n s || settled_in_window o past n s) e))

  module _ (past : List Entry) (mid : State) (run : Run start past mid) (n s : ℕ) (there : suspends s (mid.core.copy n).window ≡ true) where
    abbrev vs : List Sector
    vs = candidates (values_at o.base) past s

    -- no write in flight is of the sector
    elsewhere : (m k : ℕ) (w : LiveWrite) → write_in k (mid.core.writes m) ≡ Some w → (w.sector == s) ≡ false
    elsewhere m k w is = by (mid.core.copy n).window refl there
      where
        by : (x : Option Range) → (mid.core.copy n).window ≡ x → suspends s x ≡ true → (w.sector == s) ≡ false
        by None e h = cc
        by (Some r) e h = by_test (w.sector == s)
            (λ t. absurd (clash (holds r.lo r.hi s) h (subst (λ i. holds r.lo r.hi i ≡ false) (same_point w.sector s t) ((runs_hold_windows o start mid past sound tells run).open_free n m k r w e is))))
            (λ f. f)

    starts : (m k : ℕ) (x : Option LiveWrite) → write_in k (mid.core.writes m) ≡ x → with_start (plain_of x) s vs ≡ vs
    starts m k None e = refl
    starts m k (Some w) e = not_started (w.sector == s) w.started vs (vs ++ w.value ∷ []) (elsewhere m k w e)

    ends : (m k : ℕ) (x : Option LiveWrite) → write_in k (mid.core.writes m) ≡ x → with_end (plain_of x) s vs ≡ vs
    ends m k None e = refl
    ends m k (Some w) e = not_ended (w.sector == s) vs (w.value ∷ []) (elsewhere m k w e)

    still_one : (ev : Event) (out : Outcome) → One vs → One (values_step ev out (live_writes past) (candidates (values_at o.base) past) s)
    still_one (events.Out m k i) out one =
        subst One (sym (ap (λ y. with_start y s vs) (live_is o start mid past sound.opens run m k) ∙ starts m k (write_in k (mid.core.writes m)) refl)) one
    still_one (events.EndWrite m k) out one =
        subst One (sym (ap (λ y. with_end y s vs) (live_is o start mid past sound.opens run m k) ∙ ends m k (write_in k (mid.core.writes m)) refl)) one
    still_one (events.Settle m) out one = settle_one m out (live_writes past) (candidates (values_at o.base) past) s one
    still_one ev out one = one

  pub decided : (past : List Entry) (end : State) → Run start past end → (n s : ℕ) → settled_in_window o past n s ≡ true → One (candidates (values_at o.base) past s)
  decided [] end run n s e = cc
  decided (x ∷ past) end run n s e = by_test (settles x.event x.outcome n s)
      (λ t. new_one x.event x.outcome (live_writes past) (candidates (values_at o.base) past) n s t)
      (λ f.
      let before = or_right (settles x.event x.outcome n s) (settled_in_window o past n s) f
      (and_right (suspends s ((core_after o (x ∷ past)).copy n).window) (settles x.event x.outcome n s || settled_in_window o past n s) e) in
      still_one past run.0 run.1 n s (inside past run.0 run.1 n s before) x.event x.outcome (decided past run.0 run.1 n s before))
