-- Each way keeps what is known of open recoveries.
use Rattle.std.proofs.Common.{◌≡◌, ℕ, ◌==◌, ◌&&◌, ◌||◌, if◌then◌else◌, Bool, true, false, Option, Some, refl, sym, ap, ◌∙◌, arith}
use Rattle.dlm_modes.specs.Points.{with_at}
use Rattle.std.proofs.lemmas.Bool.Decides.{nat_tests}
use Rattle.mdc_types.specs.Geometry.{page_of}
use Rattle.mdc_types.specs.Pages.{done_at}
use Rattle.node_recovery.specs.Progress.{Recovering, begun, with_read, with_found, with_cleared}
use Rattle.storage_ways.proofs.Parts.{Part, recovers, found_in, read_in, cleared_in, is_heir, with_page}
use Rattle.storage_ways.proofs.Sound.{Sound}
use Rattle.storage_ways.proofs.Ways.{Way}
use Rattle.storage_ways.proofs.Ways as ways
use Rattle.laws_writes.proofs.Pages.{Pages, NoHeir, RecoveryHeir, ReadFound, Cleared}
use Rattle.laws_writes.proofs.Recoverers.{slot_down, turn_held}

done_at-is : (f : ℕ → ℕ → Bool) (p l q k : ℕ) → done_at f p l q k ≡ (((q == p) && (k == l)) || f q k)
done_at-is f p l q k = grind (arith, nat_tests)

heir_begun : (recovery : ℕ → Option Recovering) (heir : ℕ → Option ℕ) (n e m d : ℕ)
    → (recovers (recovery m) d ≡ true → is_heir (heir d) m ≡ true) → (recovers (recovery m) d ≡ true → n ≡ m)
    → recovers (with_at recovery n (Some (begun e)) m) d ≡ true → is_heir (with_at heir e (Some n) d) m ≡ true
heir_begun recovery heir n e m d old one = by (m == n) refl
  where
    by : (b : Bool) → (m == n) ≡ b → recovers (if b then Some (begun e) else recovery m) d ≡ true → is_heir (with_at heir e (Some n) d) m ≡ true
    by true t h = grind (arith, nat_tests)
    by false t h = let same = one h in absurd (grind (arith, nat_tests))

found_read : (recovery : ℕ → Option Recovering) (bit : ℕ → ℕ → ℕ → Bool) (n p k : ℕ) (r : Recovering) (has : ℕ → Bool) (m d c l : ℕ)
    → recovery n ≡ Some r → has c ≡ ((page_of c == p) && bit r.slot c k)
    → (recovers (recovery m) d ≡ true → read_in (recovery m) (page_of c) l ≡ true → bit d c l ≡ true → found_in (recovery m) c ≡ true)
    → let now = with_at recovery n (Some (with_found (with_read r p k) has)) m in
    recovers now d ≡ true → read_in now (page_of c) l ≡ true → bit d c l ≡ true → found_in now c ≡ true
found_read recovery bit n p k r has m d c l is h old = by (m == n) refl
  where
    at_n : m ≡ n → (r.slot == d) ≡ true → done_at r.read p k (page_of c) l ≡ true → bit d c l ≡ true → (r.found c || has c) ≡ true
    at_n same e reads there =
        let here = ap recovery same ∙ is in
        let before : r.read (page_of c) l ≡ true → r.found c ≡ true
        = λ b. ap (λ x. found_in x c) (sym here) ∙ old (ap (λ x. recovers x d) here ∙ e) (ap (λ x. read_in x (page_of c) l) here ∙ b) there in
        let now = sym (done_at-is r.read p k (page_of c) l) ∙ reads in
        grind (arith, nat_tests, before, now, h)

    by : (b : Bool) → (m == n) ≡ b → let now = if b then Some (with_found (with_read r p k) has) else recovery m in
        recovers now d ≡ true → read_in now (page_of c) l ≡ true → bit d c l ≡ true → found_in now c ≡ true
    by true t e reads there = at_n (grind (arith, nat_tests)) e reads there
    by false t e reads there = old e reads there

cleared_there : (recovery : ℕ → Option Recovering) (bit : ℕ → ℕ → ℕ → Bool) (n p k : ℕ) (r : Recovering) (m d c l : ℕ)
    → recovery n ≡ Some r
    → (recovers (recovery m) d ≡ true → cleared_in (recovery m) (page_of c) l ≡ true → bit d c l ≡ false)
    → let now = with_at recovery n (Some (with_cleared r p k)) m in
    recovers now d ≡ true → cleared_in now (page_of c) l ≡ true → with_page bit r.slot p k (λ c. false) d c l ≡ false
cleared_there recovery bit n p k r m d c l is old = by (m == n) refl
  where
    at_n : m ≡ n → (r.slot == d) ≡ true → done_at r.cleared p k (page_of c) l ≡ true → with_page bit r.slot p k (λ c. false) d c l ≡ false
    at_n same e clear =
        let here = ap recovery same ∙ is in
        let before : r.cleared (page_of c) l ≡ true → bit d c l ≡ false
        = λ b. old (ap (λ x. recovers x d) here ∙ e) (ap (λ x. cleared_in x (page_of c) l) here ∙ b) in
        let now = sym (done_at-is r.cleared p k (page_of c) l) ∙ clear in
        grind (arith, nat_tests, before, now)

    by : (b : Bool) → (m == n) ≡ b → let now = if b then Some (with_cleared r p k) else recovery m in
        recovers now d ≡ true → cleared_in now (page_of c) l ≡ true → with_page bit r.slot p k (λ c. false) d c l ≡ false
    by true t e clear = at_n (grind (arith, nat_tests)) e clear
    by false t e clear = let before = old e clear in grind (arith, before)

pub no_heir : (w v : Part) → Way w v → Sound w → Pages w → NoHeir v
no_heir w v (ways.joins n x) s p d = grind (arith, nat_tests, p.no_heir d)
no_heir w v (ways.leaves n x) s p d = grind (arith, nat_tests, p.no_heir d, s.phases.pending n, x.up)
no_heir w v (ways.quits n x) s p d = grind (arith, nat_tests, p.no_heir d, s.phases.pending n, s.phases.live n, x.going.live)
no_heir w v (ways.parts n o x) s p d = grind (arith, nat_tests, p.no_heir d)
no_heir w v (ways.dies n told x) s p d = grind (arith, nat_tests, p.no_heir d)
no_heir w v (ways.recovers_slot n e x) s p d = grind (arith, nat_tests, p.no_heir d, x.pending)
no_heir w v (ways.ends_recovery n r x) s p d = grind (arith, nat_tests, p.no_heir d)
no_heir w v x s p d = p.no_heir d

pub recovery_heir : (w v : Part) → Way w v → Sound w → Pages w → RecoveryHeir v
recovery_heir w v (ways.leaves n x) s p m d = grind (arith, nat_tests, p.recovery_heir m d)
recovery_heir w v (ways.quits n x) s p m d = grind (arith, nat_tests, p.recovery_heir m d)
recovery_heir w v (ways.parts n o x) s p m d = grind (arith, nat_tests, p.recovery_heir m d)
recovery_heir w v (ways.dies n told x) s p m d = grind (arith, nat_tests, p.recovery_heir m d)
recovery_heir w v (ways.recovers_slot n e x) s p m d = heir_begun w.recovery w.heir n e m d (λ h. p.recovery_heir m d h) (λ h. s.turns.one n m x.turn (turn_held w s m d h))
recovery_heir w v (ways.slot_reads n q l r has x) s p m d = grind (arith, nat_tests, p.recovery_heir m d, x.opened.recovery)
recovery_heir w v (ways.slot_clears n q l r x) s p m d = grind (arith, nat_tests, p.recovery_heir m d, x.all.opened.recovery)
recovery_heir w v (ways.ends_recovery n r x) s p m d = grind (arith, nat_tests, p.recovery_heir m d, turn_held w s m d, turn_held w s n r.slot, s.turns.one n m, x.all.opened.recovery)
recovery_heir w v x s p m d = p.recovery_heir m d

pub read_found : (w v : Part) → Way w v → Sound w → Pages w → ReadFound v
read_found w v (ways.leaves n x) s p m d c l = grind (arith, nat_tests, p.read_found m d c l)
read_found w v (ways.quits n x) s p m d c l = grind (arith, nat_tests, p.read_found m d c l)
read_found w v (ways.parts n o x) s p m d c l = grind (arith, nat_tests, p.read_found m d c l)
read_found w v (ways.dies n told x) s p m d c l = grind (arith, nat_tests, p.read_found m d c l)
read_found w v (ways.marks n q k x) s p m d c l = grind (arith, nat_tests, p.read_found m d c l, slot_down w s m d, x.up)
read_found w v (ways.misses_page n q k left x) s p m d c l = grind (arith, nat_tests, p.read_found m d c l, slot_down w s m d, x.up)
read_found w v (ways.recovers_slot n e x) s p m d c l = grind (arith, nat_tests, p.read_found m d c l)
read_found w v (ways.slot_reads n q k r has x) s p m d c l = found_read w.recovery w.bit n q k r has m d c l x.opened.recovery (x.bits c) (λ h. p.read_found m d c l h)
read_found w v (ways.slot_clears n q k r x) s p m d c l = grind (arith, nat_tests, p.read_found m d c l, x.all.opened.recovery)
read_found w v (ways.misses_slot n q k r left x) s p m d c l = grind (arith, nat_tests, p.read_found m d c l, x.all.opened.recovery)
read_found w v (ways.ends_recovery n r x) s p m d c l = grind (arith, nat_tests, p.read_found m d c l)
read_found w v x s p m d c l = p.read_found m d c l

pub cleared : (w v : Part) → Way w v → Sound w → Pages w → Cleared v
cleared w v (ways.leaves n x) s p m d c l = grind (arith, nat_tests, p.cleared m d c l)
cleared w v (ways.quits n x) s p m d c l = grind (arith, nat_tests, p.cleared m d c l)
cleared w v (ways.parts n o x) s p m d c l = grind (arith, nat_tests, p.cleared m d c l)
cleared w v (ways.dies n told x) s p m d c l = grind (arith, nat_tests, p.cleared m d c l)
cleared w v (ways.marks n q k x) s p m d c l = grind (arith, nat_tests, p.cleared m d c l, slot_down w s m d, x.up)
cleared w v (ways.misses_page n q k left x) s p m d c l = grind (arith, nat_tests, p.cleared m d c l, slot_down w s m d, x.up)
cleared w v (ways.recovers_slot n e x) s p m d c l = grind (arith, nat_tests, p.cleared m d c l)
cleared w v (ways.slot_reads n q k r has x) s p m d c l = grind (arith, nat_tests, p.cleared m d c l, x.opened.recovery)
cleared w v (ways.slot_clears n q k r x) s p m d c l = cleared_there w.recovery w.bit n q k r m d c l x.all.opened.recovery (λ h. p.cleared m d c l h)
cleared w v (ways.misses_slot n q k r left x) s p m d c l = grind (arith, nat_tests, p.cleared m d c l, x.all.opened.recovery)
cleared w v (ways.ends_recovery n r x) s p m d c l = grind (arith, nat_tests, p.cleared m d c l)
cleared w v x s p m d c l = p.cleared m d c l

pub pages_step : (w v : Part) → Way w v → Sound w → Pages w → Pages v
pages_step w v x s p = record {
  no_heir = no_heir w v x s p;
  recovery_heir = recovery_heir w v x s p;
  read_found = read_found w v x s p;
  cleared = cleared w v x s p;
}
