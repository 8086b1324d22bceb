-- A recovery that has found a chunk marks it, and so does nobody else while the dead slot is pending:
-- more may be called moved than what the ways tell.
use Rattle.std.proofs.Common.{◌≡◌, ◌⊎◌, inl, inr, ℕ, ◌<◌, ◌==◌, ◌&&◌, ◌||◌, Bool, true, false, Option, Some, None, refl, sym, ap, subst, ◌∙◌, arith}
use Rattle.std.specs.Prelude.{is_some}
use Rattle.std.proofs.lemmas.Bool.Decides.{nat_tests}
use Rattle.storage_ways.proofs.Parts.{Part, chunk_in, recovers, found_in}
use Rattle.laws_writes.proofs.Ghosts.{Ghost}
use Rattle.laws_writes.proofs.Settled.{Since}
use Rattle.laws_pending.proofs.Ghosts.{Pend}
use Rattle.laws_pending.proofs.Pending.{Pendings}
use Rattle.laws_pending.proofs.Points.{same_point, clash}

-- the slot's heir is live, has found the chunk in it, and marks it on each good leg, where a sector of
-- it isn't settled since
pub record Held (w : Part) (z : Since) (d c : ℕ) : Type 0 where
  pub heir : ℕ
  pub is : w.heir d ≡ Some heir
  pub live : w.pending heir ≡ false
  pub opened : recovers (w.recovery heir) d ≡ true
  pub found : found_in (w.recovery heir) c ≡ true
  pub bit : (s l : ℕ) → s < w.geometry.room → chunk_in w s ≡ c → z.since d s ≡ false → w.ghost.good l ≡ true → w.bit heir c l ≡ true

abbrev pub more_moved : Pend → ℕ → (ℕ → Bool) → Pend
more_moved p d more = record p { moved = λ e c. p.moved e c || ((e == d) && more c) }

moved_else : (a b c : Bool) → (a || (b && c)) ≡ false → a ≡ false
moved_else a b c e = grind arith

either : (a b c : Bool) → (a || (b && c)) ≡ true → (a ≡ true) ⊎ ((b ≡ true) × (c ≡ true))
either true b c e = inl refl
either false true true e = inr (refl, refl)
either false true false e = cc
either false false c e = cc

same_heir : (x : Option ℕ) (a b : ℕ) → x ≡ Some a → x ≡ Some b → a ≡ b
same_heir x a b e f = let same : Some a ≡ Some b = sym e ∙ f in cc

module _ (w : Part) (g : Ghost) (z : Since) (p : Pend) (q : Pendings w g z p) (d : ℕ) (more : ℕ → Bool) (held : (c : ℕ) → more c ≡ true → Held w z d c) where
  -- where more is moved, it was moved before, or it is held
  cases : {P : Type 0} (e c : ℕ) → (p.moved e c || ((e == d) && more c)) ≡ true → (p.moved e c ≡ true → P) → ((e ≡ d) → Held w z d c → P) → P
  cases {P = P} e c moved old new = elim (either (p.moved e c) (e == d) (more c) moved) as (λ x. P) [
    | inl was ↦ old was
    | inr both ↦ new (same_point e d both.0) (held c both.1)
  ]

  pub more_pendings : Pendings w g z (more_moved p d more)
  more_pendings = record {
    read_leg = q.read_leg;
    super_leg = q.super_leg;
    born_now = q.born_now;
    line = q.line;
    since_line = q.since_line;
    was_heir = q.was_heir;
    since_young = q.since_young;
    work_pending = q.work_pending;
    one_promoted = q.one_promoted;
    solo = q.solo;
    full = λ e c l pend full still. q.full e c l pend full (moved_else (p.moved e c) (e == d) (more c) still);
    owed_served = λ e c l n pend owed still. q.owed_served e c l n pend owed (moved_else (p.moved e c) (e == d) (more c) still);
    owed_called = λ e c l k pend owed still. q.owed_called e c l k pend owed (moved_else (p.moved e c) (e == d) (more c) still);
    moved_found = λ e h s pend lt moved new heir live. cases e (chunk_in w s) moved
        (λ was. q.moved_found e h s pend lt was new heir live)
        (λ same x. subst (λ k. recovers (w.recovery h) k ≡ true) (sym same)
        (subst (λ k. recovers (w.recovery k) d ≡ true) (same_heir (w.heir d) x.heir h x.is (subst (λ k. w.heir k ≡ Some h) same heir)) x.opened));
    moved_kept = λ e h s pend lt moved new heir live. cases e (chunk_in w s) moved
        (λ was. q.moved_kept e h s pend lt was new heir live)
        (λ same x. subst (λ k. found_in (w.recovery k) (chunk_in w s) ≡ true) (same_heir (w.heir d) x.heir h x.is (subst (λ k. w.heir k ≡ Some h) same heir)) x.found);
    moved_bit = λ e h s l pend lt moved new heir live good. cases e (chunk_in w s) moved
        (λ was. q.moved_bit e h s l pend lt was new heir live good)
        (λ same x. subst (λ k. w.bit k (chunk_in w s) l ≡ true) (same_heir (w.heir d) x.heir h x.is (subst (λ k. w.heir k ≡ Some h) same heir))
        (x.bit s l lt refl (subst (λ k. z.since k s ≡ false) same new) good));
    moved_heir = λ e s pend lt moved new. cases e (chunk_in w s) moved
        (λ was. q.moved_heir e s pend lt was new)
        (λ same x. ap is_some (ap w.heir same ∙ x.is));
    moved_full = λ e h s pend lt moved new heir gone. cases e (chunk_in w s) moved
        (λ was. q.moved_full e h s pend lt was new heir gone)
        (λ same x. absurd (clash (w.pending h) gone (subst (λ k. w.pending k ≡ false) (same_heir (w.heir d) x.heir h x.is (subst (λ k. w.heir k ≡ Some h) same heir)) x.live)));
  }
