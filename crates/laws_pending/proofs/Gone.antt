-- What a recovery didn't find isn't marked any more as slots that are pending have to.
use Rattle.std.proofs.Common.{◌≡◌, ℕ, ◌+◌, ◌==◌, ◌<◌, ◌||◌, not, Bool, true, false, if◌then◌else◌, refl, sym, ap, subst, ◌∙◌, arith, nat_le}
use Rattle.mdc_types.specs.Geometry.{Sizes, chunks_of, pages_of}
use Rattle.leg_failure.specs.Views.{works}
use Rattle.node_recovery.specs.Progress.{Recovering}
use Rattle.cluster_model.specs.Phases.{is_up}
use Rattle.storage_ways.proofs.Parts.{Part, read_leg, read_in}
use Rattle.storage_ways.proofs.Roled.{acked_works}
use Rattle.storage_ways.proofs.Ways.{AllRead}
use Rattle.laws_writes.proofs.Ghosts.{Ghost}
use Rattle.laws_writes.proofs.Settled.{Since}
use Rattle.laws_pending.proofs.Found.{read_there, reads_good, reads_from, up_settled}
use Rattle.laws_pending.proofs.Ghosts.{Pend, serves, calls, is_served, is_called, is_trusted, marks_trusted, marks_good}
use Rattle.laws_pending.proofs.Known.{Known}
use Rattle.laws_pending.proofs.Points.{clash, same_point, by_test, each_one, each_of, such_one}
use Rattle.laws_pending.proofs.Trust.{Trusts, Was, trusted, promoted, reads, says, both, serves_good, calls_good}

pages_some : (g : Sizes) → 0 < pages_of g
pages_some g = by (nat_le (chunks_of g) 2048) _
  where
    by : (b : Bool) (k : ℕ) → 0 < (if b then 1 else 1 + k)
    by true k = omega arith
    by false k = omega arith

module _ (w : Part) (g : Ghost) (z : Since) (p : Pend) (a : Known w g z p) where
  -- what a pending slot owes stands on legs that were trusted
  pub owed_there : (d c l : ℕ) → w.pending d ≡ true → p.owed d c ≡ true → p.moved d c ≡ false → l < w.geometry.legs → p.promoted d l ≡ false → Was w l → w.bit d c l ≡ true
  owed_there d c l pend owed stays lt other (trusted (reads n e)) = a.pendings.owed_served d c l n pend owed stays e lt other
  owed_there d c l pend owed stays lt other (trusted (says k e)) = a.pendings.owed_called d c l k pend owed stays e lt other
  owed_there d c l pend owed stays lt other (promoted n e) = absurd (clash (p.promoted d l) (a.pendings.work_pending d n l pend e) other)

  pub was_good : (l : ℕ) → Trusts w l → w.ghost.good l ≡ true
  was_good l (reads n e) = serves_good w a.sound n l e
  was_good l (says k e) = calls_good w a.sound k l e

  module _ (n : ℕ) (r : Recovering) (x : AllRead w n r) where
    -- legs that the recoverer reads from are legs that there are
    pub works_leg : (l : ℕ) → works (w.view n) l ≡ true → l < w.geometry.legs
    works_leg l e = a.pendings.read_leg n 0 l (ap (λ y. read_in y 0 l) x.opened.recovery ∙ x.read 0 l (pages_some w.geometry) e)

    pub full_found : (c : ℕ) → p.full r.slot c ≡ true → p.moved r.slot c ≡ false → r.found c ≡ true
    full_found c full stays =
        let from = reads_from w g z p a n r x in
        read_there w g z p a n r x c (read_leg w n) from (a.pendings.full r.slot c (read_leg w n) x.opened.pending full stays (reads_good w g z p a n r x) (works_leg (read_leg w n) from))

    -- a leg that the recoverer reads from, but the one that was to work, had it
    pub owed_found : (c l : ℕ) → p.owed r.slot c ≡ true → p.moved r.slot c ≡ false → works (w.view n) l ≡ true → p.promoted r.slot l ≡ false → r.found c ≡ true
    owed_found c l owed stays works_there other =
        read_there w g z p a n r x c l works_there
        (a.pendings.owed_served r.slot c l n x.opened.pending owed stays (both (is_up (w.state n)) (works (w.view n) l) x.opened.up works_there) (works_leg l works_there) other)

    pub owed_gone : (c l : ℕ) → p.owed r.slot c ≡ true → p.moved r.slot c ≡ false → w.ghost.good l ≡ true → p.promoted r.slot l ≡ false → r.found c ≡ true
    owed_gone c l owed stays good other =
        let from = reads_from w g z p a n r x in
        by_test (p.promoted r.slot (read_leg w n))
        (λ t.
        let agreed = sym (acked_works w a.sound n (read_leg w n) x.opened.up x.acked) ∙ from in
        let works_there = acked_works w a.sound n l x.opened.up x.acked ∙ a.pendings.solo r.slot (read_leg w n) l x.opened.pending t agreed good in
        owed_found c l owed stays works_there other)
        (λ f. owed_found c (read_leg w n) owed stays from f)

  pub apart_up : (n d : ℕ) → is_up (w.state n) ≡ true → w.pending d ≡ true → (d == n) ≡ false
  apart_up n d up pend = by_test (d == n) (λ t. absurd (clash (w.pending n) (subst (λ k. w.pending k ≡ true) (same_point d n t) pend) (up_settled w g z p a n up))) (λ f. f)

-- A slot that has become pending.

or_of : (a b : Bool) → (not a || b) ≡ true → a ≡ true → b ≡ true
or_of a b e t = grind arith

or_left : (a b : Bool) → a ≡ true → (a || b) ≡ true
or_left a b e = grind arith

or_right : (a b : Bool) → b ≡ true → (a || b) ≡ true
or_right a b e = grind arith

of_or : (a b : Bool) → (a ≡ true → b ≡ true) → (not a || b) ≡ true
of_or true b f = f refl
of_or false b f = refl

pub marked_served : (v : Part) (d c l n : ℕ) → marks_trusted v d c ≡ true → l < v.geometry.legs → n < 16 → serves v n l ≡ true → v.bit d c l ≡ true
marked_served v d c l n all lt node e =
    or_of (is_trusted v l) (v.bit d c l) (each_one (λ k. not (is_trusted v k) || v.bit d c k) v.geometry.legs l all lt)
    (or_left (is_served v l) (is_called v l) (such_one (λ m. serves v m l) 16 n node e))

pub marked_called : (v : Part) (d c l k : ℕ) → marks_trusted v d c ≡ true → l < v.geometry.legs → k < v.geometry.legs → calls v k l ≡ true → v.bit d c l ≡ true
marked_called v d c l k all lt leg e =
    or_of (is_trusted v l) (v.bit d c l) (each_one (λ j. not (is_trusted v j) || v.bit d c j) v.geometry.legs l all lt)
    (or_right (is_served v l) (is_called v l) (such_one (λ m. calls v m l) v.geometry.legs k leg e))

pub marked_good : (v : Part) (d c l : ℕ) → marks_good v d c ≡ true → l < v.geometry.legs → v.ghost.good l ≡ true → v.bit d c l ≡ true
marked_good v d c l all lt good = or_of (v.ghost.good l) (v.bit d c l) (each_one (λ k. not (v.ghost.good k) || v.bit d c k) v.geometry.legs l all lt) good

pub good_marked : (v : Part) (d c : ℕ) → ((l : ℕ) → v.ghost.good l ≡ true → v.bit d c l ≡ true) → marks_good v d c ≡ true
good_marked v d c f = each_of (λ k. not (v.ghost.good k) || v.bit d c k) v.geometry.legs (λ k lt. of_or (v.ghost.good k) (v.bit d c k) (f k))
