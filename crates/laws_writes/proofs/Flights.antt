-- Live writes, and what a way makes of them.
use Rattle.std.proofs.Common.{◌≡◌, ◌⊎◌, inl, inr, ℕ, ◌==◌, if◌then◌else◌, Bool, true, false, Option, Some, None, List, [], refl, sym, ap, ◌∙◌, arith}
use Rattle.std.proofs.lemmas.Bool.Decides.{nat_tests}
use Rattle.dlm_modes.specs.Points.{with_at}
use Rattle.mdc_types.specs.declared.numbers.Sector.{Sector}
use Rattle.mirror_io.specs.Flight.{write_in, new_write, start_in, done_in, without_write, started, done_on}
use Rattle.mirror_io.specs.declared.live.LiveWrite.{LiveWrite}
use Rattle.storage_ways.proofs.Parts.{Part, write_of, writes_at}
use Rattle.storage_ways.proofs.Ways.{Finds, Asking, Trying, Ending}

pub same_nat : (s : ℕ) → (s == s) ≡ true
same_nat s = grind (arith, nat_tests)

pub is_same : (s t : ℕ) → (s == t) ≡ true → s ≡ t
is_same s t e = grind (arith, nat_tests)

pub write_there : (w : Part) (n k : ℕ) (x : LiveWrite) → write_in k (w.writes n) ≡ Some x → writes_at (write_of w n k) x.sector ≡ true
write_there w n k x is = ap (λ y. writes_at y x.sector) is ∙ same_nat x.sector

-- the new writes of the node are its old ones, but for one of the same sector or none
kept : (writes : ℕ → List LiveWrite) (n k : ℕ) (new : List LiveWrite) (y : Option LiveWrite) → Finds new (writes n) k y
    → (a i u : ℕ) → (writes_at y u ≡ true → writes_at (write_in k (writes n)) u ≡ true)
    → writes_at (write_in i (with_at writes n new a)) u ≡ true → writes_at (write_in i (writes a)) u ≡ true
kept writes n k new y finds a i u old = by (a == n) refl (i == k) refl (finds i)
  where
    by : (b : Bool) → (a == n) ≡ b → (d : Bool) → (i == k) ≡ d → write_in i new ≡ (if d then y else write_in i (writes n))
        → writes_at (write_in i (if b then new else writes a)) u ≡ true → writes_at (write_in i (writes a)) u ≡ true
    by false t d e f h = h
    by true t true e f h = ap (λ m. writes_at (write_in i (writes m)) u) (is_same a n t) ∙ ap (λ j. writes_at (write_in j (writes n)) u) (is_same i k e) ∙ old (ap (λ z. writes_at z u) (sym f) ∙ h)
    by true t false e f h = ap (λ m. writes_at (write_in i (writes m)) u) (is_same a n t) ∙ ap (λ z. writes_at z u) (sym f) ∙ h

here_at : (y : Option LiveWrite) (x : LiveWrite) (u : ℕ) → y ≡ Some x → (x.sector == u) ≡ true → writes_at y u ≡ true
here_at y x u is e = ap (λ z. writes_at z u) is ∙ e

pub was_out : (w : Part) (n k l : ℕ) (x : LiveWrite) → Trying w n k l x → (a i u : ℕ)
    → writes_at (write_in i (with_at w.writes n (done_in k l (start_in k (w.writes n))) a)) u ≡ true → writes_at (write_of w a i) u ≡ true
was_out w n k l x t a i u = kept w.writes n k (done_in k l (start_in k (w.writes n))) (Some (done_on l (started x))) t.does a i u (here_at (write_of w n k) x u t.write)

pub was_missed : (w : Part) (n k l : ℕ) (x : LiveWrite) → Trying w n k l x → (a i u : ℕ)
    → writes_at (write_in i (with_at w.writes n (start_in k (w.writes n)) a)) u ≡ true → writes_at (write_of w a i) u ≡ true
was_missed w n k l x t a i u = kept w.writes n k (start_in k (w.writes n)) (Some (started x)) t.starts a i u (here_at (write_of w n k) x u t.write)

none_at_all : (y : Option LiveWrite) (u : ℕ) → writes_at None u ≡ true → writes_at y u ≡ true
none_at_all y u e = cc

pub was_ended : (w : Part) (n k : ℕ) (x : LiveWrite) → Ending w n k x → (a i u : ℕ)
    → writes_at (write_in i (with_at w.writes n (without_write k (w.writes n)) a)) u ≡ true → writes_at (write_of w a i) u ≡ true
was_ended w n k x e a i u = kept w.writes n k (without_write k (w.writes n)) None e.finds a i u (none_at_all (write_of w n k) u)

pub was_dead : (w : Part) (n a i u : ℕ) → writes_at (write_in i (with_at w.writes n [] a)) u ≡ true → writes_at (write_of w a i) u ≡ true
was_dead w n a i u = by (a == n)
  where
    by : (b : Bool) → writes_at (write_in i (if b then [] else w.writes a)) u ≡ true → writes_at (write_of w a i) u ≡ true
    by true e = cc
    by false e = e

pub record IsAsked (n s k a i u : ℕ) : Type 0 where
  pub node : a ≡ n
  pub number : i ≡ k
  pub sector : s ≡ u

pub asked_or_was : (w : Part) (n s k : ℕ) (v : Sector) (new : List LiveWrite) → Asking w n s k v new → (a i u : ℕ)
    → writes_at (write_in i (with_at w.writes n new a)) u ≡ true → IsAsked n s k a i u ⊎ (writes_at (write_of w a i) u ≡ true)
asked_or_was w n s k v new x a i u = by (a == n) refl (i == k) refl (x.finds i)
  where
    by : (b : Bool) → (a == n) ≡ b → (d : Bool) → (i == k) ≡ d → write_in i new ≡ (if d then Some (new_write k s v) else write_of w n i)
        → writes_at (write_in i (if b then new else w.writes a)) u ≡ true → IsAsked n s k a i u ⊎ (writes_at (write_of w a i) u ≡ true)
    by false t d e f h = inr h
    by true t true e f h = inl (record { node = is_same a n t; number = is_same i k e; sector = is_same s u (ap (λ z. writes_at z u) (sym f) ∙ h) })
    by true t false e f h = inr (ap (λ m. writes_at (write_of w m i) u) (is_same a n t) ∙ ap (λ z. writes_at z u) (sym f) ∙ h)

-- no live write is of the sector that is asked
pub none_asked : (w : Part) (n s k : ℕ) (v : Sector) (new : List LiveWrite) → Asking w n s k v new → (a i u : ℕ)
    → s ≡ u → writes_at (write_of w a i) u ≡ true → ⊥
none_asked w n s k v new x a i u same = by (write_of w a i) refl
  where
    by : (y : Option LiveWrite) → write_of w a i ≡ y → writes_at y u ≡ true → ⊥
    by None is e = cc
    by (Some y) is e = let there = x.alone a i y is in grind (arith, nat_tests)

-- which write it was

pub record IsAt (n k : ℕ) (z : Option LiveWrite) (a i : ℕ) (y : LiveWrite) : Type 0 where
  pub node : a ≡ n
  pub number : i ≡ k
  pub is : z ≡ Some y

pub record IsElse (writes : ℕ → List LiveWrite) (n k a i : ℕ) (y : LiveWrite) : Type 0 where
  pub apart : a ≡ n → i ≡ k → ⊥
  pub was : write_in i (writes a) ≡ Some y

differ : (a n : ℕ) → (a == n) ≡ false → a ≡ n → ⊥
differ a n e is = let both : true ≡ false = sym (ap (λ x. x == n) is ∙ same_nat n) ∙ e in cc

pub flown : (writes : ℕ → List LiveWrite) (n k : ℕ) (new : List LiveWrite) (z : Option LiveWrite) → Finds new (writes n) k z
    → (a i : ℕ) (y : LiveWrite) → write_in i (with_at writes n new a) ≡ Some y → IsAt n k z a i y ⊎ IsElse writes n k a i y
flown writes n k new z finds a i y = by (a == n) refl (i == k) refl (finds i)
  where
    by : (b : Bool) → (a == n) ≡ b → (d : Bool) → (i == k) ≡ d → write_in i new ≡ (if d then z else write_in i (writes n))
        → write_in i (if b then new else writes a) ≡ Some y → IsAt n k z a i y ⊎ IsElse writes n k a i y
    by false t d e f h = inr (record { apart = λ is more. differ a n t is; was = h })
    by true t true e f h = inl (record { node = is_same a n t; number = is_same i k e; is = sym f ∙ h })
    by true t false e f h = inr (record { apart = λ is more. differ i k e more; was = ap (λ m. write_in i (writes m)) (is_same a n t) ∙ sym f ∙ h })
