-- The recovery that a progress stands for, and what a call makes of it.
use Rattle.std.proofs.Common.{◌≡◌, ℕ, ◌<◌, ◌≤◌, Bool, false, List, length, replicate, get_or, ap, sym, ◌∙◌, inl, inr}
use Rattle.std.proofs.Math.Path.{fun_ext}
use Rattle.std.proofs.lemmas.Bool.{cases_lt}
use Rattle.std.proofs.lemmas.List.{get_or-replicate, get_or_past, length-replicate}
use Rattle.node_recovery.specs.Progress.{Progress, Recovering, recovering_of, begun, with_read, with_cleared, with_found}
use Rattle.mdc_types.specs.Pages.{with_page}
use Rattle.mdc_types.proofs.PageLaws.{bits_of-with_page, bits_of-replicate}

abbrev progress : ℕ → List ℕ → List ℕ → List Bool → Progress
progress d read cleared found = record { slot = d; read = read; cleared = cleared; found = found }

abbrev recovery : ℕ → (ℕ → ℕ → Bool) → (ℕ → ℕ → Bool) → (ℕ → Bool) → Recovering
recovery d read cleared found = record { slot = d; read = read; cleared = cleared; found = found }

same_parts : (d : ℕ) (r s c k : ℕ → ℕ → Bool) (f h : ℕ → Bool) → ((p l : ℕ) → r p l ≡ s p l)
    → ((p l : ℕ) → c p l ≡ k p l) → ((n : ℕ) → f n ≡ h n) → recovery d r c f ≡ recovery d s k h
same_parts d r s c k f h er ec ef =
    ap (λ (x : ℕ → ℕ → Bool). recovery d x c f) (fun_ext (λ p. fun_ext (er p)))
    ∙ ap (λ (x : ℕ → ℕ → Bool). recovery d s x f) (fun_ext (λ p. fun_ext (ec p)))
    ∙ ap (λ (x : ℕ → Bool). recovery d s k x) (fun_ext ef)

none_found : (n c : ℕ) → get_or (replicate n false) c false ≡ false
none_found n c = elim (cases_lt c n) [
  | inl lt ↦ get_or-replicate n c false false lt
  | inr past ↦ get_or_past (replicate n false) c false (rw length-replicate past)
]

pub is_begun : (d m n k : ℕ) → recovering_of (progress d (replicate m 0) (replicate n 0)
    (replicate k false)) ≡ begun d
is_begun d m n k = same_parts d _ _ _ _ _ _ (bits_of-replicate m) (bits_of-replicate n)
    (none_found k)

pub is_read : (r : Progress) (p l : ℕ) → p < length r.read
    → recovering_of (record r { read = with_page r.read p l }) ≡ with_read (recovering_of r) p l
is_read r p l lt = ap (λ (x : ℕ → ℕ → Bool). record (recovering_of r) { read = x })
    (fun_ext (λ q. fun_ext (λ k. bits_of-with_page r.read p l q k lt)))

pub is_cleared : (r : Progress) (p l : ℕ) → p < length r.cleared
    → recovering_of (record r { cleared = with_page r.cleared p l })
    ≡ with_cleared (recovering_of r) p l
is_cleared r p l lt = ap (λ (x : ℕ → ℕ → Bool). record (recovering_of r) { cleared = x })
    (fun_ext (λ q. fun_ext (λ k. bits_of-with_page r.cleared p l q k lt)))

-- the same of the lists that are kept: what a call left of one of them, and what was kept

pub read_after : (d : ℕ) (new now read cleared : List ℕ) (found : List Bool) (value : Progress)
    (p l : ℕ) → new ≡ with_page now p l → now ≡ read
    → progress d read cleared found ≡ value → p < length read
    → recovering_of (progress d new cleared found) ≡ with_read (recovering_of value) p l
read_after d new now read cleared found value p l step was is lt =
    ap (λ (x : List ℕ). recovering_of (progress d x cleared found))
    (step ∙ ap (λ (x : List ℕ). with_page x p l) was)
    ∙ is_read (progress d read cleared found) p l lt
    ∙ ap (λ (r : Progress). with_read (recovering_of r) p l) is

pub cleared_after : (d : ℕ) (new now read cleared : List ℕ) (found : List Bool) (value : Progress)
    (p l : ℕ) → new ≡ with_page now p l → now ≡ cleared
    → progress d read cleared found ≡ value → p < length cleared
    → recovering_of (progress d read new found) ≡ with_cleared (recovering_of value) p l
cleared_after d new now read cleared found value p l step was is lt =
    ap (λ (x : List ℕ). recovering_of (progress d read x found))
    (step ∙ ap (λ (x : List ℕ). with_page x p l) was)
    ∙ is_cleared (progress d read cleared found) p l lt
    ∙ ap (λ (r : Progress). with_cleared (recovering_of r) p l) is
