-- Chunks of a window: the one that is copied there, and what was settled of it.
use Rattle.std.proofs.Common.{◌≡◌, ◌≢◌, ◌⊎◌, inl, inr, ℕ, ◌+◌, ◌-◌, ◌*◌, ◌/◌, ◌<◌, ◌≤◌, ◌==◌, ◌&&◌, if◌then◌else◌, Bool, true, false, Option, Some, None, refl, sym, ap, subst, ◌∙◌, arith}
use Rattle.std.specs.Prelude.{option_map}
use Rattle.std.proofs.Math.Nat.{div-mul-le_self, lt-div-mul-add}
use Rattle.std.proofs.lemmas.Bool.Decides.{nat_tests}
use Rattle.std.proofs.lemmas.Nat.{div-mul-add}
use Rattle.mdc_types.specs.Geometry.{Sizes, IsGeometry, chunk_of, chunk_start, chunk_end, chunks_of}
use Rattle.mdc_types.specs.Ranges.{holds}
use Rattle.mdc_types.specs.declared.numbers.Range.{Range}
use Rattle.resync_worker.specs.Copying.{Passing}
use Rattle.resync_worker.specs.Sectors.{first_chunk_in, place_in, is_behind, is_edge, ends_chunk, reached_after}
use Rattle.resync_worker.proofs.SectorLaws.{IsIn, place_in-is, chunk_end-le, chunk_of-more}
use Rattle.dlm_modes.proofs.FirstLaws.{IsFirst, first_such_some}
use Rattle.cluster_model.specs.Copying.{next_for}
use Rattle.cluster_model.specs.Wishes.{is_window}
use Rattle.storage_ways.proofs.Parts.{reached_in}
use Rattle.laws_writes.proofs.Contents.{here_by}
use Rattle.laws_writes.proofs.Places.{chunk_some}

-- a sector between a chunk's bounds is in the chunk
pub chunk_is : (g : Sizes) (c s : ℕ) → 0 < g.chunk → c * g.chunk ≤ s → s < c * g.chunk + g.chunk → chunk_of g s ≡ c
chunk_is g c s some from below =
    let split : s ≡ c * g.chunk + (s - c * g.chunk) = omega arith in
    let rest : s - c * g.chunk < g.chunk = omega arith in
    ap (λ t. t / g.chunk) split ∙ div-mul-add c g.chunk (s - c * g.chunk) rest

place_chunk : (g : Sizes) (c s : ℕ) → 0 < g.chunk → IsIn g c s → chunk_of g s ≡ c
place_chunk g c s some i = let from = i.from in let below = i.below in chunk_is g c s some from (omega arith)

record Here (g : Sizes) (todo : ℕ → Bool) (lo hi c : ℕ) : Type 0 where
  chunk : c < chunks_of g
  wanted : todo c ≡ true
  from : lo ≤ chunk_start g c
  below : chunk_start g c < hi

here_is : (g : Sizes) (todo : ℕ → Bool) (lo hi c : ℕ) → first_chunk_in g todo lo hi ≡ Some c → Here g todo lo hi c
here_is g todo lo hi c found =
    let first : IsFirst (λ d. todo d && holds lo hi (chunk_start g d)) 0 (chunks_of g) c = first_such_some (λ d. todo d && holds lo hi (chunk_start g d)) 0 (chunks_of g) c found in
    let due : (todo c && holds lo hi (chunk_start g c)) ≡ true = first.passes in
    let last = first.below in
    record { chunk = omega arith; wanted = grind (arith, nat_tests); from = grind (arith, nat_tests); below = grind (arith, nat_tests) }

-- The next sector.

next_at : (g : Sizes) (todo : ℕ → Bool) (reached lo hi s : ℕ) (o : Option ℕ) → 0 < g.chunk → first_chunk_in g todo lo hi ≡ o
    → option_map (place_in g reached) o ≡ Some s → o ≡ Some (chunk_of g s)
next_at g todo reached lo hi s None some found e = cc
next_at g todo reached lo hi s (Some c) some found e =
    let place : place_in g reached c ≡ s = cc in
    let there = here_is g todo lo hi c found in
    let inside = subst (λ t. IsIn g c t) place (place_in-is g reached c some there.chunk) in
    ap Some (sym (place_chunk g c s some inside))

-- the sector that is copied next lies in the chunk that is copied
pub next_chunk : (g : Sizes) (p : Option Passing) (r : Option Range) (s : ℕ) → IsGeometry g → next_for g p r ≡ Some s → here_by g p r ≡ Some (chunk_of g s)
next_chunk g None r s i e = cc
next_chunk g (Some p) None s i e = cc
next_chunk g (Some p) (Some r) s i e = next_at g p.todo p.reached r.lo r.hi s (first_chunk_in g p.todo r.lo r.hi) (chunk_some g i) refl e

-- What was settled.

behind_bounds : (g : Sizes) (reached s : ℕ) → is_behind g reached s ≡ true → (chunk_start g (chunk_of g reached) ≤ s) × (s < reached)
behind_bounds g reached s e = (grind (arith, nat_tests), grind (arith, nat_tests))

pub behind_reached : (g : Sizes) (reached s : ℕ) → is_behind g reached s ≡ true → 0 < reached
behind_reached g reached s e = let b = behind_bounds g reached s e in let lt = b.1 in omega arith

-- it lies in the chunk in which what is reached lies
pub behind_chunk : (g : Sizes) (reached s : ℕ) → IsGeometry g → is_behind g reached s ≡ true → chunk_of g s ≡ chunk_of g reached
behind_chunk g reached s i e =
    let b = behind_bounds g reached s e in
    let from = b.0 in
    let lt = b.1 in
    let above : reached < chunk_of g reached * g.chunk + g.chunk = lt-div-mul-add (chunk_some g i) in
    chunk_is g (chunk_of g reached) s (chunk_some g i) from (omega arith)

not_behind_at : (g : Sizes) (reached c s : ℕ) → IsGeometry g → IsIn g c s → place_in g reached c ≡ s → (0 < reached → reached < g.room) → is_behind g reached s ≡ false
not_behind_at g reached c s i inside is within = by (is_behind g reached s) refl
  where
    inner : (b : Bool) → holds (chunk_start g c) (chunk_end g c) reached ≡ b → (if b then reached else chunk_start g c) ≡ s → is_behind g reached s ≡ true → ⊥
    inner true h e t = let lt = (behind_bounds g reached s t).1 in omega arith
    inner false h e t =
        let lt = (behind_bounds g reached s t).1 in
        let room = within (behind_reached g reached s t) in
        let own : c ≡ chunk_of g reached = sym (place_chunk g c s (chunk_some g i) inside) ∙ behind_chunk g reached s i t in
        let above : reached < chunk_of g reached * g.chunk + g.chunk = lt-div-mul-add (chunk_some g i) in
        let top : reached < c * g.chunk + g.chunk = subst (λ x. reached < x * g.chunk + g.chunk) (sym own) above in
        let end : reached < chunk_end g c = omega arith in
        let start : chunk_start g c ≤ reached = omega arith in
        absurd (grind (arith, nat_tests))

    by : (b : Bool) → is_behind g reached s ≡ b → b ≡ false
    by false t = refl
    by true t = absurd (inner (holds (chunk_start g c) (chunk_end g c) reached) refl is t)

not_behind_by : (g : Sizes) (todo : ℕ → Bool) (reached lo hi s : ℕ) (o : Option ℕ) → IsGeometry g → (0 < reached → reached < g.room) → first_chunk_in g todo lo hi ≡ o
    → option_map (place_in g reached) o ≡ Some s → is_behind g reached s ≡ false
not_behind_by g todo reached lo hi s None i within found e = cc
not_behind_by g todo reached lo hi s (Some c) i within found e =
    let place : place_in g reached c ≡ s = cc in
    let there = here_is g todo lo hi c found in
    let inside = subst (λ t. IsIn g c t) place (place_in-is g reached c (chunk_some g i) there.chunk) in
    not_behind_at g reached c s i inside place within

-- the sector that is copied next wasn't settled yet
pub next_not_behind : (g : Sizes) (p : Option Passing) (r : Option Range) (s : ℕ) → IsGeometry g → (0 < reached_in p → reached_in p < g.room) → next_for g p r ≡ Some s → is_behind g (reached_in p) s ≡ false
next_not_behind g None r s i within e = cc
next_not_behind g (Some p) None s i within e = cc
next_not_behind g (Some p) (Some r) s i within e = not_behind_by g p.todo p.reached r.lo r.hi s (first_chunk_in g p.todo r.lo r.hi) i within refl e

-- Windows.

window_edge : (g : Sizes) (r : Range) → is_window g r ≡ true → r.lo < r.hi → is_edge g r.hi ≡ true
window_edge g r e lt = grind (arith, nat_tests)

holds_all : (g : Sizes) (r : Range) (c s : ℕ) → IsGeometry g → is_window g r ≡ true → Here g (λ d. true) r.lo r.hi c → s < g.room → chunk_of g s ≡ c → holds r.lo r.hi s ≡ true
holds_all g r c s i form h room is =
    let from = h.from in
    let below = h.below in
    let edge = window_edge g r form (omega arith) in
    let end : chunk_end g c ≤ r.hi = chunk_end-le g c r.hi (chunk_some g i) edge below in
    let start : chunk_of g s * g.chunk ≤ s = div-mul-le_self s g.chunk in
    let first : c * g.chunk ≤ s = subst (λ x. x * g.chunk ≤ s) is start in
    let above : s < chunk_of g s * g.chunk + g.chunk = lt-div-mul-add (chunk_some g i) in
    let last : s < c * g.chunk + g.chunk = subst (λ x. s < x * g.chunk + g.chunk) is above in
    let inside : s < chunk_end g c = omega arith in
    let lo : r.lo ≤ s = omega arith in
    let hi : s < r.hi = omega arith in
    grind (arith, nat_tests)

-- a window holds each sector of the chunk that is copied in it
pub here_holds : (g : Sizes) (p : Option Passing) (r : Range) (c s : ℕ) → IsGeometry g → is_window g r ≡ true → here_by g p (Some r) ≡ Some c → s < g.room → chunk_of g s ≡ c → holds r.lo r.hi s ≡ true
here_holds g None r c s i form e room is = cc
here_holds g (Some p) r c s i form e room is =
    let h = here_is g p.todo r.lo r.hi c e in
    holds_all g r c s i form (record { chunk = h.chunk; wanted = refl; from = h.from; below = h.below }) room is

-- When a sector is settled.

-- what is settled afterwards was settled before, or is this sector
pub behind_after : (g : Sizes) (s t : ℕ) → IsGeometry g → s < g.room → is_behind g (reached_after g s) t ≡ true → ((t == s) ≡ true) ⊎ ((chunk_of g t ≡ chunk_of g s) × (t < s))
behind_after g s t i room = by (ends_chunk g s) refl
  where
    cases : (chunk_start g (chunk_of g s) ≤ t) × (t < s + 1) → ((t == s) ≡ true) ⊎ ((chunk_of g t ≡ chunk_of g s) × (t < s))
    cases h = by_same (t == s) refl
      where
        by_same : (b : Bool) → (t == s) ≡ b → (b ≡ true) ⊎ ((chunk_of g t ≡ chunk_of g s) × (t < s))
        by_same true e = inl refl
        by_same false e =
            let from = h.0 in
            let below = h.1 in
            let lt : t < s = grind (arith, nat_tests) in
            let above : s < chunk_of g s * g.chunk + g.chunk = lt-div-mul-add (chunk_some g i) in
            inr (chunk_is g (chunk_of g s) t (chunk_some g i) from (omega arith), lt)

    by : (b : Bool) → ends_chunk g s ≡ b → is_behind g (if b then 0 else s + 1) t ≡ true → ((t == s) ≡ true) ⊎ ((chunk_of g t ≡ chunk_of g s) × (t < s))
    by true last e = let lt = behind_reached g 0 t e in absurd (omega arith)
    by false more e =
        let b = behind_bounds g (s + 1) t e in
        let lt = b.1 in
        cases (subst (λ c. c * g.chunk ≤ t) (chunk_of-more g s (chunk_some g i) room more) b.0, lt)

-- what is reached afterwards lies in the chunk of the sector that was settled, and in the room
pub reached_more : (g : Sizes) (s : ℕ) → IsGeometry g → s < g.room → 0 < reached_after g s → (ends_chunk g s ≡ false) × (reached_after g s ≡ s + 1) × (chunk_of g (s + 1) ≡ chunk_of g s) × (s + 1 < g.room)
reached_more g s i room = by (ends_chunk g s) refl
  where
    by : (b : Bool) → ends_chunk g s ≡ b → 0 < (if b then 0 else s + 1) → (b ≡ false) × ((if b then 0 else s + 1) ≡ s + 1) × (chunk_of g (s + 1) ≡ chunk_of g s) × (s + 1 < g.room)
    by true last lt = absurd (omega arith)
    by false more lt =
        let above : s < chunk_of g s * g.chunk + g.chunk = lt-div-mul-add (chunk_some g i) in
        let end : (s + 1 == chunk_end g (chunk_of g s)) ≡ false = more in
        let other : s + 1 ≢ chunk_end g (chunk_of g s) = λ e. grind (arith, nat_tests) in
        (refl, refl, chunk_of-more g s (chunk_some g i) room more, omega arith)
