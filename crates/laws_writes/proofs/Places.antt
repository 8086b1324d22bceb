-- Chunks, pages, and the sectors of a chunk that were settled in a window.
use Rattle.std.proofs.Common.{◌≡◌, ◌≢◌, inl, inr, ℕ, ◌+◌, ◌-◌, ◌*◌, ◌/◌, ◌<◌, ◌≤◌, if◌then◌else◌, Bool, true, false, Option, Some, None, sym, ap, subst, ◌∙◌, arith}
use Rattle.std.specs.Prelude.{option_map}
use Rattle.std.proofs.Math.Nat.{div-mul-le_self, lt-div-mul-add}
use Rattle.std.proofs.lemmas.Bool.{cases_lt}
use Rattle.std.proofs.lemmas.Bool.Decides.{nat_tests}
use Rattle.std.proofs.lemmas.Nat.{div-mul-add}
use Rattle.mdc_types.specs.Geometry.{Sizes, IsGeometry, chunk_size_test, chunk_of, chunk_start, chunk_end, chunks_of, page_of, pages_of, parts_of}
use Rattle.mdc_types.specs.Ranges.{holds}
use Rattle.mdc_types.specs.declared.numbers.Range.{Range}
use Rattle.resync_worker.specs.Copying.{Passing}
use Rattle.resync_worker.specs.Sectors.{first_chunk_in, place_in, is_behind, ends_chunk}
use Rattle.resync_worker.proofs.SectorLaws.{chunk_of-lt}
use Rattle.cluster_model.specs.Copying.{next_for}
use Rattle.storage_ways.proofs.Parts.{Part, chunk_in, has_pass, reached_in}
use Rattle.laws_writes.proofs.Contents.{is_settled}

some_size : (c : ℕ) → chunk_size_test c ≡ true → 0 < c
some_size c e = grind (arith, nat_tests)

pub chunk_some : (g : Sizes) → IsGeometry g → 0 < g.chunk
chunk_some g i = some_size g.chunk i.chunk

pub chunk_lt : (g : Sizes) (s : ℕ) → IsGeometry g → s < g.room → chunk_of g s < chunks_of g
chunk_lt g s i lt = chunk_of-lt g s (chunk_some g i) lt

part_lt : (s count size : ℕ) → 0 < size → s < count → s / size < parts_of count size
part_lt s count size some lt = chunk_of-lt (record { legs = 0; sectors = 0; room = count; chunk = size; second = false }) s some lt

pub page_lt : (g : Sizes) (c : ℕ) → c < chunks_of g → page_of c < pages_of g
page_lt g c lt = elim (cases_lt c 2048) [
  | inl low ↦ elim (cases_lt 2048 (chunks_of g)) [
    | inl many ↦ grind (arith, nat_tests)
    | inr few ↦ grind (arith, nat_tests)
  ]
  | inr high ↦
      let part : (c - 2048) / 4096 < parts_of (chunks_of g - 2048) 4096 = part_lt (c - 2048) (chunks_of g - 2048) 4096 (omega arith) (omega (arith, lt, high)) in
      grind (arith, nat_tests)
]

-- What was settled of the chunk that is copied.

behind : (g : Sizes) (reached t s : ℕ) → reached ≡ s → chunk_of g t ≡ chunk_of g s → t < s → is_behind g reached t ≡ true
behind g reached t s is same lt =
    let chunk : chunk_of g t ≡ chunk_of g reached = same ∙ sym (ap (chunk_of g) is) in
    let from : chunk_of g t * g.chunk ≤ t = div-mul-le_self t g.chunk in
    let start : chunk_of g reached * g.chunk ≤ t = subst (λ c. c * g.chunk ≤ t) chunk from in
    let below : t < reached = omega (arith, is, lt) in
    grind (arith, nat_tests)

at_start : (g : Sizes) (c t s : ℕ) → 0 < g.chunk → chunk_start g c ≡ s → chunk_of g t ≡ chunk_of g s → t < s → ⊥
at_start g c t s some is same lt =
    let own : chunk_of g s ≡ c = ap (chunk_of g) (sym is) ∙ ap (λ x. x / g.chunk) (omega arith) ∙ div-mul-add c g.chunk 0 some in
    let from : chunk_of g t * g.chunk ≤ t = div-mul-le_self t g.chunk in
    let start : c * g.chunk ≤ t = subst (λ x. x * g.chunk ≤ t) (same ∙ own) from in
    omega (arith, start, is, lt)

behind_in : (g : Sizes) (reached c t s : ℕ) → 0 < g.chunk → place_in g reached c ≡ s → chunk_of g t ≡ chunk_of g s → t < s → is_behind g reached t ≡ true
behind_in g reached c t s some is same lt = by (holds (chunk_start g c) (chunk_end g c) reached) is
  where
    by : (b : Bool) → (if b then reached else chunk_start g c) ≡ s → is_behind g reached t ≡ true
    by true is = behind g reached t s is same lt
    by false is = absurd (at_start g c t s some is same lt)

behind_at : (g : Sizes) (todo : ℕ → Bool) (reached t s : ℕ) (c : Option ℕ) → 0 < g.chunk
    → option_map (place_in g reached) c ≡ Some s → chunk_of g t ≡ chunk_of g s → t < s → is_behind g reached t ≡ true
behind_at g todo reached t s None some is same lt = cc
behind_at g todo reached t s (Some c) some is same lt = let place : place_in g reached c ≡ s = cc in behind_in g reached c t s some place same lt

behind_for : (g : Sizes) (p : Option Passing) (r : Option Range) (t s : ℕ) → 0 < g.chunk → next_for g p r ≡ Some s
    → chunk_of g t ≡ chunk_of g s → t < s → is_behind g (reached_in p) t ≡ true
behind_for g None r t s some is same lt = cc
behind_for g (Some p) None t s some is same lt = cc
behind_for g (Some p) (Some r) t s some is same lt = behind_at g p.todo p.reached t s (first_chunk_in g p.todo r.lo r.hi) some is same lt

-- sectors of the chunk before the one that is copied next were settled
pub before_next : (w : Part) (n t s : ℕ) → IsGeometry w.geometry → has_pass (w.copy n) ≡ true → next_for w.geometry (w.copy n).pass (w.copy n).window ≡ Some s
    → chunk_in w t ≡ chunk_in w s → t < s → is_settled w n t ≡ true
before_next w n t s i pass is same lt =
    let there = behind_for w.geometry (w.copy n).pass (w.copy n).window t s (chunk_some w.geometry i) is same lt in grind arith

-- the last sector of a chunk has none of the room behind it
pub past_last : (g : Sizes) (t s : ℕ) → IsGeometry g → ends_chunk g s ≡ true → chunk_of g t ≡ chunk_of g s → t < g.room → t ≢ s → t < s
past_last g t s i last same below other =
    let above : t < chunk_of g t * g.chunk + g.chunk = lt-div-mul-add (chunk_some g i) in
    let top : t < chunk_of g s * g.chunk + g.chunk = subst (λ x. t < x * g.chunk + g.chunk) same above in
    let end : s + 1 ≡ chunk_end g (chunk_of g s) = grind (arith, nat_tests) in
    omega (arith, top, end, below, other)
