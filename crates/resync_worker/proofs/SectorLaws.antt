-- Chunks and sectors: where a chunk begins and ends, and which one is the first in a window.
use Rattle.std.proofs.Common.{◌⊎◌, inl, inr, ◌≡◌, ℕ, zero, suc, ◌+◌, ◌-◌, ◌*◌, ◌/◌, ◌%◌, ◌<◌, ◌≤◌, List, length, get_or, Bool, true, false, ◌&&◌, Option, Some, None, refl, ap, ◌∙◌, subst, arith, if◌then◌else◌}
use Rattle.std.proofs.Math.Nat.{div-mul-le_self, lt-div-mul-add, mul-le-mul_right, suc-mul, div-add-mod'}
use Rattle.std.proofs.lemmas.Bool.Decides.{nat_tests}
use Rattle.std.proofs.lemmas.Grind.{div_ceil_times}
use Rattle.std.proofs.lemmas.Nat.{div-mul-add}
use Rattle.std.specs.Int.{div_ceil}
use Rattle.std.specs.Prelude.{nat_lt, IfSome}
use Rattle.dlm_modes.specs.First.{first_such}
use Rattle.dlm_modes.proofs.FirstLaws.{IsFirst, first_such_some, first_such_none}
use Rattle.mdc_types.specs.Geometry.{Sizes, parts_of, chunks_of, chunk_of, chunk_start, chunk_end}
use Rattle.mdc_types.specs.Ranges.{holds}
use Rattle.resync_worker.specs.Sectors.{first_chunk_in, place_in, is_edge, ends_chunk, reached_after, is_behind}

-- Parts of a size.

pub le_or_lt : (a b : ℕ) → (a ≤ b) ⊎ (b < a)
le_or_lt a b = grind (arith, nat_tests)

-- a part begins below the count
pub start-lt : (c count size : ℕ) → 0 < size → c < parts_of count size → c * size < count
start-lt c count size some lt =
    let whole : suc c * size ≤ parts_of count size * size = mul-le-mul_right size lt in
    let below : parts_of count size * size ≤ count + (size - 1) = div-mul-le_self (count + (size - 1)) size in
    let next : suc c * size ≡ c * size + size = suc-mul c size in
    omega arith

-- parts from this number on begin at or after the count
pub start-le : (c count size : ℕ) → 0 < size → parts_of count size ≤ c → count ≤ c * size
start-le c count size some le =
    let whole : parts_of count size * size ≤ c * size = mul-le-mul_right size le in
    let above : count + (size - 1) < parts_of count size * size + size = lt-div-mul-add some in
    omega arith

-- a place below the count is in one of the parts
pub part-lt : (s count size : ℕ) → 0 < size → s < count → s / size < parts_of count size
part-lt s count size some lt = elim (le_or_lt (parts_of count size) (s / size)) [
  | inl le ↦
      let above : count ≤ s / size * size = start-le (s / size) count size some le in
      let below : s / size * size ≤ s = div-mul-le_self s size in
      absurd (omega arith)
  | inr below ↦ below
]

-- the number of parts is the quotient, rounded up
ceil-unique : (a b m n : ℕ) → a ≤ m * b → m * b < a + b → a ≤ n * b → n * b < a + b → m ≤ n
ceil-unique a b m n above below over under = elim (le_or_lt m n) [
  | inl le ↦ le
  | inr lt ↦
      let whole : suc n * b ≤ m * b = mul-le-mul_right b lt in
      let next : suc n * b ≡ n * b + b = suc-mul n b in
      absurd (omega arith)
]

pub div_ceil-is : (count size : ℕ) → 0 < size → div_ceil count size ≡ parts_of count size
div_ceil-is count size some =
    let ceil = div_ceil_times count size some in
    let over : count ≤ parts_of count size * size = start-le (parts_of count size) count size some (omega arith) in
    let self : parts_of count size * size ≤ count + (size - 1) = div-mul-le_self (count + (size - 1)) size in
    let under : parts_of count size * size < count + size = omega arith in
    let le = ceil-unique count size (div_ceil count size) (parts_of count size) ceil.0 ceil.1 over under in
    let ge = ceil-unique count size (parts_of count size) (div_ceil count size) over under ceil.0 ceil.1 in
    omega arith

-- Sectors.

-- the chunk of a sector of the room
pub chunk_of-lt : (g : Sizes) (s : ℕ) → 0 < g.chunk → s < g.room → chunk_of g s < chunks_of g
chunk_of-lt g s some lt = part-lt s g.room g.chunk some lt

-- it goes beyond the sector
pub lt-chunk_end : (g : Sizes) (s : ℕ) → 0 < g.chunk → s < g.room → s < chunk_end g (chunk_of g s)
lt-chunk_end g s some lt = let above : s < s / g.chunk * g.chunk + g.chunk = lt-div-mul-add some in omega arith

-- the next sector of a chunk is a sector of it, in the room
pub record IsIn (g : Sizes) (c s : ℕ) : Type 0 where
  pub from : chunk_start g c ≤ s
  pub below : s < chunk_end g c

pub place_in-is : (g : Sizes) (reached c : ℕ) → 0 < g.chunk → c < chunks_of g → IsIn g c (place_in g reached c)
place_in-is g reached c some lt =
    let start : c * g.chunk < g.room = start-lt c g.room g.chunk some lt in
    elim (holds (chunk_start g c) (chunk_end g c) reached) as (λ b. holds (chunk_start g c) (chunk_end g c) reached ≡ b → IsIn g c (if b then reached else chunk_start g c)) [
      | true ↦ λ e. record { from = grind (arith, nat_tests); below = grind (arith, nat_tests) }
      | false ↦ λ e. record { from = omega arith; below = omega arith }
    ] refl

-- First numbers.

-- what is found is the first that passes
first_such_before : (p : ℕ → Bool) (i n k : ℕ) → first_such p i n ≡ Some k → (j : ℕ) → i ≤ j → j < k → p j ≡ false
unfolding first_such
first_such_before p i zero k is j le lt = cc
first_such_before p i (suc n) k is j le lt =
    elim (p i) as (λ b. p i ≡ b → (if b then Some i else first_such p (i + 1) n) ≡ Some k → p j ≡ false) [
      | true ↦ λ t is. let e : i ≡ k = cc in absurd (omega arith)
      | false ↦ λ t is. elim (le_or_lt (i + 1) j) [
        | inl above ↦ first_such_before p (i + 1) n k is j above lt
        | inr below ↦ let same : i ≡ j = omega arith in subst (λ m. p m ≡ false) same t
      ]
    ] refl is

first_such-is : (p : ℕ → Bool) (i n k : ℕ) → p k ≡ true → i ≤ k → k < i + n → ((j : ℕ) → i ≤ j → j < k → p j ≡ false) → first_such p i n ≡ Some k
first_such-is p i n k passes le lt before =
    elim (first_such p i n) as (λ o. first_such p i n ≡ o → o ≡ Some k) [
      | None ↦ λ is. let fails : p k ≡ false = first_such_none p i n is k le lt in cc
      | Some m ↦ λ is.
          let first : IsFirst p i n m = first_such_some p i n m is in
          let same : m ≡ k = elim (le_or_lt k m) [
            | inl above ↦ elim (le_or_lt m k) [
              | inl below ↦ omega arith
              | inr over ↦ let fails : p k ≡ false = first_such_before p i n m is k le over in cc
            ]
            | inr under ↦ let fails : p m ≡ false = before m first.from under in let holds : p m ≡ true = first.passes in cc
          ] in
          ap Some same
    ] refl

first_such-is_none : (p : ℕ → Bool) (i n : ℕ) → ((j : ℕ) → i ≤ j → j < i + n → p j ≡ false) → first_such p i n ≡ None
first_such-is_none p i n none =
    elim (first_such p i n) as (λ o. first_such p i n ≡ o → o ≡ None) [
      | None ↦ λ is. refl
      | Some m ↦ λ is.
          let first : IsFirst p i n m = first_such_some p i n m is in
          let fails : p m ≡ false = none m first.from first.below in
          let holds : p m ≡ true = first.passes in
          cc
    ] refl

-- Windows.

-- the chunk, if it begins before hi
abbrev pub before : Sizes → ℕ → Option ℕ → Option ℕ
before g hi None = None
before g hi (Some c) = if nat_lt (chunk_start g c) hi then Some c else None

-- whether a chunk is to be copied and begins in the window
abbrev is_due : Sizes → (ℕ → Bool) → ℕ → ℕ → ℕ → Bool
is_due g todo lo hi c = todo c && holds lo hi (chunk_start g c)

due-below : (g : Sizes) (todo : ℕ → Bool) (lo hi c : ℕ) → 0 < g.chunk → c < parts_of lo g.chunk → is_due g todo lo hi c ≡ false
due-below g todo lo hi c some lt = let start : c * g.chunk < lo = start-lt c lo g.chunk some lt in grind (arith, nat_tests)

due-above : (g : Sizes) (todo : ℕ → Bool) (lo hi c : ℕ) → hi ≤ chunk_start g c → is_due g todo lo hi c ≡ false
due-above g todo lo hi c le = grind (arith, nat_tests)

due-unwanted : (g : Sizes) (todo : ℕ → Bool) (lo hi c : ℕ) → todo c ≡ false → is_due g todo lo hi c ≡ false
due-unwanted g todo lo hi c unwanted = rw unwanted refl

due-wanted : (g : Sizes) (todo : ℕ → Bool) (lo hi c : ℕ) → todo c ≡ true → lo ≤ chunk_start g c → chunk_start g c < hi → is_due g todo lo hi c ≡ true
due-wanted g todo lo hi c wanted le lt = grind (arith, nat_tests)

-- the first chunk in the window is the first from the window's start on, where that begins before its end
pub first_chunk_in-from : (g : Sizes) (todo : ℕ → Bool) (lo hi : ℕ) → 0 < g.chunk → first_chunk_in g todo lo hi ≡ before g hi (first_such todo (parts_of lo g.chunk) (chunks_of g - parts_of lo g.chunk))
first_chunk_in-from g todo lo hi some =
    let from = parts_of lo g.chunk in
    let count = chunks_of g in
    elim (first_such todo from (count - from)) as (λ o. first_such todo from (count - from) ≡ o → first_chunk_in g todo lo hi ≡ before g hi o) [
      | None ↦ λ is. first_such-is_none (is_due g todo lo hi) 0 count (λ j le lt. elim (le_or_lt from j) [
        | inl above ↦ due-unwanted g todo lo hi j (first_such_none todo from (count - from) is j above (omega arith))
        | inr below ↦ due-below g todo lo hi j some below
      ])
      | Some c ↦ λ is.
          let first : IsFirst todo from (count - from) c = first_such_some todo from (count - from) c is in
          let start : lo ≤ c * g.chunk = start-le c lo g.chunk some first.from in
          let earlier : (j : ℕ) → j < c → is_due g todo lo hi j ≡ false = λ j lt. elim (le_or_lt from j) [
            | inl above ↦ due-unwanted g todo lo hi j (first_such_before todo from (count - from) c is j above lt)
            | inr below ↦ due-below g todo lo hi j some below
          ] in
          elim (le_or_lt hi (chunk_start g c)) as (λ _. first_chunk_in g todo lo hi ≡ before g hi (Some c)) [
            | inl over ↦
                let none : first_chunk_in g todo lo hi ≡ None = first_such-is_none (is_due g todo lo hi) 0 count (λ j le lt. elim (le_or_lt c j) [
                  | inl above ↦ let rises : c * g.chunk ≤ j * g.chunk = mul-le-mul_right g.chunk above in due-above g todo lo hi j (omega arith)
                  | inr below ↦ earlier j below
                ]) in
                let past : nat_lt (chunk_start g c) hi ≡ false = grind (arith, nat_tests) in
                rw past none
            | inr within ↦
                let found : first_chunk_in g todo lo hi ≡ Some c = first_such-is (is_due g todo lo hi) 0 count c (due-wanted g todo lo hi c first.passes start within) (omega arith) (omega arith) (λ j le lt. earlier j lt) in
                let inside : nat_lt (chunk_start g c) hi ≡ true = grind (arith, nat_tests) in
                rw inside found
          ]
    ] refl

-- the same by the flags
pub first_chunk_in-flags : (g : Sizes) (flags : List Bool) (lo hi from : ℕ) (o : Option ℕ) → 0 < g.chunk → length flags ≡ chunks_of g → from ≡ div_ceil lo g.chunk → o ≡ first_such (λ k. get_or flags k false) from (length flags - from) → first_chunk_in g (λ k. get_or flags k false) lo hi ≡ before g hi o
first_chunk_in-flags g flags lo hi from o some count start is = rw (is, count, start, div_ceil-is lo g.chunk some) (first_chunk_in-from g (λ k. get_or flags k false) lo hi some)

-- what is found is a chunk of the array
pub first_such-lt : (p : ℕ → Bool) (i n k : ℕ) → first_such p i (n - i) ≡ Some k → k < n
first_such-lt p i n k is = let first : IsFirst p i (n - i) k = first_such_some p i (n - i) k is in let from = first.from in let below = first.below in omega arith

pub first_such-IfSome : (p : ℕ → Bool) (i n : ℕ) → IfSome (first_such p i (n - i)) (λ k. k < n)
first_such-IfSome p i n =
    elim (first_such p i (n - i)) as (λ o. first_such p i (n - i) ≡ o → IfSome o (λ k. k < n)) [
      | None ↦ λ is. tt
      | Some k ↦ λ is. first_such-lt p i n k is
    ] refl

-- What comes next.

edge_cases : (g : Sizes) (hi : ℕ) → is_edge g hi ≡ true → (hi % g.chunk ≡ 0) ⊎ (hi ≡ g.room)
edge_cases g hi edge = grind (arith, nat_tests)

-- a chunk that begins before an edge ends at it or before
pub chunk_end-le : (g : Sizes) (c hi : ℕ) → 0 < g.chunk → is_edge g hi ≡ true → chunk_start g c < hi → chunk_end g c ≤ hi
chunk_end-le g c hi some edge lt = elim (edge_cases g hi edge) [
  | inr room ↦ omega arith
  | inl whole ↦
      let parts : hi / g.chunk * g.chunk + hi % g.chunk ≡ hi = div-add-mod' hi g.chunk in
      elim (le_or_lt (hi / g.chunk) c) [
        | inl over ↦ let above : hi / g.chunk * g.chunk ≤ c * g.chunk = mul-le-mul_right g.chunk over in absurd (omega arith)
        | inr within ↦
            let below : suc c * g.chunk ≤ hi / g.chunk * g.chunk = mul-le-mul_right g.chunk within in
            let next : suc c * g.chunk ≡ c * g.chunk + g.chunk = suc-mul c g.chunk in
            omega arith
      ]
]

-- the sector that comes next in a window: its chunk is to be copied, and it is in the chunk and the window
pub record IsNext (g : Sizes) (todo : ℕ → Bool) (lo hi c s : ℕ) : Type 0 where
  pub chunk : c < chunks_of g
  pub wanted : todo c ≡ true
  pub sector : IsIn g c s
  pub from : lo ≤ s
  -- where the window ends at an edge
  pub below : is_edge g hi ≡ true → s < hi

pub place_in-next : (g : Sizes) (todo : ℕ → Bool) (reached lo hi c : ℕ) → 0 < g.chunk → first_chunk_in g todo lo hi ≡ Some c → IsNext g todo lo hi c (place_in g reached c)
place_in-next g todo reached lo hi c some found =
    let first : IsFirst (is_due g todo lo hi) 0 (chunks_of g) c = first_such_some (is_due g todo lo hi) 0 (chunks_of g) c found in
    let due : is_due g todo lo hi c ≡ true = first.passes in
    let last = first.below in
    let within : c < chunks_of g = omega arith in
    let sector = place_in-is g reached c some within in
    let start : lo ≤ chunk_start g c = grind (arith, nat_tests) in
    let ends : chunk_start g c < hi = grind (arith, nat_tests) in
    let from = sector.from in
    let below = sector.below in
    record {
      chunk = within;
      wanted = grind (arith, nat_tests);
      sector = sector;
      from = omega arith;
      below = λ edge. let end : chunk_end g c ≤ hi = chunk_end-le g c hi some edge ends in omega arith;
    }

-- after a restart a chunk begins at its first sector
pub place_in-restarted : (g : Sizes) (c : ℕ) → place_in g 0 c ≡ chunk_start g c
place_in-restarted g c = grind (arith, nat_tests)

-- after a sector that doesn't end its chunk comes the next one of the chunk
pub place_in-settled : (g : Sizes) (s : ℕ) → 0 < g.chunk → s < g.room → ends_chunk g s ≡ false → place_in g (reached_after g s) (chunk_of g s) ≡ s + 1
place_in-settled g s some lt more =
    let end : s < chunk_end g (chunk_of g s) = lt-chunk_end g s some lt in
    let start : s / g.chunk * g.chunk ≤ s = div-mul-le_self s g.chunk in
    grind (arith, nat_tests)

-- What was settled of a chunk that isn't completed.

pub is_behind-restarted : (g : Sizes) (s : ℕ) → is_behind g 0 s ≡ false
is_behind-restarted g s = grind (arith, nat_tests)

more_of : (g : Sizes) (s : ℕ) → ends_chunk g s ≡ false → s < chunk_end g (chunk_of g s) → s + 1 < chunk_end g (chunk_of g s)
more_of g s more lt = grind (arith, nat_tests)

pub chunk_of-more : (g : Sizes) (s : ℕ) → 0 < g.chunk → s < g.room → ends_chunk g s ≡ false → chunk_of g (s + 1) ≡ chunk_of g s
chunk_of-more g s some lt more =
    let end : s + 1 < chunk_end g (chunk_of g s) = more_of g s more (lt-chunk_end g s some lt) in
    let start : s / g.chunk * g.chunk ≤ s = div-mul-le_self s g.chunk in
    let split : s + 1 ≡ s / g.chunk * g.chunk + (s + 1 - s / g.chunk * g.chunk) = omega arith in
    let rest : s + 1 - s / g.chunk * g.chunk < g.chunk = omega arith in
    ap (λ t. t / g.chunk) split ∙ div-mul-add (s / g.chunk) g.chunk (s + 1 - s / g.chunk * g.chunk) rest

-- after a sector that doesn't end its chunk: the chunk's sectors up to that one
pub is_behind-settled : (g : Sizes) (s t : ℕ) → 0 < g.chunk → s < g.room → ends_chunk g s ≡ false → is_behind g (reached_after g s) t ≡ holds (chunk_start g (chunk_of g s)) (s + 1) t
is_behind-settled g s t some lt more = rw (more, chunk_of-more g s some lt more) refl
