-- Counting requests in flight by their numbers.
use Rattle.std.proofs.Common.{◌≡◌, ℕ, zero, suc, ◌+◌, ◌-◌, ◌<◌, ◌≤◌, Bool, true, false, if◌then◌else◌, List, [], ◌∷◌, length, Option, Some, None, refl, sym, ap, subst, ◌∙◌, arith}
use Rattle.std.specs.Prelude.{nat_le}
use Rattle.std.proofs.lemmas.Bool.Decides.{nat_tests, leb_tells}
use Rattle.mirror_io.specs.Flight.{write_from, read_from, WritesRise, ReadsRise}
use Rattle.mirror_io.specs.declared.live.LiveWrite.{LiveWrite}
use Rattle.mirror_io.specs.declared.live.LiveRead.{LiveRead}

-- how many have this number or a greater one
abbrev pub writes_left : ℕ → List LiveWrite → ℕ
writes_left k [] = 0
writes_left k (w ∷ ws) = if nat_le k w.number then suc (length ws) else writes_left k ws

abbrev pub reads_left : ℕ → List LiveRead → ℕ
reads_left k [] = 0
reads_left k (r ∷ rs) = if nat_le k r.number then suc (length rs) else reads_left k rs

-- none is left out from the least number on
all_writes : (k lo hi : ℕ) (ws : List LiveWrite) → WritesRise lo hi ws → k ≤ lo → writes_left k ws ≡ length ws
all_writes k lo hi [] rise le = refl
all_writes k lo hi (w ∷ ws) rise le = let low = rise.0 in grind (arith, nat_tests, leb_tells k w.number)

pub writes_left-all : (hi : ℕ) (ws : List LiveWrite) → WritesRise 0 hi ws → writes_left 0 ws ≡ length ws
writes_left-all hi ws rise = all_writes 0 0 hi ws rise (omega arith)

pub writes_left-none : (k : ℕ) (ws : List LiveWrite) → write_from k ws ≡ None → writes_left k ws ≡ 0
writes_left-none k [] is = refl
writes_left-none k (w ∷ ws) is =
    elim (nat_le k w.number) as (λ b. (if b then Some w.number else write_from k ws) ≡ None → (if b then suc (length ws) else writes_left k ws) ≡ 0) [
      | true ↦ λ is. cc
      | false ↦ λ is. writes_left-none k ws is
    ] is

write_from-above : (k j lo hi : ℕ) (ws : List LiveWrite) → WritesRise lo hi ws → write_from k ws ≡ Some j → lo ≤ j
write_from-above k j lo hi [] rise is = cc
write_from-above k j lo hi (w ∷ ws) rise is =
    elim (nat_le k w.number) as (λ b. (if b then Some w.number else write_from k ws) ≡ Some j → lo ≤ j) [
      | true ↦ λ is. let same : w.number ≡ j = cc in let low = rise.0 in omega arith
      | false ↦ λ is. let r = write_from-above k j (w.number + 1) hi ws rise.2 is in let low = rise.0 in omega arith
    ] is

-- past the first of them there is one less
pub writes_left-next : (k j lo hi : ℕ) (ws : List LiveWrite) → WritesRise lo hi ws → write_from k ws ≡ Some j → (writes_left k ws ≡ suc (writes_left (j + 1) ws)) × (j < hi)
writes_left-next k j lo hi [] rise is = cc
writes_left-next k j lo hi (w ∷ ws) rise is =
    let rest = writes_left-next k j (w.number + 1) hi ws rise.2 in
    let above = write_from-above k j (w.number + 1) hi ws rise.2 in
    elim (nat_le k w.number) as (λ b. nat_le k w.number ≡ b → (if b then Some w.number else write_from k ws) ≡ Some j → ((if b then suc (length ws) else writes_left k ws) ≡ suc (if nat_le (j + 1) w.number then suc (length ws) else writes_left (j + 1) ws)) × (j < hi)) [
      | true ↦ λ t is.
          let same : w.number ≡ j = cc in
          let all = all_writes (j + 1) (w.number + 1) hi ws rise.2 (omega arith) in
          let most : w.number < hi = rise.1 in
          (grind (arith, nat_tests, leb_tells (j + 1) w.number), omega arith)
      | false ↦ λ f is.
          let r = rest is in
          let low : w.number + 1 ≤ j = above is in
          (grind (arith, nat_tests, leb_tells (j + 1) w.number, r.0), r.1)
    ] refl is

-- The same of reads.

all_reads : (k lo hi : ℕ) (rs : List LiveRead) → ReadsRise lo hi rs → k ≤ lo → reads_left k rs ≡ length rs
all_reads k lo hi [] rise le = refl
all_reads k lo hi (r ∷ rs) rise le = let low = rise.0 in grind (arith, nat_tests, leb_tells k r.number)

pub reads_left-all : (hi : ℕ) (rs : List LiveRead) → ReadsRise 0 hi rs → reads_left 0 rs ≡ length rs
reads_left-all hi rs rise = all_reads 0 0 hi rs rise (omega arith)

pub reads_left-none : (k : ℕ) (rs : List LiveRead) → read_from k rs ≡ None → reads_left k rs ≡ 0
reads_left-none k [] is = refl
reads_left-none k (r ∷ rs) is =
    elim (nat_le k r.number) as (λ b. (if b then Some r.number else read_from k rs) ≡ None → (if b then suc (length rs) else reads_left k rs) ≡ 0) [
      | true ↦ λ is. cc
      | false ↦ λ is. reads_left-none k rs is
    ] is

read_from-above : (k j lo hi : ℕ) (rs : List LiveRead) → ReadsRise lo hi rs → read_from k rs ≡ Some j → lo ≤ j
read_from-above k j lo hi [] rise is = cc
read_from-above k j lo hi (r ∷ rs) rise is =
    elim (nat_le k r.number) as (λ b. (if b then Some r.number else read_from k rs) ≡ Some j → lo ≤ j) [
      | true ↦ λ is. let same : r.number ≡ j = cc in let low = rise.0 in omega arith
      | false ↦ λ is. let q = read_from-above k j (r.number + 1) hi rs rise.2 is in let low = rise.0 in omega arith
    ] is

-- past the first of them there is one less
pub reads_left-next : (k j lo hi : ℕ) (rs : List LiveRead) → ReadsRise lo hi rs → read_from k rs ≡ Some j → (reads_left k rs ≡ suc (reads_left (j + 1) rs)) × (j < hi)
reads_left-next k j lo hi [] rise is = cc
reads_left-next k j lo hi (r ∷ rs) rise is =
    let rest = reads_left-next k j (r.number + 1) hi rs rise.2 in
    let above = read_from-above k j (r.number + 1) hi rs rise.2 in
    elim (nat_le k r.number) as (λ b. nat_le k r.number ≡ b → (if b then Some r.number else read_from k rs) ≡ Some j → ((if b then suc (length rs) else reads_left k rs) ≡ suc (if nat_le (j + 1) r.number then suc (length rs) else reads_left (j + 1) rs)) × (j < hi)) [
      | true ↦ λ t is.
          let same : r.number ≡ j = cc in
          let all = all_reads (j + 1) (r.number + 1) hi rs rise.2 (omega arith) in
          let most : r.number < hi = rise.1 in
          (grind (arith, nat_tests, leb_tells (j + 1) r.number), omega arith)
      | false ↦ λ f is.
          let q = rest is in
          let low : r.number + 1 ≤ j = above is in
          (grind (arith, nat_tests, leb_tells (j + 1) r.number, q.0), q.1)
    ] refl is
