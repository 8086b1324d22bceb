-- Requests in flight stand by number: what this tells of look-ups and of changes at a place.
use Rattle.std.proofs.Common.{◌≡◌, ℕ, zero, suc, ◌+◌, ◌<◌, ◌≤◌, ◌==◌, Bool, true, false, List, [], ◌∷◌, ◌++◌, Some, None, length, get_or, set, IsSome, is_some, refl, ap, ◌∙◌, arith, eq-eqb, if◌then◌else◌}
use Rattle.std.proofs.lemmas.Bool.{ne_eqb}
use Rattle.std.specs.List.{HoldsAt}
use Rattle.std.proofs.lemmas.Bool.Decides.{nat_tests, eqb_tells}
use Rattle.std.specs.Prelude.{remove, nat_le}
use Rattle.mdc_types.specs.Ranges.{holds}
use Rattle.mirror_io.specs.declared.live.LiveWrite.{LiveWrite}
use Rattle.mirror_io.specs.declared.live.LiveRead.{LiveRead}
use Rattle.mirror_io.specs.Flight.{write_in, read_in, without_write, without_read, start_in, done_in, started, done_on, write_within, write_from, read_from, WritesRise, ReadsRise}

WritesRise-lower : (lo from hi : ℕ) (ws : List LiveWrite) → WritesRise from hi ws → lo ≤ from → WritesRise lo hi ws
WritesRise-lower lo from hi [] rise le = tt
WritesRise-lower lo from hi (w ∷ ws) rise le = (omega (arith, rise.0), rise.1, rise.2)

-- one more, with the next number
pub WritesRise-push : (lo hi : ℕ) (ws : List LiveWrite) (w : LiveWrite) → WritesRise lo hi ws → lo ≤ hi → w.number ≡ hi → WritesRise lo (hi + 1) (ws ++ w ∷ [])
WritesRise-push lo hi [] w rise le is = (omega arith, omega arith, tt)
WritesRise-push lo hi (y ∷ ws) w rise le is = (rise.0, omega (arith, rise.1), WritesRise-push (y.number + 1) hi ws w rise.2 (omega (arith, rise.1)) is)

WritesRise-if : (b : Bool) (lo hi : ℕ) (xs ys : List LiveWrite) → WritesRise lo hi xs → WritesRise lo hi ys → WritesRise lo hi (if b then xs else ys)
WritesRise-if true lo hi xs ys first second = first
WritesRise-if false lo hi xs ys first second = second

pub WritesRise-without : (k lo hi : ℕ) (ws : List LiveWrite) → WritesRise lo hi ws → WritesRise lo hi (without_write k ws)
WritesRise-without k lo hi [] rise = tt
WritesRise-without k lo hi (w ∷ ws) rise =
    let rest : WritesRise (w.number + 1) hi (without_write k ws) = WritesRise-without k (w.number + 1) hi ws rise.2 in
    WritesRise-if (w.number == k) lo hi (without_write k ws) (w ∷ without_write k ws) (WritesRise-lower lo (w.number + 1) hi _ rest (omega (arith, rise.0))) (rise.0, rise.1, rest)

-- none has a number below the first
pub write_in-below : (k lo hi : ℕ) (ws : List LiveWrite) → WritesRise lo hi ws → k < lo → write_in k ws ≡ None
write_in-below k lo hi [] rise lt = refl
write_in-below k lo hi (w ∷ ws) rise lt = grind (arith, rise, write_in-below k (w.number + 1) hi ws)

-- none has a number that was not given yet
pub write_in-beyond : (k lo hi : ℕ) (ws : List LiveWrite) → WritesRise lo hi ws → hi ≤ k → write_in k ws ≡ None
write_in-beyond k lo hi [] rise le = refl
write_in-beyond k lo hi (w ∷ ws) rise le = grind (arith, rise, write_in-beyond k (w.number + 1) hi ws)

without_write-below : (k lo hi : ℕ) (ws : List LiveWrite) → WritesRise lo hi ws → k < lo → without_write k ws ≡ ws
without_write-below k lo hi [] rise lt = refl
without_write-below k lo hi (w ∷ ws) rise lt = grind (arith, rise, without_write-below k (w.number + 1) hi ws)

-- the number at a place is not below the first
write_in-at_least : (lo hi : ℕ) (ws : List LiveWrite) (i : ℕ) (d : LiveWrite) → WritesRise lo hi ws → i < length ws → lo ≤ (get_or ws i d).number
write_in-at_least lo hi [] i d rise lt = absurd (omega arith)
write_in-at_least lo hi (w ∷ ws) zero d rise lt = rise.0
write_in-at_least lo hi (w ∷ ws) (suc i) d rise lt = omega (arith, rise.0, write_in-at_least (w.number + 1) hi ws i d rise.2 (omega arith))

-- the one at a place is found by its number
pub write_in-at : (k lo hi : ℕ) (ws : List LiveWrite) (i : ℕ) (w : LiveWrite) → WritesRise lo hi ws → i < length ws → w ≡ get_or ws i w → w.number ≡ k → write_in k ws ≡ Some w
write_in-at k lo hi [] i w rise lt is number = absurd (omega arith)
write_in-at k lo hi (y ∷ ws) zero w rise lt is number = grind arith
write_in-at k lo hi (y ∷ ws) (suc i) w rise lt is number = grind (arith, rise, write_in-at k (y.number + 1) hi ws i w, write_in-at_least (y.number + 1) hi ws i w)

pub without_write-at : (k lo hi : ℕ) (ws : List LiveWrite) (i : ℕ) → WritesRise lo hi ws → i < length ws → HoldsAt (λ x. x.number ≡ k) ws i → without_write k ws ≡ remove ws i
without_write-at k lo hi [] i rise lt number = absurd (omega arith)
without_write-at k lo hi (y ∷ ws) zero rise lt number =
    let same : (y.number == k) ≡ true = eq-eqb y.number k (number y) in
    rw same (without_write-below k (y.number + 1) hi ws rise.2 (omega (arith, number y)))
without_write-at k lo hi (y ∷ ws) (suc i) rise lt number =
    let other : (y.number == k) ≡ false = ne_eqb y.number k (λ same. omega (arith, number y, write_in-at_least (y.number + 1) hi ws i y rise.2 (omega arith))) in
    rw other (ap (λ rest. y ∷ rest) (without_write-at k (y.number + 1) hi ws i rise.2 (omega arith) number))

-- another write of the same number at a place
pub WritesRise-set : (lo hi : ℕ) (ws : List LiveWrite) (i : ℕ) (w new : LiveWrite) → WritesRise lo hi ws → i < length ws → w ≡ get_or ws i w → new.number ≡ w.number → WritesRise lo hi (set ws i new)
WritesRise-set lo hi [] i w new rise lt is same = absurd (omega arith)
WritesRise-set lo hi (x ∷ ws) zero w new rise lt is same =
    let e : new.number ≡ x.number = same ∙ ap (λ y. y.number) is in
    (omega (arith, e, rise.0), omega (arith, e, rise.1), rw e rise.2)
WritesRise-set lo hi (x ∷ ws) (suc i) w new rise lt is same = (rise.0, rise.1, WritesRise-set (x.number + 1) hi ws i w new rise.2 (omega arith) is same)

start_in-below : (k lo hi : ℕ) (ws : List LiveWrite) → WritesRise lo hi ws → k < lo → start_in k ws ≡ ws
start_in-below k lo hi [] rise lt = refl
start_in-below k lo hi (w ∷ ws) rise lt = grind (arith, rise, start_in-below k (w.number + 1) hi ws)

pub start_in-at : (k lo hi : ℕ) (ws : List LiveWrite) (i : ℕ) (w : LiveWrite) → WritesRise lo hi ws → i < length ws → w ≡ get_or ws i w → w.number ≡ k → start_in k ws ≡ set ws i (started w)
start_in-at k lo hi [] i w rise lt is number = absurd (omega arith)
start_in-at k lo hi (x ∷ ws) zero w rise lt is number = grind (arith, rise, start_in-below k (x.number + 1) hi ws)
start_in-at k lo hi (x ∷ ws) (suc i) w rise lt is number = grind (arith, rise, start_in-at k (x.number + 1) hi ws i w, write_in-at_least (x.number + 1) hi ws i w)

done_in-below : (k l lo hi : ℕ) (ws : List LiveWrite) → WritesRise lo hi ws → k < lo → done_in k l ws ≡ ws
done_in-below k l lo hi [] rise lt = refl
done_in-below k l lo hi (w ∷ ws) rise lt = grind (arith, rise, done_in-below k l (w.number + 1) hi ws)

pub done_in-at : (k l lo hi : ℕ) (ws : List LiveWrite) (i : ℕ) (w : LiveWrite) → WritesRise lo hi ws → i < length ws → w ≡ get_or ws i w → w.number ≡ k → done_in k l ws ≡ set ws i (done_on l w)
done_in-at k l lo hi [] i w rise lt is number = absurd (omega arith)
done_in-at k l lo hi (x ∷ ws) zero w rise lt is number = grind (arith, rise, done_in-below k l (x.number + 1) hi ws)
done_in-at k l lo hi (x ∷ ws) (suc i) w rise lt is number = grind (arith, rise, done_in-at k l (x.number + 1) hi ws i w, write_in-at_least (x.number + 1) hi ws i w)

ReadsRise-lower : (lo from hi : ℕ) (rs : List LiveRead) → ReadsRise from hi rs → lo ≤ from → ReadsRise lo hi rs
ReadsRise-lower lo from hi [] rise le = tt
ReadsRise-lower lo from hi (r ∷ rs) rise le = (omega (arith, rise.0), rise.1, rise.2)

-- one more, with the next number
pub ReadsRise-push : (lo hi : ℕ) (rs : List LiveRead) (r : LiveRead) → ReadsRise lo hi rs → lo ≤ hi → r.number ≡ hi → ReadsRise lo (hi + 1) (rs ++ r ∷ [])
ReadsRise-push lo hi [] r rise le is = (omega arith, omega arith, tt)
ReadsRise-push lo hi (y ∷ rs) r rise le is = (rise.0, omega (arith, rise.1), ReadsRise-push (y.number + 1) hi rs r rise.2 (omega (arith, rise.1)) is)

ReadsRise-if : (b : Bool) (lo hi : ℕ) (xs ys : List LiveRead) → ReadsRise lo hi xs → ReadsRise lo hi ys → ReadsRise lo hi (if b then xs else ys)
ReadsRise-if true lo hi xs ys first second = first
ReadsRise-if false lo hi xs ys first second = second

pub ReadsRise-without : (k lo hi : ℕ) (rs : List LiveRead) → ReadsRise lo hi rs → ReadsRise lo hi (without_read k rs)
ReadsRise-without k lo hi [] rise = tt
ReadsRise-without k lo hi (r ∷ rs) rise =
    let rest : ReadsRise (r.number + 1) hi (without_read k rs) = ReadsRise-without k (r.number + 1) hi rs rise.2 in
    ReadsRise-if (r.number == k) lo hi (without_read k rs) (r ∷ without_read k rs) (ReadsRise-lower lo (r.number + 1) hi _ rest (omega (arith, rise.0))) (rise.0, rise.1, rest)

-- none has a number below the first
pub read_in-below : (k lo hi : ℕ) (rs : List LiveRead) → ReadsRise lo hi rs → k < lo → read_in k rs ≡ None
read_in-below k lo hi [] rise lt = refl
read_in-below k lo hi (r ∷ rs) rise lt = grind (arith, rise, read_in-below k (r.number + 1) hi rs)

-- none has a number that was not given yet
pub read_in-beyond : (k lo hi : ℕ) (rs : List LiveRead) → ReadsRise lo hi rs → hi ≤ k → read_in k rs ≡ None
read_in-beyond k lo hi [] rise le = refl
read_in-beyond k lo hi (r ∷ rs) rise le = grind (arith, rise, read_in-beyond k (r.number + 1) hi rs)

without_read-below : (k lo hi : ℕ) (rs : List LiveRead) → ReadsRise lo hi rs → k < lo → without_read k rs ≡ rs
without_read-below k lo hi [] rise lt = refl
without_read-below k lo hi (r ∷ rs) rise lt = grind (arith, rise, without_read-below k (r.number + 1) hi rs)

-- the number at a place is not below the first
read_in-at_least : (lo hi : ℕ) (rs : List LiveRead) (i : ℕ) (d : LiveRead) → ReadsRise lo hi rs → i < length rs → lo ≤ (get_or rs i d).number
read_in-at_least lo hi [] i d rise lt = absurd (omega arith)
read_in-at_least lo hi (r ∷ rs) zero d rise lt = rise.0
read_in-at_least lo hi (r ∷ rs) (suc i) d rise lt = omega (arith, rise.0, read_in-at_least (r.number + 1) hi rs i d rise.2 (omega arith))

-- the one at a place is found by its number
pub read_in-at : (k lo hi : ℕ) (rs : List LiveRead) (i : ℕ) (r : LiveRead) → ReadsRise lo hi rs → i < length rs → r ≡ get_or rs i r → r.number ≡ k → read_in k rs ≡ Some r
read_in-at k lo hi [] i r rise lt is number = absurd (omega arith)
read_in-at k lo hi (y ∷ rs) zero r rise lt is number = grind arith
read_in-at k lo hi (y ∷ rs) (suc i) r rise lt is number = grind (arith, rise, read_in-at k (y.number + 1) hi rs i r, read_in-at_least (y.number + 1) hi rs i r)

pub without_read-at : (k lo hi : ℕ) (rs : List LiveRead) (i : ℕ) → ReadsRise lo hi rs → i < length rs → HoldsAt (λ x. x.number ≡ k) rs i → without_read k rs ≡ remove rs i
without_read-at k lo hi [] i rise lt number = absurd (omega arith)
without_read-at k lo hi (y ∷ rs) zero rise lt number =
    let same : (y.number == k) ≡ true = eq-eqb y.number k (number y) in
    rw same (without_read-below k (y.number + 1) hi rs rise.2 (omega (arith, number y)))
without_read-at k lo hi (y ∷ rs) (suc i) rise lt number =
    let other : (y.number == k) ≡ false = ne_eqb y.number k (λ same. omega (arith, number y, read_in-at_least (y.number + 1) hi rs i y rise.2 (omega arith))) in
    rw other (ap (λ rest. y ∷ rest) (without_read-at k (y.number + 1) hi rs i rise.2 (omega arith) number))

write_in-tail : (k lo hi : ℕ) (w : LiveWrite) (ws : List LiveWrite) → WritesRise lo hi (w ∷ ws) → IsSome (write_in k ws) → write_in k (w ∷ ws) ≡ write_in k ws
write_in-tail k lo hi w ws rise some = elim (w.number == k) as (λ b. (w.number == k) ≡ b → (if b then Some w else write_in k ws) ≡ write_in k ws) [
  | true ↦ λ same.
      let none : write_in k ws ≡ None = write_in-below k (w.number + 1) hi ws rise.2 (grind (arith, nat_tests)) in
      let no : is_some (write_in k ws) ≡ false = ap is_some none in
      absurd (cc)
  | false ↦ λ other. refl
] refl

read_in-tail : (k lo hi : ℕ) (r : LiveRead) (rs : List LiveRead) → ReadsRise lo hi (r ∷ rs) → IsSome (read_in k rs) → read_in k (r ∷ rs) ≡ read_in k rs
read_in-tail k lo hi r rs rise some = elim (r.number == k) as (λ b. (r.number == k) ≡ b → (if b then Some r else read_in k rs) ≡ read_in k rs) [
  | true ↦ λ same.
      let none : read_in k rs ≡ None = read_in-below k (r.number + 1) hi rs rise.2 (grind (arith, nat_tests)) in
      let no : is_some (read_in k rs) ≡ false = ap is_some none in
      absurd (cc)
  | false ↦ λ other. refl
] refl

-- the write that was found for a range
pub record IsFoundWithin (lo hi k : ℕ) (ws : List LiveWrite) : Type 0 where
  pub write : LiveWrite
  pub found : write_in k ws ≡ Some write
  pub within : holds lo hi write.sector ≡ true

pub write_within-some : (lo hi k from to : ℕ) (ws : List LiveWrite) → WritesRise from to ws → write_within lo hi ws ≡ Some k → IsFoundWithin lo hi k ws
write_within-some lo hi k from to [] rise is = absurd (cc)
write_within-some lo hi k from to (w ∷ ws) rise is = elim (holds lo hi w.sector) as (λ b. holds lo hi w.sector ≡ b → (if b then Some w.number else write_within lo hi ws) ≡ Some k → IsFoundWithin lo hi k (w ∷ ws)) [
  | true ↦ λ test is. record { write = w; found = grind arith; within = test }
  | false ↦ λ test is.
      let later = write_within-some lo hi k (w.number + 1) to ws rise.2 is in
      record { write = later.write; found = write_in-tail k from to w ws rise (ap is_some later.found) ∙ later.found; within = later.within }
] refl is

-- the write of number j is the next from k on
pub record IsNextWrite (k j : ℕ) (ws : List LiveWrite) : Type 0 where
  pub from : k ≤ j
  pub found : IsSome (write_in j ws)
  pub between : (i : ℕ) → k ≤ i → i < j → write_in i ws ≡ None

pub write_from-some : (k j lo hi : ℕ) (ws : List LiveWrite) → WritesRise lo hi ws → write_from k ws ≡ Some j → IsNextWrite k j ws
write_from-some k j lo hi [] rise is = absurd (cc)
write_from-some k j lo hi (w ∷ ws) rise is = elim (nat_le k w.number) as (λ b. nat_le k w.number ≡ b → (if b then Some w.number else write_from k ws) ≡ Some j → IsNextWrite k j (w ∷ ws)) [
  | true ↦ λ test is.
      let here : w.number ≡ j = cc in
      record {
        from = grind (arith, nat_tests);
        found = grind arith;
        between = λ i le lt. write_in-below i w.number hi (w ∷ ws) (omega arith, rise.1, rise.2) (omega arith);
      }
  | false ↦ λ test is.
      let later = write_from-some k j (w.number + 1) hi ws rise.2 is in
      record {
        from = later.from;
        found = ap is_some (write_in-tail j lo hi w ws rise later.found) ∙ later.found;
        between = λ i le lt.
            let other : (w.number == i) ≡ false = grind (arith, nat_tests, eqb_tells w.number i) in
            rw other (later.between i le lt);
      }
] refl is

-- the read of number j is the next from k on
pub record IsNextRead (k j : ℕ) (rs : List LiveRead) : Type 0 where
  pub from : k ≤ j
  pub found : IsSome (read_in j rs)
  pub between : (i : ℕ) → k ≤ i → i < j → read_in i rs ≡ None

pub read_from-some : (k j lo hi : ℕ) (rs : List LiveRead) → ReadsRise lo hi rs → read_from k rs ≡ Some j → IsNextRead k j rs
read_from-some k j lo hi [] rise is = absurd (cc)
read_from-some k j lo hi (r ∷ rs) rise is = elim (nat_le k r.number) as (λ b. nat_le k r.number ≡ b → (if b then Some r.number else read_from k rs) ≡ Some j → IsNextRead k j (r ∷ rs)) [
  | true ↦ λ test is.
      let here : r.number ≡ j = cc in
      record {
        from = grind (arith, nat_tests);
        found = grind arith;
        between = λ i le lt. read_in-below i r.number hi (r ∷ rs) (omega arith, rise.1, rise.2) (omega arith);
      }
  | false ↦ λ test is.
      let later = read_from-some k j (r.number + 1) hi rs rise.2 is in
      record {
        from = later.from;
        found = ap is_some (read_in-tail j lo hi r rs rise later.found) ∙ later.found;
        between = λ i le lt.
            let other : (r.number == i) ≡ false = grind (arith, nat_tests, eqb_tells r.number i) in
            rw other (later.between i le lt);
      }
] refl is
