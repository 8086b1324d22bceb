-- What is found among writes and reads in flight after a change of them.
use Rattle.std.proofs.Common.{◌≡◌, ℕ, ◌≤◌, ◌==◌, true, false, List, [], ◌∷◌, ◌++◌, Option, Some, None, refl, arith, if◌then◌else◌}
use Rattle.std.proofs.lemmas.Bool.Decides.{nat_tests}
use Rattle.mdc_types.specs.Ranges.{holds}
use Rattle.mdc_types.proofs.BitsLaws.{has_bit-with_bit}
use Rattle.mirror_io.specs.declared.live.LiveWrite.{LiveWrite}
use Rattle.mirror_io.specs.declared.live.LiveRead.{LiveRead}
use Rattle.mirror_io.specs.Flight.{write_in, read_in, without_write, without_read, start_in, done_in, started, done_on, is_done, write_within, write_from, read_from}

abbrev pub started_option : Option LiveWrite → Option LiveWrite
started_option None = None
started_option (Some w) = Some (started w)

abbrev pub done_option : ℕ → Option LiveWrite → Option LiveWrite
done_option l None = None
done_option l (Some w) = Some (done_on l w)

-- the first where there is one, and else the second
abbrev pub or_this : {A : Type 0} → Option A → Option A → Option A
or_this None x = x
or_this (Some y) x = Some y

-- one more, whose number is new
pub write_in-push : (j : ℕ) (ws : List LiveWrite) (w : LiveWrite) → write_in w.number ws ≡ None → write_in j (ws ++ w ∷ []) ≡ (if j == w.number then Some w else write_in j ws)
write_in-push j [] w none = grind arith
write_in-push j (x ∷ ws) w none = grind (arith, write_in-push j ws w)

-- one more, whose number may be there
pub write_in-last : (j : ℕ) (ws : List LiveWrite) (w : LiveWrite) → write_in j (ws ++ w ∷ []) ≡ or_this (write_in j ws) (if j == w.number then Some w else None)
write_in-last j [] w = grind arith
write_in-last j (x ∷ ws) w = grind (arith, write_in-last j ws w)

pub write_in-without : (j k : ℕ) (ws : List LiveWrite) → write_in j (without_write k ws) ≡ (if j == k then None else write_in j ws)
write_in-without j k [] = grind arith
write_in-without j k (w ∷ ws) = grind (arith, write_in-without j k ws)

pub write_in-start : (j k : ℕ) (ws : List LiveWrite) → write_in j (start_in k ws) ≡ (if j == k then started_option (write_in j ws) else write_in j ws)
write_in-start j k [] = grind arith
write_in-start j k (w ∷ ws) = grind (arith, write_in-start j k ws)

pub write_in-done : (j k l : ℕ) (ws : List LiveWrite) → write_in j (done_in k l ws) ≡ (if j == k then done_option l (write_in j ws) else write_in j ws)
write_in-done j k l [] = grind arith
write_in-done j k l (w ∷ ws) = grind (arith, write_in-done j k l ws)

pub read_in-push : (j : ℕ) (rs : List LiveRead) (r : LiveRead) → read_in r.number rs ≡ None → read_in j (rs ++ r ∷ []) ≡ (if j == r.number then Some r else read_in j rs)
read_in-push j [] r none = grind arith
read_in-push j (x ∷ rs) r none = grind (arith, read_in-push j rs r)

pub read_in-last : (j : ℕ) (rs : List LiveRead) (r : LiveRead) → read_in j (rs ++ r ∷ []) ≡ or_this (read_in j rs) (if j == r.number then Some r else None)
read_in-last j [] r = grind arith
read_in-last j (x ∷ rs) r = grind (arith, read_in-last j rs r)

pub read_in-without : (j k : ℕ) (rs : List LiveRead) → read_in j (without_read k rs) ≡ (if j == k then None else read_in j rs)
read_in-without j k [] = grind arith
read_in-without j k (r ∷ rs) = grind (arith, read_in-without j k rs)

-- what is found has the number that was sought
pub write_in-number : (k : ℕ) (ws : List LiveWrite) (w : LiveWrite) → write_in k ws ≡ Some w → w.number ≡ k
write_in-number k [] w found = grind arith
write_in-number k (x ∷ ws) w found = grind (arith, write_in-number k ws w)

pub read_in-number : (k : ℕ) (rs : List LiveRead) (r : LiveRead) → read_in k rs ≡ Some r → r.number ≡ k
read_in-number k [] r found = grind arith
read_in-number k (x ∷ rs) r found = grind (arith, read_in-number k rs r)

-- on which legs a write is done
pub is_done-started : (w : LiveWrite) (l : ℕ) → is_done (started w) l ≡ is_done w l
is_done-started w l = refl

pub is_done-done_on : (w : LiveWrite) (l j : ℕ) → is_done (done_on l w) j ≡ (if j == l then true else is_done w j)
is_done-done_on w l j = has_bit-with_bit w.done l j

-- no write of the range is in flight where none is found
pub write_within-none : (lo hi k : ℕ) (ws : List LiveWrite) (w : LiveWrite) → write_within lo hi ws ≡ None → write_in k ws ≡ Some w → holds lo hi w.sector ≡ false
write_within-none lo hi k [] w none found = grind arith
write_within-none lo hi k (x ∷ ws) w none found = grind (arith, write_within-none lo hi k ws w)

-- none has a number from k on where none is found
pub write_from-none : (k j : ℕ) (ws : List LiveWrite) → write_from k ws ≡ None → k ≤ j → write_in j ws ≡ None
write_from-none k j [] none le = refl
write_from-none k j (w ∷ ws) none le = grind (arith, nat_tests, write_from-none k j ws)

pub read_from-none : (k j : ℕ) (rs : List LiveRead) → read_from k rs ≡ None → k ≤ j → read_in j rs ≡ None
read_from-none k j [] none le = refl
read_from-none k j (r ∷ rs) none le = grind (arith, nat_tests, read_from-none k j rs)
