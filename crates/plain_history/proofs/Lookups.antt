-- What is found in the tables after a change of them.
use Rattle.std.proofs.Common.{◌≡◌, ◌≢◌, ℕ, zero, suc, ◌<◌, ◌==◌, ◌&&◌, ◌||◌, Bool, true, false, List, [], ◌∷◌, ◌++◌, Option, Some, None, length, refl, arith, set, if◌then◌else◌}
use Rattle.std.proofs.lemmas.Bool.Decides.{nat_tests}
use Rattle.mdc_types.specs.declared.numbers.Sector.{Sector}
use Rattle.plain_history.specs.declared.asked.AskedWrite.{AskedWrite}
use Rattle.plain_history.specs.declared.asked.AskedRead.{AskedRead}
use Rattle.plain_history.specs.History.{values_at}
use Rattle.plain_history.specs.Asked.{write_in, read_in, without_write, without_read, without_writes_of, without_reads_of, start_in, started, any_of_sector}
use Rattle.plain_history.specs.Tables.{AreDistinct}

abbrev pub started_option : Option AskedWrite → Option AskedWrite
started_option None = None
started_option (Some w) = Some (started w)

pub write_in-without : (n k m j : ℕ) (ws : List AskedWrite) → write_in n k (without_write m j ws) ≡ (if n == m && k == j then None else write_in n k ws)
write_in-without n k m j [] = grind arith
write_in-without n k m j (w ∷ ws) = grind (arith, write_in-without n k m j ws)

pub write_in-without_of : (n k m : ℕ) (ws : List AskedWrite) → write_in n k (without_writes_of m ws) ≡ (if n == m then None else write_in n k ws)
write_in-without_of n k m [] = grind arith
write_in-without_of n k m (w ∷ ws) = grind (arith, write_in-without_of n k m ws)

pub write_in-start : (n k m j : ℕ) (ws : List AskedWrite) → write_in n k (start_in m j ws) ≡ (if n == m && k == j then started_option (write_in n k ws) else write_in n k ws)
write_in-start n k m j [] = grind arith
write_in-start n k m j (w ∷ ws) = grind (arith, write_in-start n k m j ws)

-- the first where there is one, and else the second
abbrev pub or_this : {A : Type 0} → Option A → Option A → Option A
or_this None x = x
or_this (Some y) x = Some y

pub write_in-last : (n k : ℕ) (ws : List AskedWrite) (w : AskedWrite) → write_in n k (ws ++ w ∷ []) ≡ or_this (write_in n k ws) (if w.node == n && w.number == k then Some w else None)
write_in-last n k [] w = grind arith
write_in-last n k (x ∷ ws) w = grind (arith, write_in-last n k ws w)

pub read_in-without : (n k m j : ℕ) (rs : List AskedRead) → read_in n k (without_read m j rs) ≡ (if n == m && k == j then None else read_in n k rs)
read_in-without n k m j [] = grind arith
read_in-without n k m j (r ∷ rs) = grind (arith, read_in-without n k m j rs)

pub read_in-without_of : (n k m : ℕ) (rs : List AskedRead) → read_in n k (without_reads_of m rs) ≡ (if n == m then None else read_in n k rs)
read_in-without_of n k m [] = grind arith
read_in-without_of n k m (r ∷ rs) = grind (arith, read_in-without_of n k m rs)

pub read_in-last : (n k : ℕ) (rs : List AskedRead) (r : AskedRead) → read_in n k (rs ++ r ∷ []) ≡ or_this (read_in n k rs) (if r.node == n && r.number == k then Some r.sector else None)
read_in-last n k [] r = grind arith
read_in-last n k (x ∷ rs) r = grind (arith, read_in-last n k rs r)

-- what is found has the node and number that were sought
pub record HasKey (n k : ℕ) (w : AskedWrite) : Type 0 where
  pub node : w.node ≡ n
  pub number : w.number ≡ k

pub write_in-key : (n k : ℕ) (ws : List AskedWrite) (w : AskedWrite) → write_in n k ws ≡ Some w → HasKey n k w
write_in-key n k [] w found = cc
write_in-key n k (x ∷ ws) w found = grind (arith, write_in-key n k ws w)

-- the values of a sector after a change of one list
pub values_at-set : (lists : List (List Sector)) (t s : ℕ) (vs : List Sector) → t < length lists → values_at (set lists t vs) s ≡ (if t == s then vs else values_at lists s)
values_at-set [] t s vs lt = absurd (omega (arith, lt))
values_at-set (xs ∷ lists) zero zero vs lt = refl
values_at-set (xs ∷ lists) zero (suc s) vs lt = grind arith
values_at-set (xs ∷ lists) (suc t) zero vs lt = grind arith
values_at-set (xs ∷ lists) (suc t) (suc s) vs lt = grind (arith, values_at-set lists t s vs (omega (arith, lt)))

-- writes stay distinct

keep-without : (n k : ℕ) (w : AskedWrite) (ws : List AskedWrite) → write_in w.node w.number ws ≡ None → AreDistinct (without_write n k ws) → (b : Bool) → AreDistinct (if b then without_write n k ws else w ∷ without_write n k ws)
keep-without n k w ws none rest true = rest
keep-without n k w ws none rest false = (grind (arith, none, write_in-without), rest)

pub distinct-without : (n k : ℕ) (ws : List AskedWrite) → AreDistinct ws → AreDistinct (without_write n k ws)
distinct-without n k [] d = tt
distinct-without n k (w ∷ ws) d = keep-without n k w ws d.0 (distinct-without n k ws d.1) (w.node == n && w.number == k)

keep-without_of : (n : ℕ) (w : AskedWrite) (ws : List AskedWrite) → write_in w.node w.number ws ≡ None → AreDistinct (without_writes_of n ws) → (b : Bool) → AreDistinct (if b then without_writes_of n ws else w ∷ without_writes_of n ws)
keep-without_of n w ws none rest true = rest
keep-without_of n w ws none rest false = (grind (arith, none, write_in-without_of), rest)

pub distinct-without_of : (n : ℕ) (ws : List AskedWrite) → AreDistinct ws → AreDistinct (without_writes_of n ws)
distinct-without_of n [] d = tt
distinct-without_of n (w ∷ ws) d = keep-without_of n w ws d.0 (distinct-without_of n ws d.1) (w.node == n)

keep-start : (n k : ℕ) (w : AskedWrite) (ws : List AskedWrite) → write_in w.node w.number ws ≡ None → AreDistinct (start_in n k ws) → (b : Bool) → AreDistinct ((if b then started w else w) ∷ start_in n k ws)
keep-start n k w ws none rest true = (grind (arith, none, write_in-start), rest)
keep-start n k w ws none rest false = (grind (arith, none, write_in-start), rest)

pub distinct-start : (n k : ℕ) (ws : List AskedWrite) → AreDistinct ws → AreDistinct (start_in n k ws)
distinct-start n k [] d = tt
distinct-start n k (w ∷ ws) d = keep-start n k w ws d.0 (distinct-start n k ws d.1) (w.node == n && w.number == k)

pub distinct-last : (ws : List AskedWrite) (w : AskedWrite) → AreDistinct ws → write_in w.node w.number ws ≡ None → AreDistinct (ws ++ w ∷ [])
distinct-last [] w d none = (refl, tt)
distinct-last (x ∷ ws) w d none = (grind (arith, d.0, none, write_in-last), distinct-last ws w d.1 (grind (arith, none)))

-- one of the sector is found

pub record IsFoundOf (s : ℕ) (ws : List AskedWrite) : Type 0 where
  pub node : ℕ
  pub number : ℕ
  pub write : AskedWrite
  pub found : write_in node number ws ≡ Some write
  pub sector : write.sector ≡ s

pub any_of_sector-found : (s : ℕ) (ws : List AskedWrite) → AreDistinct ws → any_of_sector s ws ≡ true → IsFoundOf s ws
any_of_sector-found s [] d any = cc
any_of_sector-found s (w ∷ ws) d any = elim (w.sector == s) as (λ b. (w.sector == s) ≡ b → (b || any_of_sector s ws) ≡ true → IsFoundOf s (w ∷ ws)) [
  | true ↦ λ test any. record { node = w.node; number = w.number; write = w; found = grind arith; sector = grind (arith, nat_tests) }
  | false ↦ λ test any.
      let later = any_of_sector-found s ws d.1 any in
      record { node = later.node; number = later.number; write = later.write; found = grind (arith, d.0, later.found); sector = later.sector }
] refl any

pub any_of_sector-none : (s n k : ℕ) (ws : List AskedWrite) (w : AskedWrite) → any_of_sector s ws ≡ false → write_in n k ws ≡ Some w → w.sector ≢ s
any_of_sector-none s n k [] w none found = cc
any_of_sector-none s n k (x ∷ ws) w none found = grind (arith, any_of_sector-none s n k ws w)
