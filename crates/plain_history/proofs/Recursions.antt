-- Recursions on writes and reads, as maps and filters.
use Rattle.std.proofs.Common.{◌≡◌, ℕ, ◌==◌, ◌&&◌, ◌≤◌, zero, suc, ◌++◌, take, drop, not, List, [], ◌∷◌, map, length, refl, ap, arith, if◌then◌else◌}
use Rattle.std.specs.Prelude.{filter}
use Rattle.plain_history.specs.declared.asked.AskedWrite.{AskedWrite}
use Rattle.plain_history.specs.declared.asked.AskedRead.{AskedRead}
use Rattle.plain_history.specs.Asked.{without_write, without_read, without_writes_of, without_reads_of, start_in, started}

pub without_write-is : (n k : ℕ) (ws : List AskedWrite) → filter (λ w. not (w.node == n && w.number == k)) ws ≡ without_write n k ws
without_write-is n k [] = refl
without_write-is n k (w ∷ ws) = grind (arith, without_write-is n k ws)

pub without_read-is : (n k : ℕ) (rs : List AskedRead) → filter (λ r. not (r.node == n && r.number == k)) rs ≡ without_read n k rs
without_read-is n k [] = refl
without_read-is n k (r ∷ rs) = grind (arith, without_read-is n k rs)

pub without_writes_of-is : (n : ℕ) (ws : List AskedWrite) → filter (λ w. not (w.node == n)) ws ≡ without_writes_of n ws
without_writes_of-is n [] = refl
without_writes_of-is n (w ∷ ws) = grind (arith, without_writes_of-is n ws)

pub without_reads_of-is : (n : ℕ) (rs : List AskedRead) → filter (λ r. not (r.node == n)) rs ≡ without_reads_of n rs
without_reads_of-is n [] = refl
without_reads_of-is n (r ∷ rs) = grind (arith, without_reads_of-is n rs)

pub start_in-is : (n k : ℕ) (ws : List AskedWrite) → map (λ w. if w.node == n && w.number == k then started w else w) ws ≡ start_in n k ws
start_in-is n k [] = refl
start_in-is n k (w ∷ ws) = ap (λ rest. (if w.node == n && w.number == k then started w else w) ∷ rest) (start_in-is n k ws)

-- a change of each element, at its end
pub all_changed : (f : AskedWrite → AskedWrite) (xs : List AskedWrite) (i : ℕ) → length xs ≤ i → map f (take i xs) ++ drop i xs ≡ map f xs
all_changed f [] zero le = refl
all_changed f [] (suc i) le = refl
all_changed f (x ∷ xs) zero le = absurd (omega (arith, le))
all_changed f (x ∷ xs) (suc i) le = ap (λ rest. f x ∷ rest) (all_changed f xs i (omega (arith, le)))
