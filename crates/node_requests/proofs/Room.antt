-- How many writers the guard has: as many at most as the nodes have writes.
use Rattle.std.proofs.Common.{◌≡◌, ◌≢◌, ◌⊎◌, inl, inr, ◌∙◌, ℕ, zero, suc, ◌+◌, ◌*◌, ◌<◌, ◌≤◌, ◌==◌, true, List, [], ◌∷◌, length, Some, None, refl, arith, if◌then◌else◌}
use Rattle.std.specs.Prelude.{nat_lt}
use Rattle.std.proofs.lemmas.Bool.Decides.{nat_tests}
use Rattle.mirror_io.specs.declared.live.LiveWrite.{LiveWrite}
use Rattle.fs_guard.specs.declared.Writer.{Writer}
use Rattle.fs_guard.specs.Writers.{holder, AreApart}
use Rattle.cluster_model.specs.Writes.{any_of_sector}
use Rattle.node_requests.specs.Requests.{is_node}

-- the writers of a node
abbrev pub count_of : ℕ → List Writer → ℕ
count_of n [] = 0
count_of n (w ∷ ws) = if w.node == n then count_of n ws + 1 else count_of n ws

-- and of those below k
abbrev count_below : ℕ → List Writer → ℕ
count_below k [] = 0
count_below k (w ∷ ws) = if nat_lt w.node k then count_below k ws + 1 else count_below k ws

abbrev without_sector : ℕ → List LiveWrite → List LiveWrite
without_sector s [] = []
without_sector s (w ∷ ws) = if w.sector == s then without_sector s ws else w ∷ without_sector s ws

fewer : (s : ℕ) (ws : List LiveWrite) → length (without_sector s ws) ≤ length ws
fewer s [] = omega arith
fewer s (w ∷ ws) = grind (arith, fewer s ws)

one_fewer : (s : ℕ) (ws : List LiveWrite) → any_of_sector s ws ≡ true → length (without_sector s ws) + 1 ≤ length ws
one_fewer s [] any = cc
one_fewer s (w ∷ ws) any = grind (arith, fewer s ws, one_fewer s ws)

others : (s t : ℕ) (ws : List LiveWrite) → t ≢ s → any_of_sector t (without_sector s ws) ≡ any_of_sector t ws
others s t [] other = refl
others s t (w ∷ ws) other = grind (arith, nat_tests, others s t ws)

-- who holds a sector of the rest holds it of all
later : (t m : ℕ) (w : Writer) (ws : List Writer) → holder w.sector ws ≡ None → holder t ws ≡ Some m → holder t (w ∷ ws) ≡ Some m
later t m w ws none held = grind (arith, nat_tests)

abbrev AreOf : ℕ → List Writer → List LiveWrite → Type 0
AreOf n guard ws = (s : ℕ) → is_node n (holder s guard) ≡ true → any_of_sector s ws ≡ true

-- the tail's writers are of the same writes, but for the first one's
tail_of : (n : ℕ) (w : Writer) (guard : List Writer) → holder w.sector guard ≡ None → (s : ℕ) → is_node n (holder s guard) ≡ true → is_node n (holder s (w ∷ guard)) ≡ true
tail_of n w guard none s held = grind (arith, nat_tests)

not_first : (n : ℕ) (w : Writer) (guard : List Writer) → holder w.sector guard ≡ None → (s : ℕ) → is_node n (holder s guard) ≡ true → s ≢ w.sector
not_first n w guard none s held = grind (arith, nat_tests)

rest_of : (n : ℕ) (w : Writer) (guard : List Writer) (ws : List LiveWrite) → holder w.sector guard ≡ None → AreOf n (w ∷ guard) ws → AreOf n guard (without_sector w.sector ws)
rest_of n w guard ws none of s held = others w.sector s ws (not_first n w guard none s held) ∙ of s (tail_of n w guard none s held)

room_at : (n : ℕ) (ws : List Writer) (k : ℕ) → n < k → count_below k ws ≡ length ws → count_below k ws + (if nat_lt n k then 1 else 0) ≤ 16 * k → length ws < 16 * k
room_at n ws k lt all most = grind (arith, nat_tests)

same_or_not : (s t : ℕ) → (s ≡ t) ⊎ (s ≢ t)
same_or_not s t = grind (arith, nat_tests)

-- a node has no more writers than writes
pub pigeons : (n : ℕ) (guard : List Writer) (ws : List LiveWrite) → AreApart guard → AreOf n guard ws → count_of n guard ≤ length ws
pigeons n [] ws apart of = omega arith
pigeons n (w ∷ guard) ws apart of =
    elim (same_or_not w.node n) [
      | inl same ↦
          let mine : any_of_sector w.sector ws ≡ true = of w.sector (grind (arith, nat_tests, same)) in
          let rest : AreOf n guard (without_sector w.sector ws) = λ s held. rest_of n w guard ws apart.0 of s held in
          grind (arith, nat_tests, same, one_fewer w.sector ws mine, pigeons n guard (without_sector w.sector ws) apart.1 rest)
      | inr other ↦
          grind (arith, nat_tests, other, pigeons n guard ws apart.1 (λ s held. of s (tail_of n w guard apart.0 s held)))
    ]

below_next : (k : ℕ) (ws : List Writer) → count_below (k + 1) ws ≡ count_below k ws + count_of k ws
below_next k [] = omega arith
below_next k (w ∷ ws) = grind (arith, nat_tests, below_next k ws)

below_zero : (ws : List Writer) → count_below 0 ws ≡ 0
below_zero [] = refl
below_zero (w ∷ ws) = grind (arith, nat_tests, below_zero ws)

abbrev AreBelow : ℕ → List Writer → Type 0
AreBelow k ws = (s m : ℕ) → holder s ws ≡ Some m → m < k

below_all : (k : ℕ) (ws : List Writer) → AreApart ws → AreBelow k ws → count_below k ws ≡ length ws
below_all k [] apart below = refl
below_all k (w ∷ ws) apart below =
    let first : w.node < k = below w.sector w.node (grind (arith, nat_tests)) in
    let rest : count_below k ws ≡ length ws = below_all k ws apart.1 (λ s m held. below s m (later s m w ws apart.0 held)) in
    grind (arith, nat_tests, first, rest)

-- each node has 16 at most, and node n fewer
below_most : (n : ℕ) (ws : List Writer) → ((m : ℕ) → count_of m ws ≤ 16) → count_of n ws < 16 → (k : ℕ) → count_below k ws + (if nat_lt n k then 1 else 0) ≤ 16 * k
below_most n ws most fewer zero = grind (arith, nat_tests, below_zero ws)
below_most n ws most fewer (suc k) = grind (arith, nat_tests, below_next k ws, most k, fewer, below_most n ws most fewer k)

pub room : (n : ℕ) (ws : List Writer) → AreApart ws → AreBelow 16 ws → ((m : ℕ) → count_of m ws ≤ 16) → n < 16 → count_of n ws < 16 → length ws < 256
room n ws apart below most lt fewer =
    room_at n ws 16 lt (below_all 16 ws apart below) (below_most n ws most fewer 16)
