-- Who holds a sector after a write has begun or ended, and after a death.
use Rattle.std.proofs.Common.{◌≡◌, ℕ, ◌==◌, ◌&&◌, ◌||◌, ◌≤◌, Bool, true, false, not, filter, List, [], ◌∷◌, ◌++◌, Some, None, length, refl, arith, if◌then◌else◌}
use Rattle.std.proofs.Math.Path.{fun_ext}
use Rattle.std.proofs.lemmas.Bool.Decides.{nat_tests}
use Rattle.fs_guard.specs.declared.Writer.{Writer}
use Rattle.fs_guard.specs.Writers.{writer, holder, without, without_node, AreApart, unless_node, holders_of, begun, ended, died}

pub holder-begin : (t s n : ℕ) (ws : List Writer) → holder s ws ≡ None → holder t (ws ++ writer s n ∷ []) ≡ (if t == s then Some n else holder t ws)
holder-begin t s n [] none = grind arith
holder-begin t s n (w ∷ ws) none = grind (arith, holder-begin t s n ws)

pub holder-end : (t s n : ℕ) (ws : List Writer) → AreApart ws → holder t (without s n ws) ≡ (if t == s then unless_node n (holder t ws) else holder t ws)
holder-end t s n [] apart = grind arith
holder-end t s n (w ∷ ws) apart = grind (arith, apart, holder-end t s n ws)

pub holder-die : (t n : ℕ) (ws : List Writer) → AreApart ws → holder t (without_node n ws) ≡ unless_node n (holder t ws)
holder-die t n [] apart = grind arith
holder-die t n (w ∷ ws) apart = grind (arith, apart, holder-die t n ws)

-- the same by sector
pub holders-begin : (s n : ℕ) (ws : List Writer) → holder s ws ≡ None → holders_of (ws ++ writer s n ∷ []) ≡ begun (holders_of ws) s n
holders-begin s n ws none = fun_ext (λ t. holder-begin t s n ws none)

ended_at : (t s n : ℕ) (ws : List Writer) → AreApart ws → holder t (without s n ws) ≡ ended (holders_of ws) s n t
ended_at t s n ws apart = grind (arith, nat_tests, holder-end t s n ws apart)

pub holders-end : (s n : ℕ) (ws : List Writer) → AreApart ws → holders_of (without s n ws) ≡ ended (holders_of ws) s n
holders-end s n ws apart = fun_ext (λ t. ended_at t s n ws apart)

pub holders-die : (n : ℕ) (ws : List Writer) → AreApart ws → holders_of (without_node n ws) ≡ died (holders_of ws) n
holders-die n ws apart = fun_ext (λ t. holder-die t n ws apart)

-- the sector of a write that has ended is free, and no other changes
pub free-end : (s n : ℕ) (ws : List Writer) → AreApart ws → holder s ws ≡ Some n → holder s (without s n ws) ≡ None
free-end s n ws apart held = grind (arith, holder-end s s n ws apart)

-- writers stay apart

pub apart-begin : (s n : ℕ) (ws : List Writer) → AreApart ws → holder s ws ≡ None → AreApart (ws ++ writer s n ∷ [])
apart-begin s n [] apart none = (refl, tt)
apart-begin s n (w ∷ ws) apart none = (grind (arith, apart, holder-begin w.sector s n ws), apart-begin s n ws apart.1 (grind arith))

keep_end : (s n : ℕ) (w : Writer) (ws : List Writer) → AreApart (w ∷ ws) → AreApart (without s n ws) → (b : Bool) → AreApart (if b then without s n ws else w ∷ without s n ws)
keep_end s n w ws apart rest true = rest
keep_end s n w ws apart rest false = (grind (arith, apart, holder-end w.sector s n ws), rest)

pub apart-end : (s n : ℕ) (ws : List Writer) → AreApart ws → AreApart (without s n ws)
apart-end s n [] apart = tt
apart-end s n (w ∷ ws) apart = keep_end s n w ws apart (apart-end s n ws apart.1) (w.sector == s && w.node == n)

keep_die : (n : ℕ) (w : Writer) (ws : List Writer) → AreApart (w ∷ ws) → AreApart (without_node n ws) → (b : Bool) → AreApart (if b then without_node n ws else w ∷ without_node n ws)
keep_die n w ws apart rest true = rest
keep_die n w ws apart rest false = (grind (arith, apart, holder-die w.sector n ws), rest)

pub apart-die : (n : ℕ) (ws : List Writer) → AreApart ws → AreApart (without_node n ws)
apart-die n [] apart = tt
apart-die n (w ∷ ws) apart = keep_die n w ws apart (apart-die n ws apart.1) (w.node == n)

-- how many are left

pub length-end : (s n : ℕ) (ws : List Writer) → length (without s n ws) ≤ length ws
length-end s n [] = omega arith
length-end s n (w ∷ ws) = grind (arith, length-end s n ws)

pub length-die : (n : ℕ) (ws : List Writer) → length (without_node n ws) ≤ length ws
length-die n [] = omega arith
length-die n (w ∷ ws) = grind (arith, length-die n ws)

-- as filters

pub without-is : (s n : ℕ) (ws : List Writer) → filter (λ w. not (w.sector == s) || not (w.node == n)) ws ≡ without s n ws
without-is s n [] = refl
without-is s n (w ∷ ws) = grind (arith, without-is s n ws)

pub without_node-is : (n : ℕ) (ws : List Writer) → filter (λ w. not (w.node == n)) ws ≡ without_node n ws
without_node-is n [] = refl
without_node-is n (w ∷ ws) = grind (arith, without_node-is n ws)
