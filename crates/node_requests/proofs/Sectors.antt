-- Which sectors a node's writes are of, after a change of them.
use Rattle.std.proofs.Common.{◌≡◌, ◌≢◌, ℕ, suc, ◌+◌, ◌<◌, ◌≤◌, ◌==◌, ◌||◌, Bool, true, false, List, [], ◌∷◌, ◌++◌, length, Some, refl, ap, arith, length-append, if◌then◌else◌}
use Rattle.std.proofs.lemmas.Bool.Decides.{nat_tests}
use Rattle.mirror_io.specs.Flight.{Flight, write_in, without_write, start_in, done_in, new_write, WritesRise}
use Rattle.mirror_io.specs.declared.live.LiveWrite.{LiveWrite}
use Rattle.mirror_io.proofs.Order.{WritesRise-push, WritesRise-without}
use Rattle.mdc_types.specs.declared.numbers.Sector.{Sector}
use Rattle.cluster_model.specs.Writes.{any_of_sector}
use Rattle.node_requests.specs.Requests.{SectorsApart, AreWrites}

pub any-push : (t : ℕ) (ws : List LiveWrite) (w : LiveWrite) → any_of_sector t (ws ++ w ∷ []) ≡ (any_of_sector t ws || w.sector == t)
any-push t [] w = grind arith
any-push t (x ∷ ws) w = grind (arith, any-push t ws w)

pub any-start : (t k : ℕ) (ws : List LiveWrite) → any_of_sector t (start_in k ws) ≡ any_of_sector t ws
any-start t k [] = refl
any-start t k (w ∷ ws) = grind (arith, any-start t k ws)

pub any-done : (t k l : ℕ) (ws : List LiveWrite) → any_of_sector t (done_in k l ws) ≡ any_of_sector t ws
any-done t k l [] = refl
any-done t k l (w ∷ ws) = grind (arith, any-done t k l ws)

pub any-found : (k : ℕ) (ws : List LiveWrite) (w : LiveWrite) → write_in k ws ≡ Some w → any_of_sector w.sector ws ≡ true
any-found k [] w found = cc
any-found k (x ∷ ws) w found = grind (arith, nat_tests, any-found k ws w)

any-none : (t k : ℕ) (ws : List LiveWrite) → any_of_sector t ws ≡ false → any_of_sector t (without_write k ws) ≡ false
any-none t k [] none = refl
any-none t k (w ∷ ws) none = grind (arith, any-none t k ws)

without-below : (k lo hi : ℕ) (ws : List LiveWrite) → WritesRise lo hi ws → k < lo → without_write k ws ≡ ws
without-below k lo hi [] rise lt = refl
without-below k lo hi (w ∷ ws) rise lt = grind (arith, nat_tests, rise, without-below k (w.number + 1) hi ws)

-- a write ends: its sector is free, and no other
pub any-ended : (k : ℕ) (ws : List LiveWrite) (w : LiveWrite) → SectorsApart ws → write_in k ws ≡ Some w → any_of_sector w.sector (without_write k ws) ≡ false
any-ended k [] w apart found = refl
any-ended k (x ∷ ws) w apart found = grind (arith, nat_tests, apart, any-none x.sector k ws, any-ended k ws w, any-found k ws w)

pub any-other : (t k lo hi : ℕ) (ws : List LiveWrite) (w : LiveWrite) → WritesRise lo hi ws → write_in k ws ≡ Some w → t ≢ w.sector → any_of_sector t (without_write k ws) ≡ any_of_sector t ws
any-other t k lo hi [] w rise found other = refl
any-other t k lo hi (x ∷ ws) w rise found other = grind (arith, nat_tests, rise, without-below k (x.number + 1) hi ws, any-other t k (x.number + 1) hi ws w)

apart-push : (ws : List LiveWrite) (w : LiveWrite) → SectorsApart ws → any_of_sector w.sector ws ≡ false → SectorsApart (ws ++ w ∷ [])
apart-push [] w apart none = (refl, tt)
apart-push (x ∷ ws) w apart none = (grind (arith, nat_tests, apart, any-push x.sector ws w), apart-push ws w apart.1 (grind arith))

apart-start : (k : ℕ) (ws : List LiveWrite) → SectorsApart ws → SectorsApart (start_in k ws)
apart-start k [] apart = tt
apart-start k (w ∷ ws) apart = (grind (arith, apart, any-start w.sector k ws), apart-start k ws apart.1)

apart-done : (k l : ℕ) (ws : List LiveWrite) → SectorsApart ws → SectorsApart (done_in k l ws)
apart-done k l [] apart = tt
apart-done k l (w ∷ ws) apart = (grind (arith, apart, any-done w.sector k l ws), apart-done k l ws apart.1)

apart-if : (b : Bool) (xs ys : List LiveWrite) → SectorsApart xs → SectorsApart ys → SectorsApart (if b then xs else ys)
apart-if true xs ys first second = first
apart-if false xs ys first second = second

apart-without : (k : ℕ) (ws : List LiveWrite) → SectorsApart ws → SectorsApart (without_write k ws)
apart-without k [] apart = tt
apart-without k (w ∷ ws) apart =
    let rest = apart-without k ws apart.1 in
    apart-if (w.number == k) (without_write k ws) (w ∷ without_write k ws) rest (any-none w.sector k ws apart.0, rest)

rise-start : (k lo hi : ℕ) (ws : List LiveWrite) → WritesRise lo hi ws → WritesRise lo hi (start_in k ws)
rise-start k lo hi [] rise = tt
rise-start k lo hi (w ∷ ws) rise = grind (arith, rise, rise-start k (w.number + 1) hi ws)

rise-done : (k l lo hi : ℕ) (ws : List LiveWrite) → WritesRise lo hi ws → WritesRise lo hi (done_in k l ws)
rise-done k l lo hi [] rise = tt
rise-done k l lo hi (w ∷ ws) rise = grind (arith, rise, rise-done k l (w.number + 1) hi ws)

length-start : (k : ℕ) (ws : List LiveWrite) → length (start_in k ws) ≡ length ws
length-start k [] = refl
length-start k (w ∷ ws) = ap (λ n. suc n) (length-start k ws)

length-done : (k l : ℕ) (ws : List LiveWrite) → length (done_in k l ws) ≡ length ws
length-done k l [] = refl
length-done k l (w ∷ ws) = ap (λ n. suc n) (length-done k l ws)

length-without : (k : ℕ) (ws : List LiveWrite) → length (without_write k ws) ≤ length ws
length-without k [] = omega arith
length-without k (w ∷ ws) = grind (arith, length-without k ws)

-- what is asked of a node's writes still holds after each change

pub are_asked : (f : Flight) (s : ℕ) (v : Sector) → AreWrites f → length f.writes < 16 → any_of_sector s f.writes ≡ false
    → AreWrites (record f { writes = f.writes ++ new_write f.writes_made s v ∷ []; writes_made = f.writes_made + 1 })
are_asked f s v is lt none = record {
  few = omega (arith, length-append f.writes (new_write f.writes_made s v ∷ []));
  rise = WritesRise-push 0 f.writes_made f.writes (new_write f.writes_made s v) is.rise (omega arith) refl;
  apart = apart-push f.writes (new_write f.writes_made s v) is.apart none;
}

pub are_started : (f : Flight) (k : ℕ) → AreWrites f → AreWrites (record f { writes = start_in k f.writes })
are_started f k is = record { few = omega (arith, is.few, length-start k f.writes); rise = rise-start k 0 f.writes_made f.writes is.rise; apart = apart-start k f.writes is.apart }

pub are_done : (f : Flight) (k l : ℕ) → AreWrites f → AreWrites (record f { writes = done_in k l f.writes })
are_done f k l is = record { few = omega (arith, is.few, length-done k l f.writes); rise = rise-done k l 0 f.writes_made f.writes is.rise; apart = apart-done k l f.writes is.apart }

pub are_ended : (f : Flight) (k : ℕ) → AreWrites f → AreWrites (record f { writes = without_write k f.writes })
are_ended f k is = record { few = omega (arith, is.few, length-without k f.writes); rise = WritesRise-without k 0 f.writes_made f.writes is.rise; apart = apart-without k f.writes is.apart }
