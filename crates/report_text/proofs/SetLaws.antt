-- Sets as lists of their members.
use Rattle.std.proofs.Common.{◌≡◌, ℕ, zero, suc, ◌+◌, Bool, if◌then◌else◌, [], ◌∷◌, ◌++◌, refl, add-one}
use Rattle.report_text.specs.Sets.{members}

-- one number more
pub members-more : (has : ℕ → Bool) (n : ℕ) → members has (n + 1) ≡ members has n ++ (if has n then n ∷ [] else [])
members-more has n = rw add-one refl

-- sets with the same numbers
pub members-same : (f g : ℕ → Bool) → ((n : ℕ) → f n ≡ g n) → (count : ℕ) → members f count ≡ members g count
members-same f g same zero = refl
members-same f g same (suc n) = rw (members-same f g same n, same n) refl
