-- Counts of faults: each object of the outside has one, which never falls.
use Rattle.std.specs.Prelude.{◌≡◌, ℕ, ◌+◌, ◌-◌, ◌^◌, ◌≤◌, min, Bool, true, Result, Err}

-- the count has risen, or stands at its type's last value
abbrev pub Rose : ℕ → ℕ → Type 0
Rose before now = min (before + 1) (2 ^ 64 - 1) ≤ now

-- a call fails by a fault only where the count rose in it
pub record HasCause {T E : Type 0} (is_fault : E → Bool) (before now : ℕ) (result : Result T E) : Type 0 where
  pub later : before ≤ now
  pub failed : (e : E) → result ≡ Err e → is_fault e ≡ true → Rose before now
