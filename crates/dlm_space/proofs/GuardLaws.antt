-- What a guard that doesn't refuse tells.
use Rattle.std.proofs.Common.{◌≡◌, ◌≢◌, ◌⊎◌, inl, inr, ◌<◌, ◌≤◌, ℕ, true, false, Option, Some, None, refl, ap, arith}
use Rattle.std.specs.Prelude.{is_some}
use Rattle.std.proofs.lemmas.Bool.Decides.{nat_tests}
use Rattle.dlm_modes.proofs.FirstLaws.{first_such_none}
use Rattle.dlm_modes.specs.declared.mode.Mode.{Mode}
use Rattle.dlm_space.specs.Queues.{asks}
use Rattle.dlm_space.specs.Locks.{Lock, disagrees, is_against, blocker, blocked, not_grantable, ask_refusal, convert_refusal, head_refusal}
use Rattle.dlm_space.specs.declared.ask.Ask.{Ask}

-- the node neither holds nor asks
pub record Free (lock : Lock) (n : ℕ) : Type 0 where
  pub holds : lock.held n ≡ None
  pub asks : asks n lock.requests ≡ false

pub free : (lock : Lock) (n : ℕ) → ask_refusal lock n ≡ None → Free lock n
free lock n e = grind arith

-- the node holds, and no conversion of it waits
pub record Convertible (lock : Lock) (n : ℕ) : Type 0 where
  pub holds : is_some (lock.held n) ≡ true
  pub asks : asks n lock.conversions ≡ false

pub convertible : (lock : Lock) (n : ℕ) → convert_refusal lock n ≡ None → Convertible lock n
convertible lock n e = grind arith

-- no other node holds what disagrees with the mode of n
abbrev pub NoneAgainst : Lock → ℕ → Mode → Type 0
NoneAgainst lock n mode = (m : ℕ) → m ≢ n → disagrees mode (lock.held m) ≡ false

in_range : (m : ℕ) → (m < 16) ⊎ (16 ≤ m)
in_range m = grind (arith, nat_tests)

told : (lock : Lock) (n m : ℕ) (mode : Mode) → m ≢ n → is_against lock n mode m ≡ false → disagrees mode (lock.held m) ≡ false
told lock n m mode ne e = grind (arith, nat_tests)

pub none_against : (lock : Lock) (n : ℕ) (mode : Mode) → ((m : ℕ) → 16 ≤ m → lock.held m ≡ None) → blocker lock n mode ≡ None → NoneAgainst lock n mode
none_against lock n mode holders e m ne = elim (in_range m) [
  | inl lt ↦ told lock n m mode ne (first_such_none (is_against lock n mode) 0 16 e m (omega arith) (omega arith))
  | inr ge ↦ ap (disagrees mode) (holders m ge)
]

pub not_blocked : (lock : Lock) (found : Option ℕ) → blocked lock found ≡ None → found ≡ None
not_blocked lock None e = refl
not_blocked lock (Some m) e = cc

grantable : (lock : Lock) (found : Option ℕ) → not_grantable lock found ≡ None → found ≡ None
grantable lock None e = refl
grantable lock (Some m) e = cc

pub head_grantable : (lock : Lock) (a : Ask) → head_refusal lock (Some a) ≡ None → blocker lock a.node a.mode ≡ None
head_grantable lock a e = grantable lock _ e
