-- What holds of each resource at each place of a run, and is kept by each call.
use Rattle.std.specs.Prelude.{◌≡◌, ◌≢◌, ℕ, ◌<◌, Bool, true, false, List, []}
use Rattle.dlm_modes.specs.declared.mode.Mode.{Mode}
use Rattle.dlm_space.specs.Locks.{Lock, new_lock}
use Rattle.dlm_space.specs.Orderly.{agree}
use Rattle.lock_wire.specs.Machine.{Wire, master_of}
use Rattle.lock_wire.specs.declared.local.Local.{Local}
use Rattle.lock_wire.specs.declared.local.Local.TheVariants.{Free}
use Rattle.laws_wire.specs.Views.{Word, Is, words, grants, entry_of, view_of, proper, Fits, reckoned}

-- of one resource: its master's table, whose reports are awaited, the local states, what the packets on their way to
-- the master tell, and what those from it grant
pub record Fitting (live : ℕ → Bool) (lock : Lock) (awaited : ℕ → Bool) (local : ℕ → Local) (up : ℕ → List Word) (down : ℕ → List Mode) : Type 0 where
  pub fits : (n : ℕ) → live n ≡ true → Fits (view_of (awaited n) lock n) (up n) (down n) (local n)
  -- the table has nothing of dead nodes, and of those whose reports are awaited
  pub gone : (n : ℕ) → live n ≡ false → entry_of lock n ≡ Is Free
  pub silent : (n : ℕ) → awaited n ≡ true → entry_of lock n ≡ Is Free
  -- what the master reckons with agrees
  pub apart : (n m : ℕ) → n ≢ m → live n ≡ true → live m ≡ true → agree (reckoned (awaited n) lock (up n) n) (reckoned (awaited m) lock (up m) m) ≡ true
  pub proper : (n : ℕ) → live n ≡ true → proper (local n) ≡ true

-- a resource of a spread space: the live nodes, its master, whose reports are awaited, its tables, the local states, what
-- each link tells of it, and what each link grants on it
pub record KeptOf (live : ℕ → Bool) (m : ℕ) (awaited : ℕ → Bool) (table : ℕ → Lock) (local : ℕ → Local) (told : ℕ → ℕ → List Word) (given : ℕ → ℕ → List Mode) : Type 0 where
  pub fitting : Fitting live (table m) awaited local (λ n. told n m) (λ n. given m n)
  -- only links to the master tell of it, and only links from the master grant it
  pub tells : (a b : ℕ) → b ≢ m → told a b ≡ []
  pub gives : (a b : ℕ) → a ≢ m → given a b ≡ []
  -- the tables of other live nodes have nothing of it
  pub fresh : (k : ℕ) → live k ≡ true → k ≢ m → table k ≡ new_lock
  -- while a node lives, the master does
  pub master : (n : ℕ) → live n ≡ true → live m ≡ true

abbrev pub Kept : Wire → ℕ → Type 0
Kept w r = KeptOf w.live (master_of w r) ((w.ward r).awaited) (λ m. w.table m r) (λ n. w.local n r) (λ a b. words r (w.link a b)) (λ a b. grants r (w.link a b))

pub record Inv (w : Wire) : Type 0 where
  pub nodes : (n : ℕ) → w.live n ≡ true → n < 16
  pub kept : (r : ℕ) → r < 21 → Kept w r
