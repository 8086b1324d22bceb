-- Views: what fits goes on fitting.
use Rattle.std.proofs.Common.{◌≡◌, ℕ, List, [], ◌∷◌, ◌++◌, Bool, true, false, Option, Some, None, refl, sym, ap, ◌∙◌, arith, if◌then◌else◌}
use Rattle.dlm_modes.specs.Modes.{weaker}
use Rattle.dlm_modes.specs.declared.mode.Mode.{Mode}
use Rattle.dlm_space.specs.Locks.{Lock}
use Rattle.dlm_space.specs.Orderly.{agree}
use Rattle.dlm_space.specs.Queues.{asks_of}
use Rattle.lock_wire.specs.Locals.{mode_held, converting, kept}
use Rattle.lock_wire.specs.declared.local.Local.{Local}
use Rattle.lock_wire.specs.declared.local.Local.TheVariants.{Free, Asking, Held, Converting}
use Rattle.laws_wire.specs.Views.{Word, Asked, Converted, Released, Told, View, Missing, Stuck, Is, heard, replay, entry, Awaits, Fits, told_mode, covers, proper, view_of, entry_of, reckoned}

pub replay-push : (v : View) (up : List Word) (word : Word) → replay v (up ++ word ∷ []) ≡ heard (replay v up) word
replay-push v [] word = refl
replay-push v (x ∷ up) word = replay-push (heard v x) up word

pub stuck : (up : List Word) → replay Stuck up ≡ Stuck
stuck [] = refl
stuck (x ∷ up) = stuck up

not_is : (l : Local) → Stuck ≡ Is l → ⊥
not_is l e = cc

pub not_stuck : (up : List Word) (l : Local) → replay Stuck up ≡ Is l → ⊥
not_stuck up l e = not_is l (sym (stuck up) ∙ e)

-- who waits says nothing
waits_silent : (l k : Local) (to : Mode) (word : Word) → Awaits l to → heard (Is l) word ≡ Is k → ⊥
waits_silent Free k to word a e = a
waits_silent (Held m) k to word a e = a
waits_silent (Asking b) k to (Asked c) a e = not_is k e
waits_silent (Asking b) k to (Converted c) a e = not_is k e
waits_silent (Asking b) k to Released a e = not_is k e
waits_silent (Asking b) k to (Told c) a e = not_is k e
waits_silent (Converting f b) k to (Asked c) a e = not_is k e
waits_silent (Converting f b) k to (Converted c) a e = not_is k e
waits_silent (Converting f b) k to Released a e = not_is k e
waits_silent (Converting f b) k to (Told c) a e = not_is k e

-- the node says one word more
pub fits-said : (v : View) (up : List Word) (down : List Mode) (l k : Local) (word : Word) → Fits v up down l → heard (Is l) word ≡ Is k → Fits v (up ++ word ∷ []) down k
fits-said v up [] l k word f e = replay-push v up word ∙ ap (λ u. heard u word) f ∙ e
fits-said v up (to ∷ []) l k word f e = absurd (waits_silent l k to word f.2 e)
fits-said v up (to ∷ more ∷ rest) l k word f e = f

cons_nil : {A : Type 0} (x : A) (xs : List A) → x ∷ xs ≡ [] → ⊥
cons_nil x xs e = cc

-- the master hears the first word
pub fits-heard : (v : View) (word : Word) (up : List Word) (down : List Mode) (l : Local) → Fits v (word ∷ up) down l → Fits (heard v word) up down l
fits-heard v word up [] l f = f
fits-heard v word up (to ∷ []) l f = absurd (cons_nil word up f.1)
fits-heard v word up (to ∷ more ∷ rest) l f = f

pub heard-not_stuck : (v : View) (word : Word) (up : List Word) (down : List Mode) (l : Local) → Fits v (word ∷ up) down l → heard v word ≡ Stuck → ⊥
heard-not_stuck v word up [] l f e = not_stuck up l (ap (λ u. replay u up) (sym e) ∙ f)
heard-not_stuck v word up (to ∷ []) l f e = cons_nil word up f.1
heard-not_stuck v word up (to ∷ more ∷ rest) l f e = f

-- the node takes a grant
pub fits-took : (v : View) (up : List Word) (to : Mode) (down : List Mode) (l : Local) → Fits v up (to ∷ down) l → Fits v up down (Held to)
fits-took v up to [] l f = ap (replay v) f.1 ∙ f.0
fits-took v up to (more ∷ rest) l f = absurd f

-- what a waiting view fits: nothing is on the way
pub record Waits (u : List Word) (d : List Mode) (l k : Local) : Type 0 where
  pub up : u ≡ []
  pub down : d ≡ []
  pub same : l ≡ k

is_same : (l k : Local) → Is l ≡ Is k → l ≡ k
is_same l k e = cc

silent : (word : Word) (up : List Word) (l k : Local) → heard (Is k) word ≡ Stuck → replay (Is k) (word ∷ up) ≡ Is l → ⊥
silent word up l k e f = not_stuck up l (ap (λ u. replay u up) (sym e) ∙ f)

not_held_asking : (a b : Mode) → Is (Asking a) ≡ Is (Held b) → ⊥
not_held_asking a b e = cc

not_held_converting : (f a b : Mode) → Is (Converting f a) ≡ Is (Held b) → ⊥
not_held_converting f a b e = cc

pub fits-asking : (up : List Word) (down : List Mode) (l : Local) (to : Mode) → Fits (Is (Asking to)) up down l → Waits up down l (Asking to)
fits-asking [] [] l to f = record { up = refl; down = refl; same = sym (is_same _ _ f) }
fits-asking (Asked c ∷ up) [] l to f = absurd (not_stuck up l f)
fits-asking (Converted c ∷ up) [] l to f = absurd (not_stuck up l f)
fits-asking (Released ∷ up) [] l to f = absurd (not_stuck up l f)
fits-asking (Told c ∷ up) [] l to f = absurd (not_stuck up l f)
fits-asking up (b ∷ []) l to f = absurd (not_held_asking to b f.0)
fits-asking up (b ∷ more ∷ rest) l to f = absurd f

pub fits-converting : (up : List Word) (down : List Mode) (l : Local) (from to : Mode) → Fits (Is (Converting from to)) up down l → Waits up down l (Converting from to)
fits-converting [] [] l from to f = record { up = refl; down = refl; same = sym (is_same _ _ f) }
fits-converting (Asked c ∷ up) [] l from to f = absurd (not_stuck up l f)
fits-converting (Converted c ∷ up) [] l from to f = absurd (not_stuck up l f)
fits-converting (Released ∷ up) [] l from to f = absurd (not_stuck up l f)
fits-converting (Told c ∷ up) [] l from to f = absurd (not_stuck up l f)
fits-converting up (b ∷ []) l from to f = absurd (not_held_converting from to b f.0)
fits-converting up (b ∷ more ∷ rest) l from to f = absurd f

-- Modes.

pub covers_agrees : (a b x : Option Mode) → covers a b ≡ true → agree a x ≡ true → agree b x ≡ true
covers_agrees a b x c e = grind arith

pub covers_self : (a : Option Mode) → covers a a ≡ true
covers_self a = grind arith

pub covers_trans : (a b c : Option Mode) → covers a b ≡ true → covers b c ≡ true → covers a c ≡ true
covers_trans a b c p q = grind arith

pub agree_back : (a b : Option Mode) → agree a b ≡ true → agree b a ≡ true
agree_back a b e = grind arith

kept_weaker : (from to : Mode) → weaker from (kept from to) ≡ true
kept_weaker from to = grind arith

-- who waits for a mode that isn't weaker holds what is weaker than it
pub kept_below : (from to : Mode) → weaker from to ≡ false → weaker to (kept from to) ≡ true
kept_below from to e = grind arith

-- one that is converted again is the same
pub kept_again : (from to : Mode) → weaker from to ≡ false → weaker (kept from to) to ≡ false
kept_again from to e = grind arith

pub kept_twice : (from to : Mode) → kept (kept from to) to ≡ kept from to
kept_twice from to = grind arith

converting_covers : (from to : Mode) → covers (Some from) (mode_held (converting from to)) ≡ true
converting_covers from to =
    elim (weaker from to) as (λ b. weaker from to ≡ b → covers (Some from) (mode_held (if b then Held to else Converting (kept from to) to)) ≡ true) [
      | true ↦ λ e. e
      | false ↦ λ e. kept_weaker from to
    ] refl

-- a view that is heard of further covers what it becomes
heard_covers : (l k : Local) (word : Word) → heard (Is l) word ≡ Is k → covers (mode_held l) (mode_held k) ≡ true
heard_covers Free k (Asked to) e = ap (λ s. covers None (mode_held s)) (sym (is_same _ _ e))
heard_covers Free k (Converted to) e = absurd (not_is k e)
heard_covers Free k Released e = absurd (not_is k e)
heard_covers Free k (Told t) e = absurd (not_is k e)
heard_covers (Asking a) k (Asked to) e = absurd (not_is k e)
heard_covers (Asking a) k (Converted to) e = absurd (not_is k e)
heard_covers (Asking a) k Released e = absurd (not_is k e)
heard_covers (Asking a) k (Told t) e = absurd (not_is k e)
heard_covers (Held m) k (Asked to) e = absurd (not_is k e)
heard_covers (Held m) k (Converted to) e = ap (λ s. covers (Some m) (mode_held s)) (sym (is_same _ _ e)) ∙ converting_covers m to
heard_covers (Held m) k Released e = ap (λ s. covers (Some m) (mode_held s)) (sym (is_same _ _ e))
heard_covers (Held m) k (Told t) e = absurd (not_is k e)
heard_covers (Converting f a) k (Asked to) e = absurd (not_is k e)
heard_covers (Converting f a) k (Converted to) e = absurd (not_is k e)
heard_covers (Converting f a) k Released e = absurd (not_is k e)
heard_covers (Converting f a) k (Told t) e = absurd (not_is k e)

not_missing : (l : Local) → Missing ≡ Is l → ⊥
not_missing l e = cc

pub never_missing : (l : Local) (word : Word) → heard (Is l) word ≡ Missing → ⊥
never_missing Free (Asked to) e = cc
never_missing Free (Converted to) e = cc
never_missing Free Released e = cc
never_missing Free (Told t) e = cc
never_missing (Asking a) (Asked to) e = cc
never_missing (Asking a) (Converted to) e = cc
never_missing (Asking a) Released e = cc
never_missing (Asking a) (Told t) e = cc
never_missing (Held m) (Asked to) e = cc
never_missing (Held m) (Converted to) e = cc
never_missing (Held m) Released e = cc
never_missing (Held m) (Told t) e = cc
never_missing (Converting f a) (Asked to) e = cc
never_missing (Converting f a) (Converted to) e = cc
never_missing (Converting f a) Released e = cc
never_missing (Converting f a) (Told t) e = cc

pub replay_covers : (l k : Local) (up : List Word) → replay (Is l) up ≡ Is k → covers (mode_held l) (mode_held k) ≡ true
replay_covers l k [] e = ap (λ s. covers (mode_held l) (mode_held s)) (sym (is_same l k e)) ∙ covers_self (mode_held l)
replay_covers l k (word ∷ up) e =
    elim (heard (Is l) word) as (λ v. heard (Is l) word ≡ v → replay v up ≡ Is k → covers (mode_held l) (mode_held k) ≡ true) [
      | Missing ↦ λ h r. absurd (never_missing l word h)
      | Stuck ↦ λ h r. absurd (not_stuck up k r)
      | Is m ↦ λ h r. covers_trans (mode_held l) (mode_held m) (mode_held k) (heard_covers l m word h) (replay_covers m k up r)
    ] refl e

missing_covers : (k : Local) (up : List Word) → replay Missing up ≡ Is k → covers (told_mode up) (mode_held k) ≡ true
missing_covers k [] e = absurd (not_missing k e)
missing_covers k (Asked to ∷ up) e = absurd (not_stuck up k e)
missing_covers k (Converted to ∷ up) e = absurd (not_stuck up k e)
missing_covers k (Released ∷ up) e = absurd (not_stuck up k e)
missing_covers k (Told l ∷ up) e = elim (proper l) as (λ b. replay (if b then Is l else Stuck) up ≡ Is k → covers (mode_held l) (mode_held k) ≡ true) [ true ↦ λ h. replay_covers l k up h | false ↦ λ h. absurd (not_stuck up k h) ] e

-- what a table has covers its view
entry_covers : (held : Option Mode) (conversions requests : List Mode) (l : Local) → entry held conversions requests ≡ Is l → covers held (mode_held l) ≡ true
entry_covers None [] [] l e = ap (λ s. covers None (mode_held s)) (sym (is_same _ _ e))
entry_covers None [] (to ∷ []) l e = ap (λ s. covers None (mode_held s)) (sym (is_same _ _ e))
entry_covers None [] (to ∷ a ∷ more) l e = absurd (not_is l e)
entry_covers None (to ∷ more) requests l e = absurd (not_is l e)
entry_covers (Some m) [] [] l e = ap (λ s. covers (Some m) (mode_held s)) (sym (is_same _ _ e)) ∙ covers_self (Some m)
entry_covers (Some m) [] (to ∷ more) l e = absurd (not_is l e)
entry_covers (Some m) (to ∷ []) [] l e =
    elim (weaker m to) as (λ b. weaker m to ≡ b → (if b then Stuck else Is (converting m to)) ≡ Is l → covers (Some m) (mode_held l) ≡ true) [
      | true ↦ λ w h. absurd (not_is l h)
      | false ↦ λ w h. ap (λ s. covers (Some m) (mode_held s)) (sym (is_same _ _ h)) ∙ converting_covers m to
    ] refl e
entry_covers (Some m) (to ∷ []) (a ∷ more) l e = absurd (not_is l e)
entry_covers (Some m) (to ∷ a ∷ more) requests l e = absurd (not_is l e)

never_if : (b : Bool) (l : Local) → (if b then Stuck else Is l) ≡ Missing → ⊥
never_if true l e = cc
never_if false l e = cc

pub never_entry : (held : Option Mode) (conversions requests : List Mode) → entry held conversions requests ≡ Missing → ⊥
never_entry None [] [] e = cc
never_entry None [] (to ∷ []) e = cc
never_entry None [] (to ∷ a ∷ more) e = cc
never_entry None (to ∷ more) requests e = cc
never_entry (Some m) [] [] e = cc
never_entry (Some m) [] (to ∷ more) e = cc
never_entry (Some m) (to ∷ []) [] e = never_if (weaker m to) _ e
never_entry (Some m) (to ∷ []) (a ∷ more) e = cc
never_entry (Some m) (to ∷ a ∷ more) requests e = cc

-- what an entry says, by its view
pub record Entries (h : Option Mode) (c q : List Mode) (x : Option Mode) (y z : List Mode) : Type 0 where
  pub held : h ≡ x
  pub conversions : c ≡ y
  pub requests : q ≡ z

is_held : (a b : Mode) → Is (Held a) ≡ Is (Held b) → a ≡ b
is_held a b e = cc

converting_free : (b : Bool) (f m to : Mode) → (if b then Stuck else Is (if b then Held to else Converting (kept m to) to)) ≡ Is Free → ⊥
converting_free true f m to e = cc
converting_free false f m to e = cc

converting_held : (b : Bool) (a m to : Mode) → (if b then Stuck else Is (if b then Held to else Converting (kept m to) to)) ≡ Is (Held a) → ⊥
converting_held true a m to e = cc
converting_held false a m to e = cc

pub entry_free : (held : Option Mode) (conversions requests : List Mode) → entry held conversions requests ≡ Is Free → Entries held conversions requests None [] []
entry_free None [] [] e = record { held = refl; conversions = refl; requests = refl }
entry_free None [] (to ∷ []) e = cc
entry_free None [] (to ∷ a ∷ more) e = cc
entry_free None (to ∷ more) requests e = cc
entry_free (Some m) [] [] e = cc
entry_free (Some m) [] (to ∷ more) e = cc
entry_free (Some m) (to ∷ []) [] e = absurd (converting_free (weaker m to) m m to e)
entry_free (Some m) (to ∷ []) (a ∷ more) e = cc
entry_free (Some m) (to ∷ a ∷ more) requests e = cc

pub entry_is_held : (held : Option Mode) (conversions requests : List Mode) (a : Mode) → entry held conversions requests ≡ Is (Held a) → Entries held conversions requests (Some a) [] []
entry_is_held None [] [] a e = cc
entry_is_held None [] (to ∷ []) a e = cc
entry_is_held None [] (to ∷ b ∷ more) a e = cc
entry_is_held None (to ∷ more) requests a e = cc
entry_is_held (Some m) [] [] a e = record { held = ap Some (is_held m a e); conversions = refl; requests = refl }
entry_is_held (Some m) [] (to ∷ more) a e = cc
entry_is_held (Some m) (to ∷ []) [] a e = absurd (converting_held (weaker m to) a m to e)
entry_is_held (Some m) (to ∷ []) (b ∷ more) a e = cc
entry_is_held (Some m) (to ∷ b ∷ more) requests a e = cc

entry_held : (held : Option Mode) (conversions requests : List Mode) (a : Mode) → entry held conversions requests ≡ Is (Held a) → held ≡ Some a
entry_held held conversions requests a e = (entry_is_held held conversions requests a e).held

waiting_covers : (l : Local) (to : Mode) → Awaits l to → covers (Some to) (mode_held l) ≡ true
waiting_covers Free to a = absurd a
waiting_covers (Asking b) to a = refl
waiting_covers (Held m) to a = absurd a
waiting_covers (Converting f b) to a = a.1

view_covers : (b : Bool) (lock : Lock) (up : List Word) (n : ℕ) (k : Local) → replay (view_of b lock n) up ≡ Is k → covers (reckoned b lock up n) (mode_held k) ≡ true
view_covers true lock up n k e = missing_covers k up e
view_covers false lock up n k e =
    elim (entry_of lock n) as (λ v. entry_of lock n ≡ v → replay v up ≡ Is k → covers (lock.held n) (mode_held k) ≡ true) [
      | Missing ↦ λ h r. absurd (never_entry (lock.held n) (asks_of n lock.conversions) (asks_of n lock.requests) h)
      | Stuck ↦ λ h r. absurd (not_stuck up k r)
      | Is l ↦ λ h r. covers_trans (lock.held n) (mode_held l) (mode_held k) (entry_covers (lock.held n) _ _ l h) (replay_covers l k up r)
    ] refl e

held_view : (b : Bool) (lock : Lock) (up : List Word) (n : ℕ) (to : Mode) → view_of b lock n ≡ Is (Held to) → reckoned b lock up n ≡ Some to
held_view true lock up n to e = absurd (not_missing (Held to) e)
held_view false lock up n to e = entry_held (lock.held n) (asks_of n lock.conversions) (asks_of n lock.requests) to e

-- what a master reckons with covers what the node holds
pub fits_covers : (b : Bool) (lock : Lock) (up : List Word) (down : List Mode) (n : ℕ) (l : Local) → Fits (view_of b lock n) up down l → covers (reckoned b lock up n) (mode_held l) ≡ true
fits_covers b lock up [] n l f = view_covers b lock up n l f
fits_covers b lock up (to ∷ []) n l f = rw (held_view b lock up n to f.0) (waiting_covers l to f.2)
fits_covers b lock up (to ∷ more ∷ rest) n l f = absurd f
