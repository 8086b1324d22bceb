-- What each call keeps of one resource.
use Rattle.std.proofs.Common.{◌≡◌, ◌≢◌, ◌⊎◌, inl, inr, ℕ, ◌<◌, ◌≤◌, List, [], ◌∷◌, ◌++◌, Bool, true, false, ◌==◌, Option, Some, None, refl, sym, ap, ◌∙◌, subst, arith, if◌then◌else◌}
use Rattle.std.proofs.lemmas.Bool.Decides.{nat_tests}
use Rattle.dlm_modes.specs.Modes.{weaker}
use Rattle.dlm_modes.specs.Points.{with_at}
use Rattle.dlm_modes.specs.declared.block.Block.{Block}
use Rattle.dlm_modes.specs.declared.mode.Mode.{Mode}
use Rattle.dlm_space.specs.Locks.{Lock, new_lock, disagrees, asked, converted, released, died, mode_of, granted_from, answer_to, answer_from, head_refusal}
use Rattle.dlm_space.specs.Orderly.{agree}
use Rattle.dlm_space.specs.Queues.{asks_of, head}
use Rattle.dlm_modes.specs.declared.mode.Mode.TheVariants.{NL}
use Rattle.dlm_space.specs.declared.ask.Ask.{Ask}
use Rattle.dlm_space.specs.declared.answers.Granted.{Granted}
use Rattle.dlm_space.specs.declared.answers.LockError.TheVariants.{NothingAsked}
use Rattle.dlm_space.proofs.GuardLaws.{none_against, head_grantable}
use Rattle.lock_wire.specs.Locals.{mode_held}
use Rattle.lock_wire.specs.Machine.{asking, converts, releases, entered}
use Rattle.lock_wire.specs.declared.local.Local.{Local}
use Rattle.lock_wire.specs.declared.local.Local.TheVariants.{Free, Asking, Held, Converting}
use Rattle.laws_wire.specs.Views.{Word, Asked, Converted, Released, Told, View, Missing, Stuck, Is, heard, entry_of, view_of, proper, Awaits, Fits, told_mode, reckoned, covers, open_in, Open}
use Rattle.laws_wire.specs.Invariants.{Fitting}
use Rattle.laws_wire.proofs.ViewLaws.{not_stuck, fits-said, fits-heard, heard-not_stuck, fits-took, Waits, fits-asking, fits-converting, covers_agrees, covers_self, agree_back, fits_covers, never_entry}
use Rattle.laws_wire.proofs.TableLaws.{asking-is, asked_own, asked_other, converts-is, converted_own, converted_other, converted_held, converted_others_held, releases-is, released_own, released_other, died_own, died_other, FitsAll, FitsLocal, entered_own, entered_other, free_at-is, held_at-is, entered_held, entered_others_held, released_held, released_others_held, died_others_held, Heads, serves_conversion, serves_request}

pub same_or : (k n : ℕ) → (k ≡ n) ⊎ (k ≢ n)
same_or k n = elim (k == n) as (λ b. (k == n) ≡ b → (k ≡ n) ⊎ (k ≢ n)) [ true ↦ λ t. inl (grind (arith, nat_tests)) | false ↦ λ f. inr (λ e. differs k n f e) ] refl
  where
    differs : (k n : ℕ) → (k == n) ≡ false → k ≡ n → ⊥
    differs k n f e = grind (arith, nat_tests)

-- a claim at each node, at one and at the others
pub at_each : (P : ℕ → Type 0) (n : ℕ) → P n → ((k : ℕ) → k ≢ n → P k) → (k : ℕ) → P k
at_each P n own other k = elim (same_or k n) [ inl e ↦ subst P (sym e) own | inr ne ↦ other k ne ]

pub fits-move : (v w : View) (up up' : List Word) (down down' : List Mode) (l k : Local) → v ≡ w → up ≡ up' → down ≡ down' → l ≡ k → Fits v up down l → Fits w up' down' k
fits-move v w up up' down down' l k a b c d f =
    subst (λ x. Fits w up' down' x) d (subst (λ x. Fits w up' x l) c (subst (λ x. Fits w x down l) b (subst (λ x. Fits x up down l) a f)))

abbrev Apart : (ℕ → Bool) → (ℕ → Option Mode) → Type 0
Apart live f = (n m : ℕ) → n ≢ m → live n ≡ true → live m ≡ true → agree (f n) (f m) ≡ true

-- what is covered stays apart
pub apart-covers : (live : ℕ → Bool) (f g : ℕ → Option Mode) → ((n : ℕ) → live n ≡ true → covers (f n) (g n) ≡ true) → Apart live f → Apart live g
apart-covers live f g c a n m ne ln lm =
    let one : agree (g n) (f m) ≡ true = covers_agrees (f n) (g n) (f m) (c n ln) (a n m ne ln lm) in
    agree_back (g m) (g n) (covers_agrees (f m) (g m) (g n) (c m lm) (agree_back (g n) (f m) one))

covers_same : (a b : Option Mode) → b ≡ a → covers a b ≡ true
covers_same a b e = ap (covers a) e ∙ covers_self a

view_same : (b c : Bool) (lock now : Lock) (n : ℕ) → c ≡ b → entry_of now n ≡ entry_of lock n → view_of b lock n ≡ view_of c now n
view_same b c lock now n e f = subst (λ x. view_of b lock n ≡ view_of x now n) (sym e) (at b)
  where
    at : (x : Bool) → view_of x lock n ≡ view_of x now n
    at true = refl
    at false = sym f

-- A node says a word.

missing_up : (up : List Word) (word : Word) (down : List Mode) (l : Local) → Fits Missing up down l → told_mode (up ++ word ∷ []) ≡ told_mode up
missing_up [] word [] l f = absurd (not_is l f)
  where
    not_is : (l : Local) → Missing ≡ Is l → ⊥
    not_is l e = cc
missing_up (x ∷ up) word [] l f = first x up word
  where
    first : (x : Word) (up : List Word) (word : Word) → told_mode (x ∷ up ++ word ∷ []) ≡ told_mode (x ∷ up)
    first (Asked to) up word = refl
    first (Converted to) up word = refl
    first Released up word = refl
    first (Told l) up word = refl
missing_up up word (to ∷ []) l f = absurd (not_held to f.0)
  where
    not_held : (to : Mode) → Missing ≡ Is (Held to) → ⊥
    not_held to e = cc
missing_up up word (to ∷ more ∷ rest) l f = absurd f

said_reckoned : (b : Bool) (lock : Lock) (up : List Word) (word : Word) (down : List Mode) (n : ℕ) (l : Local) → Fits (view_of b lock n) up down l → reckoned b lock (up ++ word ∷ []) n ≡ reckoned b lock up n
said_reckoned true lock up word down n l f = missing_up up word down l f
said_reckoned false lock up word down n l f = refl

reckoned_up : (b : Bool) (lock : Lock) (up more : List Word) (n : ℕ) → more ≡ up → reckoned b lock more n ≡ reckoned b lock up n
reckoned_up b lock up more n e = ap (λ u. reckoned b lock u n) e

pub said : (live : ℕ → Bool) (lock : Lock) (awaited : ℕ → Bool) (local now : ℕ → Local) (up more : ℕ → List Word) (down : ℕ → List Mode) (n : ℕ) (k : Local) (word : Word) → Fitting live lock awaited local up down → live n ≡ true → heard (Is (local n)) word ≡ Is k → proper k ≡ true → now n ≡ k → ((m : ℕ) → m ≢ n → now m ≡ local m) → more n ≡ up n ++ word ∷ [] → ((m : ℕ) → m ≢ n → more m ≡ up m) → Fitting live lock awaited now more down
said live lock awaited local now up more down n k word i ln h p nn nk mo mk = record {
  fits = at_each (λ m. live m ≡ true → Fits (view_of (awaited m) lock m) (more m) (down m) (now m)) n
      (λ l. fits-move (view_of (awaited n) lock n) (view_of (awaited n) lock n) (up n ++ word ∷ []) (more n) (down n) (down n) k (now n) refl (sym mo) refl (sym nn) (fits-said _ (up n) (down n) (local n) k word (i.fits n l) h))
      (λ m ne l. fits-move (view_of (awaited m) lock m) (view_of (awaited m) lock m) (up m) (more m) (down m) (down m) (local m) (now m) refl (sym (mk m ne)) refl (sym (nk m ne)) (i.fits m l));
  gone = i.gone;
  silent = i.silent;
  apart = apart-covers live (λ m. reckoned (awaited m) lock (up m) m) (λ m. reckoned (awaited m) lock (more m) m)
      (at_each (λ m. live m ≡ true → covers (reckoned (awaited m) lock (up m) m) (reckoned (awaited m) lock (more m) m) ≡ true) n
      (λ l. covers_same _ _ (reckoned_up (awaited n) lock _ _ n mo ∙ said_reckoned (awaited n) lock (up n) word (down n) n (local n) (i.fits n l)))
      (λ m ne l. covers_same _ _ (reckoned_up (awaited m) lock _ _ m (mk m ne))))
      i.apart;
  proper = at_each (λ m. live m ≡ true → proper (now m) ≡ true) n (λ l. ap proper nn ∙ p) (λ m ne l. ap proper (nk m ne) ∙ i.proper m l);
}

-- A node takes a grant.

pub took : (live : ℕ → Bool) (lock : Lock) (awaited : ℕ → Bool) (local now : ℕ → Local) (up : ℕ → List Word) (down less : ℕ → List Mode) (n : ℕ) (to : Mode) → Fitting live lock awaited local up down → down n ≡ to ∷ less n → now n ≡ Held to → ((m : ℕ) → m ≢ n → now m ≡ local m) → ((m : ℕ) → m ≢ n → less m ≡ down m) → Fitting live lock awaited now up less
took live lock awaited local now up down less n to i d nn nk dk = record {
  fits = at_each (λ m. live m ≡ true → Fits (view_of (awaited m) lock m) (up m) (less m) (now m)) n
      (λ l. fits-move (view_of (awaited n) lock n) (view_of (awaited n) lock n) (up n) (up n) (less n) (less n) (Held to) (now n) refl refl refl (sym nn) (fits-took (view_of (awaited n) lock n) (up n) to (less n) (local n) (fits-move (view_of (awaited n) lock n) (view_of (awaited n) lock n) (up n) (up n) (down n) (to ∷ less n) (local n) (local n) refl refl d refl (i.fits n l))))
      (λ m ne l. fits-move (view_of (awaited m) lock m) (view_of (awaited m) lock m) (up m) (up m) (down m) (less m) (local m) (now m) refl refl (sym (dk m ne)) (sym (nk m ne)) (i.fits m l));
  gone = i.gone;
  silent = i.silent;
  apart = i.apart;
  proper = at_each (λ m. live m ≡ true → proper (now m) ≡ true) n (λ l. ap proper nn) (λ m ne l. ap proper (nk m ne) ∙ i.proper m l);
}

-- A master hears the first word.

true_not_false : true ≡ false → ⊥
true_not_false e = cc

pub heard_of : (live : ℕ → Bool) (lock now : Lock) (awaited awaits : ℕ → Bool) (local : ℕ → Local) (up rest : ℕ → List Word) (down : ℕ → List Mode) (n : ℕ) (word : Word) → Fitting live lock awaited local up down → live n ≡ true → up n ≡ word ∷ rest n → ((m : ℕ) → m ≢ n → rest m ≡ up m) → awaits n ≡ false → ((m : ℕ) → m ≢ n → awaits m ≡ awaited m) → entry_of now n ≡ heard (view_of (awaited n) lock n) word → ((m : ℕ) → m ≢ n → entry_of now m ≡ entry_of lock m) → covers (reckoned (awaited n) lock (word ∷ rest n) n) (now.held n) ≡ true → ((m : ℕ) → m ≢ n → now.held m ≡ lock.held m) → Fitting live now awaits local rest down
heard_of live lock now awaited awaits local up rest down n word i ln first others an ak own other cov held = record {
  fits = at_each (λ m. live m ≡ true → Fits (view_of (awaits m) now m) (rest m) (down m) (local m)) n
      (λ l. fits-move (heard (view_of (awaited n) lock n) word) (view_of (awaits n) now n) (rest n) (rest n) (down n) (down n) (local n) (local n) (sym own ∙ ap (λ b. view_of b now n) (sym an)) refl refl refl (fits-heard (view_of (awaited n) lock n) word (rest n) (down n) (local n) (fits-move (view_of (awaited n) lock n) (view_of (awaited n) lock n) (up n) (word ∷ rest n) (down n) (down n) (local n) (local n) refl first refl refl (i.fits n l))))
      (λ m ne l. fits-move (view_of (awaited m) lock m) (view_of (awaits m) now m) (up m) (rest m) (down m) (down m) (local m) (local m) (view_same (awaited m) (awaits m) lock now m (ak m ne) (other m ne)) (sym (others m ne)) refl refl (i.fits m l));
  gone = at_each (λ m. live m ≡ false → entry_of now m ≡ Is Free) n (λ d. absurd (true_not_false (sym ln ∙ d))) (λ m ne d. other m ne ∙ i.gone m d);
  silent = at_each (λ m. awaits m ≡ true → entry_of now m ≡ Is Free) n (λ t. absurd (true_not_false (sym t ∙ an))) (λ m ne t. other m ne ∙ i.silent m (sym (ak m ne) ∙ t));
  apart = apart-covers live (λ m. reckoned (awaited m) lock (up m) m) (λ m. reckoned (awaits m) now (rest m) m)
      (at_each (λ m. live m ≡ true → covers (reckoned (awaited m) lock (up m) m) (reckoned (awaits m) now (rest m) m) ≡ true) n
      (λ l. ap (λ b. covers (reckoned (awaited n) lock (up n) n) (reckoned b now (rest n) n)) an ∙ ap (λ u. covers (reckoned (awaited n) lock u n) (now.held n)) first ∙ cov)
      (λ m ne l. covers_same _ _ (ap (λ b. reckoned b now (rest m) m) (ak m ne) ∙ ap (λ u. reckoned (awaited m) now u m) (others m ne) ∙ same_held (awaited m) m (held m ne) (up m))))
      i.apart;
  proper = i.proper;
}
  where
    same_held : (b : Bool) (m : ℕ) → now.held m ≡ lock.held m → (u : List Word) → reckoned b now u m ≡ reckoned b lock u m
    same_held true m e u = refl
    same_held false m e u = e

-- What a view that hears a word was.

not_stuck_is : (l : Local) → Stuck ≡ Is l → ⊥
not_stuck_is l e = cc

view_is : (b : Bool) (lock : Lock) (n : ℕ) (l : Local) → view_of b lock n ≡ Is l → (b ≡ false) × (entry_of lock n ≡ Is l)
view_is true lock n l e = absurd (missing l e)
  where
    missing : (l : Local) → Missing ≡ Is l → ⊥
    missing l e = cc
view_is false lock n l e = (refl, e)

hears_asked : (v : View) (to : Mode) → (heard v (Asked to) ≡ Stuck → ⊥) → v ≡ Is Free
hears_asked Missing to f = absurd (f refl)
hears_asked Stuck to f = absurd (f refl)
hears_asked (Is Free) to f = refl
hears_asked (Is (Asking a)) to f = absurd (f refl)
hears_asked (Is (Held a)) to f = absurd (f refl)
hears_asked (Is (Converting b a)) to f = absurd (f refl)

hears_converted : (v : View) (to : Mode) → (heard v (Converted to) ≡ Stuck → ⊥) → (m : Mode) × (v ≡ Is (Held m))
hears_converted Missing to f = absurd (f refl)
hears_converted Stuck to f = absurd (f refl)
hears_converted (Is Free) to f = absurd (f refl)
hears_converted (Is (Asking a)) to f = absurd (f refl)
hears_converted (Is (Held a)) to f = (a, refl)
hears_converted (Is (Converting b a)) to f = absurd (f refl)

hears_released : (v : View) → (heard v Released ≡ Stuck → ⊥) → (m : Mode) × (v ≡ Is (Held m))
hears_released Missing f = absurd (f refl)
hears_released Stuck f = absurd (f refl)
hears_released (Is Free) f = absurd (f refl)
hears_released (Is (Asking a)) f = absurd (f refl)
hears_released (Is (Held a)) f = (a, refl)
hears_released (Is (Converting b a)) f = absurd (f refl)

hears_told : (v : View) (l : Local) → (heard v (Told l) ≡ Stuck → ⊥) → (v ≡ Missing) × (proper l ≡ true)
hears_told Missing l f = (refl, by_test (proper l) refl)
  where
    by_test : (b : Bool) → proper l ≡ b → proper l ≡ true
    by_test true e = e
    by_test false e = absurd (f (ap (λ b. if b then Is l else Stuck) e))
hears_told Stuck l f = absurd (f refl)
hears_told (Is Free) l f = absurd (f refl)
hears_told (Is (Asking a)) l f = absurd (f refl)
hears_told (Is (Held a)) l f = absurd (f refl)
hears_told (Is (Converting b a)) l f = absurd (f refl)

missing_awaited : (b : Bool) (lock : Lock) (n : ℕ) → view_of b lock n ≡ Missing → b ≡ true
missing_awaited true lock n e = refl
missing_awaited false lock n e = absurd (never_entry (lock.held n) (asks_of n lock.conversions) (asks_of n lock.requests) e)

awaited_reckoned : (b : Bool) (lock : Lock) (u : List Word) (n : ℕ) → b ≡ true → reckoned b lock u n ≡ told_mode u
awaited_reckoned b lock u n e = ap (λ x. reckoned x lock u n) e

table_reckoned : (b : Bool) (lock : Lock) (u : List Word) (n : ℕ) → b ≡ false → reckoned b lock u n ≡ lock.held n
table_reckoned b lock u n e = ap (λ x. reckoned x lock u n) e

disagrees_not : (f : Mode) (h : Option Mode) → agree (Some f) h ≡ true → disagrees f h ≡ false
disagrees_not f h e = grind arith

truth : (b : Bool) → (b ≡ true) ⊎ (b ≡ false)
truth true = inl refl
truth false = inr refl

covers_converted : (m to : Mode) → covers (Some m) (if weaker m to then Some to else Some m) ≡ true
covers_converted m to = grind arith

-- The words, one by one. What the node said last but heard first fits the table.

module _ (live : ℕ → Bool) (lock : Lock) (awaited : ℕ → Bool) (local : ℕ → Local) (up rest : ℕ → List Word) (down : ℕ → List Mode) (n : ℕ) where
  -- the word can be heard
  fine : (word : Word) → Fitting live lock awaited local up down → live n ≡ true → up n ≡ word ∷ rest n → heard (view_of (awaited n) lock n) word ≡ Stuck → ⊥
  fine word i ln first = heard-not_stuck (view_of (awaited n) lock n) word (rest n) (down n) (local n) (fits-move (view_of (awaited n) lock n) (view_of (awaited n) lock n) (up n) (word ∷ rest n) (down n) (down n) (local n) (local n) refl first refl refl (i.fits n ln))

  pub hears_ask : (to : Mode) → Fitting live lock awaited local up down → live n ≡ true → up n ≡ Asked to ∷ rest n → ((m : ℕ) → m ≢ n → rest m ≡ up m) → Fitting live (asking lock n to) awaited local rest down
  hears_ask to i ln first others =
      let v : view_of (awaited n) lock n ≡ Is Free = hears_asked _ to (fine (Asked to) i ln first) in
      let e = view_is (awaited n) lock n Free v in
      let f = free_at-is lock n e.1 in
      rw (asking-is lock n to e.1)
      (heard_of live lock (asked lock n to) awaited awaited local up rest down n (Asked to) i ln first others e.0 (λ m ne. refl)
      (asked_own lock n to e.1 ∙ sym (ap (λ w. heard w (Asked to)) v))
      (λ m ne. asked_other lock n m to ne)
      (subst (λ h. covers (reckoned (awaited n) lock (Asked to ∷ rest n) n) h ≡ true) (sym f.held) refl)
      (λ m ne. refl))

  pub hears_convert : (to : Mode) (value : Option Block) → Fitting live lock awaited local up down → live n ≡ true → up n ≡ Converted to ∷ rest n → ((m : ℕ) → m ≢ n → rest m ≡ up m) → Fitting live (converts lock n to value) awaited local rest down
  hears_convert to value i ln first others =
      let v = hears_converted _ to (fine (Converted to) i ln first) in
      let e = view_is (awaited n) lock n (Held v.0) v.1 in
      let f = held_at-is lock n v.0 e.1 in
      rw (converts-is lock n v.0 to value e.1)
      (heard_of live lock (converted lock n to value) awaited awaited local up rest down n (Converted to) i ln first others e.0 (λ m ne. refl)
      (converted_own lock n v.0 to value e.1 ∙ sym (ap (λ w. heard w (Converted to)) v.1))
      (λ m ne. converted_other lock n m to value ne)
      (subst (λ h. covers h ((converted lock n to value).held n) ≡ true) (sym (table_reckoned (awaited n) lock _ n e.0 ∙ f.held))
      (subst (λ h. covers (Some v.0) h ≡ true) (sym (converted_held lock n v.0 to value e.1)) (covers_converted v.0 to)))
      (λ m ne. converted_others_held lock n m to value ne))

  pub hears_release : (value : Option Block) → Fitting live lock awaited local up down → live n ≡ true → up n ≡ Released ∷ rest n → ((m : ℕ) → m ≢ n → rest m ≡ up m) → Fitting live (releases lock n value) awaited local rest down
  hears_release value i ln first others =
      let v = hears_released _ (fine Released i ln first) in
      let e = view_is (awaited n) lock n (Held v.0) v.1 in
      rw (releases-is lock n v.0 value e.1)
      (heard_of live lock (released lock n value) awaited awaited local up rest down n Released i ln first others e.0 (λ m ne. refl)
      (released_own lock n v.0 value e.1 ∙ sym (ap (λ w. heard w Released) v.1))
      (λ m ne. released_other lock n m value ne)
      (subst (λ h. covers (reckoned (awaited n) lock (Released ∷ rest n) n) h ≡ true) (sym (released_held lock n value)) refl)
      (λ m ne. released_others_held lock n m value ne))

  -- what a node reports disagrees with no holder
  fits_others : (l : Local) (f : Mode) → Fitting live lock awaited local up down → live n ≡ true → awaited n ≡ true → up n ≡ Told l ∷ rest n → mode_held l ≡ Some f → FitsAll lock n f
  fits_others l f i ln an first h m ne = elim (truth (live m)) [
    | inr dead ↦ ap (disagrees f) (free_at-is lock m (i.gone m dead)).held
    | inl lm ↦ elim (truth (awaited m)) [
      | inl am ↦ ap (disagrees f) (free_at-is lock m (i.silent m am)).held
      | inr am ↦
          let told : reckoned (awaited n) lock (up n) n ≡ Some f = awaited_reckoned (awaited n) lock (up n) n an ∙ ap told_mode first ∙ h in
          let there : reckoned (awaited m) lock (up m) m ≡ lock.held m = table_reckoned (awaited m) lock (up m) m am in
          disagrees_not f (lock.held m) (subst (λ x. agree (Some f) x ≡ true) there (subst (λ x. agree x (reckoned (awaited m) lock (up m) m) ≡ true) told (i.apart n m (λ e. ne (sym e)) ln lm)))
    ]
  ]

  fits_local : (l : Local) → Fitting live lock awaited local up down → live n ≡ true → awaited n ≡ true → up n ≡ Told l ∷ rest n → FitsLocal lock n l
  fits_local Free i ln an first = tt
  fits_local (Asking to) i ln an first = tt
  fits_local (Held mode) i ln an first = fits_others (Held mode) mode i ln an first refl
  fits_local (Converting from to) i ln an first = fits_others (Converting from to) from i ln an first refl

  pub ask_view : (to : Mode) → Fitting live lock awaited local up down → live n ≡ true → up n ≡ Asked to ∷ rest n → entry_of lock n ≡ Is Free
  ask_view to i ln first = (view_is (awaited n) lock n Free (hears_asked _ to (fine (Asked to) i ln first))).1

  pub convert_view : (to : Mode) → Fitting live lock awaited local up down → live n ≡ true → up n ≡ Converted to ∷ rest n → (m : Mode) × (entry_of lock n ≡ Is (Held m))
  convert_view to i ln first = let v = hears_converted _ to (fine (Converted to) i ln first) in (v.0, (view_is (awaited n) lock n (Held v.0) v.1).1)

  pub release_view : Fitting live lock awaited local up down → live n ≡ true → up n ≡ Released ∷ rest n → (m : Mode) × (entry_of lock n ≡ Is (Held m))
  release_view i ln first = let v = hears_released _ (fine Released i ln first) in (v.0, (view_is (awaited n) lock n (Held v.0) v.1).1)

  pub record ReportView (l : Local) : Type 0 where
    pub free : entry_of lock n ≡ Is Free
    pub fits : FitsLocal lock n l

  pub report_view : (l : Local) → Fitting live lock awaited local up down → live n ≡ true → up n ≡ Told l ∷ rest n → ReportView l
  report_view l i ln first =
      let v = hears_told _ l (fine (Told l) i ln first) in
      let was : awaited n ≡ true = missing_awaited (awaited n) lock n v.0 in
      record { free = i.silent n was; fits = fits_local l i ln was first }

  pub hears_report : (awaits : ℕ → Bool) (l : Local) → Fitting live lock awaited local up down → live n ≡ true → up n ≡ Told l ∷ rest n → ((m : ℕ) → m ≢ n → rest m ≡ up m) → awaits n ≡ false → ((m : ℕ) → m ≢ n → awaits m ≡ awaited m) → Fitting live (entered lock n l) awaits local rest down
  hears_report awaits l i ln first others an ak =
      let v = hears_told _ l (fine (Told l) i ln first) in
      let was : awaited n ≡ true = missing_awaited (awaited n) lock n v.0 in
      let clear : entry_of lock n ≡ Is Free = i.silent n was in
      let f = fits_local l i ln was first in
      heard_of live lock (entered lock n l) awaited awaits local up rest down n (Told l) i ln first others an ak
      (entered_own lock n l clear v.1 f ∙ sym (ap (λ w. heard w (Told l)) v.0 ∙ ap (λ b. if b then Is l else Stuck) v.1))
      (λ m ne. entered_other lock n m l clear f ne)
      (subst (λ h. covers h ((entered lock n l).held n) ≡ true) (sym (awaited_reckoned (awaited n) lock (Told l ∷ rest n) n was)) (covers_same _ _ (entered_held lock n l clear v.1 f)))
      (λ m ne. entered_others_held lock n m l clear f ne)

the_same : {A : Type 0} (x y : A) → Some x ≡ Some y → x ≡ y
the_same x y e = cc

pub awaits_open : (l : Local) (to : Mode) → Awaits l to → open_in l ≡ Open to
awaits_open Free to a = absurd a
awaits_open (Asking b) to a = ap Open a
awaits_open (Held m) to a = absurd a
awaits_open (Converting f b) to a = ap Open a.0

-- The head is served.

fits_stuck : (up : List Word) (down : List Mode) (l : Local) → Fits Stuck up down l → ⊥
fits_stuck up [] l f = not_stuck up l f
fits_stuck up (to ∷ []) l f = not_stuck_is (Held to) f.0
fits_stuck up (to ∷ more ∷ rest) l f = f

fits_awaits : (up : List Word) (down : List Mode) (k l : Local) (to : Mode) → Awaits l to → Fits (Is l) up down k → Waits up down k l
fits_awaits up down k Free to a f = absurd a
fits_awaits up down k (Asking b) to a f = fits-asking up down k b f
fits_awaits up down k (Held m) to a f = absurd a
fits_awaits up down k (Converting x b) to a f = fits-converting up down k x b f

module _ (live : ℕ → Bool) (lock now : Lock) (awaited : ℕ → Bool) (local : ℕ → Local) (up : ℕ → List Word) (down more : ℕ → List Mode) (a : Ask) where
  serves_apart : ((n : ℕ) → live n ≡ true → awaited n ≡ false) → Apart live (λ n. reckoned (awaited n) lock (up n) n) → FitsAll lock a.node a.mode → now.held a.node ≡ Some a.mode → ((k : ℕ) → k ≢ a.node → now.held k ≡ lock.held k) → Apart live (λ n. reckoned (awaited n) now (up n) n)
  serves_apart none ap_old fa held others n m ne ln lm =
      let rn : reckoned (awaited n) now (up n) n ≡ now.held n = table_reckoned (awaited n) now (up n) n (none n ln) in
      let rm : reckoned (awaited m) now (up m) m ≡ now.held m = table_reckoned (awaited m) now (up m) m (none m lm) in
      let on : reckoned (awaited n) lock (up n) n ≡ lock.held n = table_reckoned (awaited n) lock (up n) n (none n ln) in
      let om : reckoned (awaited m) lock (up m) m ≡ lock.held m = table_reckoned (awaited m) lock (up m) m (none m lm) in
      subst (λ x. agree x (reckoned (awaited m) now (up m) m) ≡ true) (sym rn) (subst (λ x. agree (now.held n) x ≡ true) (sym rm)
      (elim (same_or n a.node) [
        | inl e ↦ subst (λ x. agree x (now.held m) ≡ true) (sym (ap now.held e ∙ held)) (subst (λ x. agree (Some a.mode) x ≡ true) (sym (others m (λ x. ne (e ∙ sym x)))) (agrees_not a.mode (lock.held m) (fa m (λ x. ne (e ∙ sym x)))))
        | inr nn ↦ elim (same_or m a.node) [
          | inl e ↦ agree_back (now.held m) (now.held n) (subst (λ x. agree x (now.held n) ≡ true) (sym (ap now.held e ∙ held)) (subst (λ x. agree (Some a.mode) x ≡ true) (sym (others n nn)) (agrees_not a.mode (lock.held n) (fa n nn))))
          | inr nm ↦ subst (λ x. agree x (now.held m) ≡ true) (sym (others n nn)) (subst (λ x. agree (lock.held n) x ≡ true) (sym (others m nm)) (subst (λ x. agree x (lock.held m) ≡ true) on (subst (λ x. agree (reckoned (awaited n) lock (up n) n) x ≡ true) om (ap_old n m ne ln lm))))
        ]
      ]))
    where
      agrees_not : (f : Mode) (h : Option Mode) → disagrees f h ≡ false → agree (Some f) h ≡ true
      agrees_not f h e = grind arith

  serves_to : (l : Local) → Fitting live lock awaited local up down → ((n : ℕ) → live n ≡ true → awaited n ≡ false) → live a.node ≡ true → entry_of lock a.node ≡ Is l → Heads lock now a l → FitsAll lock a.node a.mode → more a.node ≡ down a.node ++ a.mode ∷ [] → ((m : ℕ) → m ≢ a.node → more m ≡ down m) → Fitting live now awaited local up more
  serves_to l i none la e h fa own_more others_more =
      let v : view_of (awaited a.node) lock a.node ≡ Is l = ap (λ b. view_of b lock a.node) (none a.node la) ∙ e in
      let w : Waits (up a.node) (down a.node) (local a.node) l = fits_awaits (up a.node) (down a.node) (local a.node) l a.mode h.waits (fits-move (view_of (awaited a.node) lock a.node) (Is l) (up a.node) (up a.node) (down a.node) (down a.node) (local a.node) (local a.node) v refl refl refl (i.fits a.node la)) in
      record {
        fits = at_each (λ m. live m ≡ true → Fits (view_of (awaited m) now m) (up m) (more m) (local m)) a.node
            (λ t. fits-move (Is (Held a.mode)) (view_of (awaited a.node) now a.node) [] (up a.node) (a.mode ∷ []) (more a.node) l (local a.node)
            (sym (ap (λ b. view_of b now a.node) (none a.node la) ∙ h.own)) (sym w.up) (sym (own_more ∙ ap (λ d. d ++ a.mode ∷ []) w.down)) (sym w.same) (refl, refl, h.waits))
            (λ m ne t. fits-move (view_of (awaited m) lock m) (view_of (awaited m) now m) (up m) (up m) (down m) (more m) (local m) (local m) (view_same (awaited m) (awaited m) lock now m refl (h.other m ne)) refl (sym (others_more m ne)) refl (i.fits m t));
        gone = at_each (λ m. live m ≡ false → entry_of now m ≡ Is Free) a.node (λ d. absurd (true_not_false (sym la ∙ d))) (λ m ne d. h.other m ne ∙ i.gone m d);
        silent = at_each (λ m. awaited m ≡ true → entry_of now m ≡ Is Free) a.node (λ t. absurd (true_not_false (sym t ∙ none a.node la))) (λ m ne t. h.other m ne ∙ i.silent m t);
        apart = serves_apart none i.apart fa h.held h.others;
        proper = i.proper;
      }

not_free_waits : (to : Mode) → Awaits Free to → ⊥
not_free_waits to a = a

-- a claim about the node of the head: it lives, and what the table has of it is some local state
headed : (live : ℕ → Bool) (lock now : Lock) (awaited : ℕ → Bool) (local : ℕ → Local) (up : ℕ → List Word) (down : ℕ → List Mode) (a : Ask) (P : Type 0) → Fitting live lock awaited local up down → ((n : ℕ) → live n ≡ true → awaited n ≡ false) → ((l : Local) → entry_of lock a.node ≡ Is l → Heads lock now a l) → ((l : Local) → live a.node ≡ true → entry_of lock a.node ≡ Is l → P) → P
headed live lock now awaited local up down a P i none h k = elim (truth (live a.node)) [
  | inr dead ↦ let e = i.gone a.node dead in absurd (not_free_waits a.mode (h Free e).waits)
  | inl la ↦ elim (entry_of lock a.node) as (λ v. entry_of lock a.node ≡ v → P) [
    | Missing ↦ λ e. absurd (never_entry (lock.held a.node) (asks_of a.node lock.conversions) (asks_of a.node lock.requests) e)
    | Stuck ↦ λ e. absurd (fits_stuck (up a.node) (down a.node) (local a.node) (fits-move (view_of (awaited a.node) lock a.node) Stuck (up a.node) (up a.node) (down a.node) (down a.node) (local a.node) (local a.node) (ap (λ b. view_of b lock a.node) (none a.node la) ∙ e) refl refl refl (i.fits a.node la)))
    | Is l ↦ λ e. k l la e
  ] refl
]

module _ (live : ℕ → Bool) (lock : Lock) (awaited : ℕ → Bool) (local : ℕ → Local) (up : ℕ → List Word) (down : ℕ → List Mode) where
  -- nobody past the nodes holds
  none_past : ((n : ℕ) → live n ≡ true → n < 16) → Fitting live lock awaited local up down → (m : ℕ) → 16 ≤ m → lock.held m ≡ None
  none_past nodes i m le = elim (truth (live m)) [
    | inl lm ↦ absurd (past m (nodes m lm) le)
    | inr dead ↦ (free_at-is lock m (i.gone m dead)).held
  ]
    where
      past : (m : ℕ) → m < 16 → 16 ≤ m → ⊥
      past m lt le = omega arith

  serves_head : (now : Lock) (a : Ask) (more : ℕ → List Mode) → ((n : ℕ) → live n ≡ true → n < 16) → Fitting live lock awaited local up down → ((n : ℕ) → live n ≡ true → awaited n ≡ false) → head_refusal lock (Some a) ≡ None → ((l : Local) → entry_of lock a.node ≡ Is l → Heads lock now a l) → more a.node ≡ down a.node ++ a.mode ∷ [] → ((m : ℕ) → m ≢ a.node → more m ≡ down m) → Fitting live now awaited local up more
  serves_head now a more nodes i none g h own_more others_more =
      headed live lock now awaited local up down a (Fitting live now awaited local up more) i none h
      (λ l la e. serves_to live lock now awaited local up down more a l i none la e (h l e) (none_against lock a.node a.mode (none_past nodes i) (head_grantable lock a g)) own_more others_more)

  head_lives : (now : Lock) (a : Ask) → Fitting live lock awaited local up down → ((n : ℕ) → live n ≡ true → awaited n ≡ false) → ((l : Local) → entry_of lock a.node ≡ Is l → Heads lock now a l) → live a.node ≡ true
  head_lives now a i none h = headed live lock now awaited local up down a (live a.node ≡ true) i none h (λ l la e. la)

  pub serves : (conversions requests : List Ask) (g : Granted) (more : ℕ → List Mode) → lock.conversions ≡ conversions → lock.requests ≡ requests → ((n : ℕ) → live n ≡ true → n < 16) → Fitting live lock awaited local up down → ((n : ℕ) → live n ≡ true → awaited n ≡ false) → head_refusal lock (head conversions requests) ≡ None → answer_from lock conversions requests ≡ Some g → more g.node ≡ down g.node ++ g.mode ∷ [] → ((m : ℕ) → m ≢ g.node → more m ≡ down m) → Fitting live (granted_from lock conversions requests) awaited local up more
  serves (a ∷ rest) requests g more c q nodes i none r e own_more others_more =
      let same : answer_to lock (mode_of lock a.node) a ≡ g = the_same _ _ e in
      serves_head (record lock { held = with_at lock.held a.node (Some a.mode); conversions = rest }) a more nodes i none r (λ l v. serves_conversion lock a rest l c v) (subst (λ (x : Granted). more x.node ≡ down x.node ++ x.mode ∷ []) (sym same) own_more) (subst (λ (x : Granted). (m : ℕ) → m ≢ x.node → more m ≡ down m) (sym same) others_more)
  serves [] (a ∷ rest) g more c q nodes i none r e own_more others_more =
      let same : answer_to lock NL a ≡ g = the_same _ _ e in
      serves_head (record lock { held = with_at lock.held a.node (Some a.mode); requests = rest }) a more nodes i none r (λ l v. serves_request lock a rest l c q v) (subst (λ (x : Granted). more x.node ≡ down x.node ++ x.mode ∷ []) (sym same) own_more) (subst (λ (x : Granted). (m : ℕ) → m ≢ x.node → more m ≡ down m) (sym same) others_more)
  serves [] [] g more c q nodes i none r e own_more others_more = absurd (nobody r)
    where
      nobody : Some NothingAsked ≡ None → ⊥
      nobody r = cc

  -- what the head's node waits for: nothing is on its way to it
  pub record HeadWaits (node : ℕ) (to : Mode) : Type 0 where
    pub lives : live node ≡ true
    pub none : down node ≡ []
    pub opens : open_in (local node) ≡ Open to

  head_waits : (now : Lock) (a : Ask) → Fitting live lock awaited local up down → ((n : ℕ) → live n ≡ true → awaited n ≡ false) → ((l : Local) → entry_of lock a.node ≡ Is l → Heads lock now a l) → HeadWaits a.node a.mode
  head_waits now a i none h =
      headed live lock now awaited local up down a (HeadWaits a.node a.mode) i none h
      (λ l la e.
      let v : view_of (awaited a.node) lock a.node ≡ Is l = ap (λ b. view_of b lock a.node) (none a.node la) ∙ e in
      let w : Waits (up a.node) (down a.node) (local a.node) l = fits_awaits (up a.node) (down a.node) (local a.node) l a.mode (h l e).waits (fits-move (view_of (awaited a.node) lock a.node) (Is l) (up a.node) (up a.node) (down a.node) (down a.node) (local a.node) (local a.node) v refl refl refl (i.fits a.node la)) in
      record { lives = la; none = w.down; opens = ap open_in w.same ∙ awaits_open l a.mode (h l e).waits })

  pub serves_open : (conversions requests : List Ask) (g : Granted) → lock.conversions ≡ conversions → lock.requests ≡ requests → Fitting live lock awaited local up down → ((n : ℕ) → live n ≡ true → awaited n ≡ false) → answer_from lock conversions requests ≡ Some g → HeadWaits g.node g.mode
  serves_open (a ∷ rest) requests g c q i none e =
      subst (λ (x : Granted). HeadWaits x.node x.mode) (the_same (answer_to lock (mode_of lock a.node) a) g e)
      (head_waits (record lock { held = with_at lock.held a.node (Some a.mode); conversions = rest }) a i none (λ l v. serves_conversion lock a rest l c v))
  serves_open [] (a ∷ rest) g c q i none e =
      subst (λ (x : Granted). HeadWaits x.node x.mode) (the_same (answer_to lock NL a) g e)
      (head_waits (record lock { held = with_at lock.held a.node (Some a.mode); requests = rest }) a i none (λ l v. serves_request lock a rest l c q v))
  serves_open [] [] g c q i none e = absurd (nothing e)
    where
      nothing : None ≡ Some g → ⊥
      nothing x = cc

  -- A node dies.

  pub dies : (alive : ℕ → Bool) (now : ℕ → Local) (some : ℕ → List Word) (more : ℕ → List Mode) (d : ℕ) → Fitting live lock awaited local up down → alive d ≡ false → ((n : ℕ) → n ≢ d → alive n ≡ live n) → ((n : ℕ) → n ≢ d → alive n ≡ true → now n ≡ local n) → ((n : ℕ) → n ≢ d → alive n ≡ true → some n ≡ up n) → ((n : ℕ) → n ≢ d → alive n ≡ true → more n ≡ down n) → Fitting alive (died lock d) awaited now some more
  dies alive now some more d i dead same nk uk dk = record {
    fits = at_each (λ m. alive m ≡ true → Fits (view_of (awaited m) (died lock d) m) (some m) (more m) (now m)) d
        (λ t. absurd (true_not_false (sym t ∙ dead)))
        (λ m ne t. fits-move (view_of (awaited m) lock m) (view_of (awaited m) (died lock d) m) (up m) (some m) (down m) (more m) (local m) (now m) (view_same (awaited m) (awaited m) lock (died lock d) m refl (died_other lock d m ne)) (sym (uk m ne t)) (sym (dk m ne t)) (sym (nk m ne t)) (i.fits m (sym (same m ne) ∙ t)));
    gone = at_each (λ m. alive m ≡ false → entry_of (died lock d) m ≡ Is Free) d (λ t. died_own lock d) (λ m ne t. died_other lock d m ne ∙ i.gone m (sym (same m ne) ∙ t));
    silent = at_each (λ m. awaited m ≡ true → entry_of (died lock d) m ≡ Is Free) d (λ t. died_own lock d) (λ m ne t. died_other lock d m ne ∙ i.silent m t);
    apart = apart-covers alive (λ m. reckoned (awaited m) lock (up m) m) (λ m. reckoned (awaited m) (died lock d) (some m) m)
        (at_each (λ m. alive m ≡ true → covers (reckoned (awaited m) lock (up m) m) (reckoned (awaited m) (died lock d) (some m) m) ≡ true) d
        (λ t. absurd (true_not_false (sym t ∙ dead)))
        (λ m ne t. covers_same _ _ (ap (λ u. reckoned (awaited m) (died lock d) u m) (uk m ne t) ∙ held_same (awaited m) m (died_others_held lock d m ne) (up m))))
        (λ n m ne ln lm. i.apart n m ne (was n ln) (was m lm));
    proper = at_each (λ m. alive m ≡ true → proper (now m) ≡ true) d (λ t. absurd (true_not_false (sym t ∙ dead))) (λ m ne t. ap proper (nk m ne t) ∙ i.proper m (sym (same m ne) ∙ t));
  }
    where
      held_same : (b : Bool) (m : ℕ) → (died lock d).held m ≡ lock.held m → (u : List Word) → reckoned b (died lock d) u m ≡ reckoned b lock u m
      held_same true m e u = refl
      held_same false m e u = e

      was : (n : ℕ) → alive n ≡ true → live n ≡ true
      was n t = elim (same_or n d) [ inl e ↦ absurd (true_not_false (sym t ∙ ap alive e ∙ dead)) | inr ne ↦ sym (same n ne) ∙ t ]

  -- Another node becomes the master.

  pub takes_over : (alive awaits : ℕ → Bool) (now : ℕ → Local) (some : ℕ → List Word) (more : ℕ → List Mode) → Fitting live lock awaited local up down → ((n : ℕ) → alive n ≡ true → live n ≡ true) → ((n : ℕ) → alive n ≡ true → now n ≡ local n) → ((n : ℕ) → awaits n ≡ alive n) → ((n : ℕ) → alive n ≡ true → some n ≡ Told (now n) ∷ []) → ((n : ℕ) → alive n ≡ true → more n ≡ []) → Fitting alive new_lock awaits now some more
  takes_over alive awaits now some more i was nk ak sk dk = record {
    fits = λ n t. fits-move Missing (view_of (awaits n) new_lock n) (Told (now n) ∷ []) (some n) [] (more n) (now n) (now n) (sym (ap (λ b. view_of b new_lock n) (ak n ∙ t))) (sym (sk n t)) (sym (dk n t)) refl
        (ap (λ b. if b then Is (now n) else Stuck) (ap proper (nk n t) ∙ i.proper n (was n t)));
    gone = λ n t. refl;
    silent = λ n t. refl;
    apart = apart-covers alive (λ m. reckoned (awaited m) lock (up m) m) (λ m. reckoned (awaits m) new_lock (some m) m)
        (λ n t. ap (λ b. covers (reckoned (awaited n) lock (up n) n) (reckoned b new_lock (some n) n)) (ak n ∙ t)
        ∙ ap (λ u. covers (reckoned (awaited n) lock (up n) n) (told_mode u)) (sk n t)
        ∙ ap (λ k. covers (reckoned (awaited n) lock (up n) n) (mode_held k)) (nk n t)
        ∙ fits_covers (awaited n) lock (up n) (down n) n (local n) (i.fits n (was n t)))
        (λ n m ne ln lm. i.apart n m ne (was n ln) (was m lm));
    proper = λ n t. ap proper (nk n t) ∙ i.proper n (was n t);
  }
