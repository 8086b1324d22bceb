-- What each call keeps of one resource of a spread space.
use Rattle.std.proofs.Common.{◌≡◌, ◌≢◌, ◌⊎◌, inl, inr, ℕ, ◌<◌, List, [], ◌∷◌, ◌++◌, Bool, true, false, ◌==◌, ◌||◌, Option, Some, None, refl, sym, ap, ◌∙◌, subst, arith, if◌then◌else◌}
use Rattle.std.proofs.lemmas.Bool.Decides.{nat_tests}
use Rattle.std.proofs.Math.Path.{fun_ext}
use Rattle.dlm_modes.specs.declared.block.Block.{Block}
use Rattle.dlm_modes.specs.declared.mode.Mode.{Mode}
use Rattle.dlm_space.specs.Locks.{Lock, new_lock, died, head_refusal, granted, answer_from}
use Rattle.dlm_space.specs.Queues.{head}
use Rattle.dlm_space.specs.declared.answers.Granted.{Granted}
use Rattle.lock_wire.specs.Machine.{asking, converts, releases, entered}
use Rattle.lock_wire.specs.declared.local.Local.{Local}
use Rattle.lock_wire.specs.declared.local.Local.TheVariants.{Held}
use Rattle.laws_wire.specs.Views.{Word, Asked, Converted, Released, Told, Is, heard, proper}
use Rattle.laws_wire.specs.Invariants.{Fitting, KeptOf}
use Rattle.laws_wire.proofs.Steps.{same_or, said, took, hears_ask, hears_convert, hears_release, hears_report, serves, dies, takes_over}

-- where nothing of it changes
pub same_kept : (live live' : ℕ → Bool) (m m' : ℕ) (awaited awaited' : ℕ → Bool) (table table' : ℕ → Lock) (local local' : ℕ → Local) (told told' : ℕ → ℕ → List Word) (given given' : ℕ → ℕ → List Mode) → live' ≡ live → m' ≡ m → awaited' ≡ awaited → ((k : ℕ) → table' k ≡ table k) → ((n : ℕ) → local' n ≡ local n) → ((a b : ℕ) → told' a b ≡ told a b) → ((a b : ℕ) → given' a b ≡ given a b) → KeptOf live m awaited table local told given → KeptOf live' m' awaited' table' local' told' given'
same_kept live live' m m' awaited awaited' table table' local local' told told' given given' el em ea et eo ew eg i =
    subst (λ x. KeptOf x m' awaited' table' local' told' given') (sym el)
    (subst (λ x. KeptOf live x awaited' table' local' told' given') (sym em)
    (subst (λ x. KeptOf live m x table' local' told' given') (sym ea)
    (subst (λ x. KeptOf live m awaited x local' told' given') (sym (fun_ext et))
    (subst (λ x. KeptOf live m awaited table x told' given') (sym (fun_ext eo))
    (subst (λ x. KeptOf live m awaited table local x given') (sym (fun_ext (λ a. fun_ext (ew a))))
    (subst (λ x. KeptOf live m awaited table local told x) (sym (fun_ext (λ a. fun_ext (eg a)))) i))))))

module _ (live : ℕ → Bool) (m : ℕ) (awaited : ℕ → Bool) (table : ℕ → Lock) (local : ℕ → Local) (told : ℕ → ℕ → List Word) (given : ℕ → ℕ → List Mode) where
  -- a node says a word to the master
  pub says : (local' : ℕ → Local) (told' : ℕ → ℕ → List Word) (n : ℕ) (k : Local) (word : Word) → KeptOf live m awaited table local told given → live n ≡ true → heard (Is (local n)) word ≡ Is k → proper k ≡ true → local' n ≡ k → ((j : ℕ) → j ≢ n → local' j ≡ local j) → told' n m ≡ told n m ++ word ∷ [] → ((j : ℕ) → j ≢ n → told' j m ≡ told j m) → ((a b : ℕ) → b ≢ m → told' a b ≡ told a b) → KeptOf live m awaited table local' told' given
  says local' told' n k word i ln h p own others own_told other_told else_told = record {
    fitting = said live (table m) awaited local local' (λ j. told j m) (λ j. told' j m) (λ j. given m j) n k word i.fitting ln h p own others own_told other_told;
    tells = λ a b ne. else_told a b ne ∙ i.tells a b ne;
    gives = i.gives;
    fresh = i.fresh;
    master = i.master;
  }

  -- a node takes a grant of the master
  pub takes : (local' : ℕ → Local) (given' : ℕ → ℕ → List Mode) (n : ℕ) (to : Mode) → KeptOf live m awaited table local told given → given m n ≡ to ∷ given' m n → local' n ≡ Held to → ((j : ℕ) → j ≢ n → local' j ≡ local j) → ((j : ℕ) → j ≢ n → given' m j ≡ given m j) → ((a b : ℕ) → a ≢ m → given' a b ≡ given a b) → KeptOf live m awaited table local' told given'
  takes local' given' n to i first own others other_given else_given = record {
    fitting = took live (table m) awaited local local' (λ j. told j m) (λ j. given m j) (λ j. given' m j) n to i.fitting first own others other_given;
    tells = i.tells;
    gives = λ a b ne. else_given a b ne ∙ i.gives a b ne;
    fresh = i.fresh;
    master = i.master;
  }

  -- only the master's table, and what is told on one link, change
  hears : (awaited' : ℕ → Bool) (table' : ℕ → Lock) (told' : ℕ → ℕ → List Word) → KeptOf live m awaited table local told given → Fitting live (table' m) awaited' local (λ j. told' j m) (λ j. given m j) → ((j : ℕ) → j ≢ m → table' j ≡ table j) → ((a b : ℕ) → b ≢ m → told' a b ≡ told a b) → KeptOf live m awaited' table' local told' given
  hears awaited' table' told' i f others else_told = record {
    fitting = f;
    tells = λ a b ne. else_told a b ne ∙ i.tells a b ne;
    gives = i.gives;
    fresh = λ k l ne. others k ne ∙ i.fresh k l ne;
    master = i.master;
  }

  -- the new table of the master
  lock_is : (table' : ℕ → Lock) (awaited' : ℕ → Bool) (lock : Lock) (told' : ℕ → ℕ → List Word) → table' m ≡ lock → Fitting live lock awaited' local (λ j. told' j m) (λ j. given m j) → Fitting live (table' m) awaited' local (λ j. told' j m) (λ j. given m j)
  lock_is table' awaited' lock told' e f = subst (λ l. Fitting live l awaited' local (λ j. told' j m) (λ j. given m j)) (sym e) f

  pub hears_an_ask : (table' : ℕ → Lock) (told' : ℕ → ℕ → List Word) (n : ℕ) (to : Mode) → KeptOf live m awaited table local told given → live n ≡ true → told n m ≡ Asked to ∷ told' n m → ((j : ℕ) → j ≢ n → told' j m ≡ told j m) → ((a b : ℕ) → b ≢ m → told' a b ≡ told a b) → table' m ≡ asking (table m) n to → ((j : ℕ) → j ≢ m → table' j ≡ table j) → KeptOf live m awaited table' local told' given
  hears_an_ask table' told' n to i ln first others else_told own other =
      hears awaited table' told' i (lock_is table' awaited _ told' own (hears_ask live (table m) awaited local (λ j. told j m) (λ j. told' j m) (λ j. given m j) n to i.fitting ln first others)) other else_told

  pub hears_a_conversion : (table' : ℕ → Lock) (told' : ℕ → ℕ → List Word) (n : ℕ) (to : Mode) (value : Option Block) → KeptOf live m awaited table local told given → live n ≡ true → told n m ≡ Converted to ∷ told' n m → ((j : ℕ) → j ≢ n → told' j m ≡ told j m) → ((a b : ℕ) → b ≢ m → told' a b ≡ told a b) → table' m ≡ converts (table m) n to value → ((j : ℕ) → j ≢ m → table' j ≡ table j) → KeptOf live m awaited table' local told' given
  hears_a_conversion table' told' n to value i ln first others else_told own other =
      hears awaited table' told' i (lock_is table' awaited _ told' own (hears_convert live (table m) awaited local (λ j. told j m) (λ j. told' j m) (λ j. given m j) n to value i.fitting ln first others)) other else_told

  pub hears_a_release : (table' : ℕ → Lock) (told' : ℕ → ℕ → List Word) (n : ℕ) (value : Option Block) → KeptOf live m awaited table local told given → live n ≡ true → told n m ≡ Released ∷ told' n m → ((j : ℕ) → j ≢ n → told' j m ≡ told j m) → ((a b : ℕ) → b ≢ m → told' a b ≡ told a b) → table' m ≡ releases (table m) n value → ((j : ℕ) → j ≢ m → table' j ≡ table j) → KeptOf live m awaited table' local told' given
  hears_a_release table' told' n value i ln first others else_told own other =
      hears awaited table' told' i (lock_is table' awaited _ told' own (hears_release live (table m) awaited local (λ j. told j m) (λ j. told' j m) (λ j. given m j) n value i.fitting ln first others)) other else_told

  pub hears_a_report : (awaited' : ℕ → Bool) (table' : ℕ → Lock) (told' : ℕ → ℕ → List Word) (n : ℕ) (l : Local) → KeptOf live m awaited table local told given → live n ≡ true → told n m ≡ Told l ∷ told' n m → ((j : ℕ) → j ≢ n → told' j m ≡ told j m) → ((a b : ℕ) → b ≢ m → told' a b ≡ told a b) → table' m ≡ entered (table m) n l → ((j : ℕ) → j ≢ m → table' j ≡ table j) → awaited' n ≡ false → ((j : ℕ) → j ≢ n → awaited' j ≡ awaited j) → KeptOf live m awaited' table' local told' given
  hears_a_report awaited' table' told' n l i ln first others else_told own other an ak =
      hears awaited' table' told' i (lock_is table' awaited' _ told' own (hears_report live (table m) awaited local (λ j. told j m) (λ j. told' j m) (λ j. given m j) n awaited' l i.fitting ln first others an ak)) other else_told

  -- the master serves the head
  pub serves_one : (table' : ℕ → Lock) (given' : ℕ → ℕ → List Mode) (g : Granted) → ((n : ℕ) → live n ≡ true → n < 16) → KeptOf live m awaited table local told given → ((n : ℕ) → live n ≡ true → awaited n ≡ false) → head_refusal (table m) (head (table m).conversions (table m).requests) ≡ None → answer_from (table m) (table m).conversions (table m).requests ≡ Some g → table' m ≡ granted (table m) → ((j : ℕ) → j ≢ m → table' j ≡ table j) → given' m g.node ≡ given m g.node ++ g.mode ∷ [] → ((j : ℕ) → j ≢ g.node → given' m j ≡ given m j) → ((a b : ℕ) → a ≢ m → given' a b ≡ given a b) → KeptOf live m awaited table' local told given'
  serves_one table' given' g nodes i none r e own other own_given other_given else_given = record {
    fitting = subst (λ l. Fitting live l awaited local (λ j. told j m) (λ j. given' m j)) (sym own) (serves live (table m) awaited local (λ j. told j m) (λ j. given m j) (table m).conversions (table m).requests g (λ j. given' m j) refl refl nodes i.fitting none r e own_given other_given);
    tells = i.tells;
    gives = λ a b ne. else_given a b ne ∙ i.gives a b ne;
    fresh = λ k l ne. other k ne ∙ i.fresh k l ne;
    master = i.master;
  }

  was_live : (live' : ℕ → Bool) (d : ℕ) → live' d ≡ false → ((n : ℕ) → n ≢ d → live' n ≡ live n) → (n : ℕ) → live' n ≡ true → live n ≡ true
  was_live live' d dead same n t = elim (same_or n d) [ inl e ↦ absurd (clash (sym t ∙ ap live' e ∙ dead)) | inr ne ↦ sym (same n ne) ∙ t ]
    where
      clash : true ≡ false → ⊥
      clash e = cc

  -- a node dies that isn't the master, or the last one
  pub loses : (live' : ℕ → Bool) (table' : ℕ → Lock) (local' : ℕ → Local) (told' : ℕ → ℕ → List Word) (given' : ℕ → ℕ → List Mode) (d : ℕ) → KeptOf live m awaited table local told given → live' d ≡ false → ((n : ℕ) → n ≢ d → live' n ≡ live n) → ((n : ℕ) → live' n ≡ true → live' m ≡ true) → ((k : ℕ) → table' k ≡ died (table k) d) → died new_lock d ≡ new_lock → ((n : ℕ) → n ≢ d → local' n ≡ local n) → ((a b : ℕ) → told' a b ≡ (if (a == d) || (b == d) then [] else told a b)) → ((a b : ℕ) → given' a b ≡ (if (a == d) || (b == d) then [] else given a b)) → (m ≢ d ⊎ ((n : ℕ) → live' n ≡ true → ⊥)) → KeptOf live' m awaited table' local' told' given'
  loses live' table' local' told' given' d i dead same master tables none locals tolds givens which = record {
    fitting = subst (λ l. Fitting live' l awaited local' (λ j. told' j m) (λ j. given' m j)) (sym (tables m)) (dies live (table m) awaited local (λ j. told j m) (λ j. given m j) live' local' (λ j. told' j m) (λ j. given' m j) d i.fitting dead same (λ n ne t. locals n ne)
        (λ n ne t. tolds n m ∙ unlinked n ne t (told n m))
        (λ n ne t. givens m n ∙ unlinked_back n ne t (given m n)));
    tells = λ a b ne. tolds a b ∙ ap (λ l. if (a == d) || (b == d) then [] else l) (i.tells a b ne) ∙ nil ((a == d) || (b == d));
    gives = λ a b ne. givens a b ∙ ap (λ l. if (a == d) || (b == d) then [] else l) (i.gives a b ne) ∙ nil ((a == d) || (b == d));
    fresh = λ k l ne. tables k ∙ ap (λ q. died q d) (i.fresh k (was_live live' d dead same k l) ne) ∙ none;
    master = master;
  }
    where
      other : (k n : ℕ) → k ≢ n → (k == n) ≡ false
      other k n ne = grind (arith, nat_tests)

      not_master : (n : ℕ) → live' n ≡ true → m ≢ d
      not_master n t = elim which [ inl ne ↦ ne | inr f ↦ absurd (f n t) ]

      unlinked : {A : Type 0} (n : ℕ) → n ≢ d → live' n ≡ true → (x : List A) → (if (n == d) || (m == d) then [] else x) ≡ x
      unlinked n ne t x = ap (λ b. if b || (m == d) then [] else x) (other n d ne) ∙ ap (λ b. if b then [] else x) (other m d (not_master n t))

      unlinked_back : {A : Type 0} (n : ℕ) → n ≢ d → live' n ≡ true → (x : List A) → (if (m == d) || (n == d) then [] else x) ≡ x
      unlinked_back n ne t x = ap (λ b. if b || (n == d) then [] else x) (other m d (not_master n t)) ∙ ap (λ b. if b then [] else x) (other n d ne)

      nil : {A : Type 0} (b : Bool) → (if b then [] else []) ≡ (let n : List A = [] in n)
      nil true = refl
      nil false = refl

  -- another node takes over from the master
  pub changes_master : (live' : ℕ → Bool) (m' : ℕ) (awaited' : ℕ → Bool) (table' : ℕ → Lock) (local' : ℕ → Local) (told' : ℕ → ℕ → List Word) (given' : ℕ → ℕ → List Mode) → KeptOf live m awaited table local told given → ((n : ℕ) → live' n ≡ true → live n ≡ true) → live' m ≡ false → live' m' ≡ true → ((n : ℕ) → awaited' n ≡ live' n) → ((k : ℕ) → live' k ≡ true → table' k ≡ new_lock) → ((n : ℕ) → live' n ≡ true → local' n ≡ local n) → ((n : ℕ) → live' n ≡ true → told' n m' ≡ Told (local' n) ∷ []) → ((n : ℕ) → live' n ≡ true → given' m' n ≡ []) → ((a b : ℕ) → b ≢ m' → told' a b ≡ []) → ((a b : ℕ) → a ≢ m' → given' a b ≡ []) → KeptOf live' m' awaited' table' local' told' given'
  changes_master live' m' awaited' table' local' told' given' i was dead lives aw tables locals tolds givens else_told else_given = record {
    fitting = subst (λ l. Fitting live' l awaited' local' (λ j. told' j m') (λ j. given' m' j)) (sym (tables m' lives)) (takes_over live (table m) awaited local (λ j. told j m) (λ j. given m j) live' awaited' local' (λ j. told' j m') (λ j. given' m' j) i.fitting was locals aw tolds givens);
    tells = else_told;
    gives = else_given;
    fresh = λ k l ne. tables k l;
    master = λ n l. lives;
  }
