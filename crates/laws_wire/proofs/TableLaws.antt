-- What each call of a master makes of the entries of its table.
use Rattle.std.proofs.Common.{◌≡◌, ◌≢◌, ℕ, List, [], ◌∷◌, ◌++◌, Bool, true, false, ◌==◌, Option, Some, None, refl, sym, ap, ◌∙◌, subst, arith, if◌then◌else◌}
use Rattle.std.specs.Prelude.{unwrap_or}
use Rattle.std.proofs.lemmas.Bool.Decides.{nat_tests}
use Rattle.dlm_modes.proofs.FirstLaws.{first_such_some}
use Rattle.dlm_modes.specs.Guards.{or_then}
use Rattle.dlm_modes.specs.Modes.{weaker}
use Rattle.dlm_modes.specs.Points.{with_at}
use Rattle.dlm_modes.specs.declared.block.Block.{Block}
use Rattle.dlm_modes.specs.declared.mode.Mode.{Mode}
use Rattle.dlm_modes.specs.declared.mode.Mode.TheVariants.{NL}
use Rattle.dlm_space.specs.Locks.{Lock, mode_of, disagrees, is_against, blocker, blocked, ask_refusal, ask_now_refusal, convert_refusal, release_refusal, asked, holding, with_value, converted_value, queued, converted, released, died}
use Rattle.dlm_space.specs.Queues.{ask_for, asks_of, without}
use Rattle.dlm_space.specs.declared.ask.Ask.{Ask}
use Rattle.dlm_space.proofs.QueueLaws.{asks_of-push, asks_of-without}
use Rattle.lock_wire.specs.Locals.{mode_held, kept, converting}
use Rattle.lock_wire.specs.Machine.{unless_refused, asking, asking_now, converts, releases, entered}
use Rattle.lock_wire.specs.declared.local.Local.{Local}
use Rattle.lock_wire.specs.declared.local.Local.TheVariants.{Free, Asking, Held, Converting}
use Rattle.laws_wire.specs.Views.{Stuck, Is, entry, entry_of, proper, Awaits}
use Rattle.laws_wire.proofs.ViewLaws.{Entries, entry_free, entry_is_held, kept_below}

abbrev free_at : Lock → ℕ → Type 0
free_at lock n = Entries (lock.held n) (asks_of n lock.conversions) (asks_of n lock.requests) None [] []

abbrev held_at : Lock → ℕ → Mode → Type 0
held_at lock n m = Entries (lock.held n) (asks_of n lock.conversions) (asks_of n lock.requests) (Some m) [] []

pub free_at-is : (lock : Lock) (n : ℕ) → entry_of lock n ≡ Is Free → free_at lock n
free_at-is lock n e = entry_free _ _ _ e

pub held_at-is : (lock : Lock) (n : ℕ) (m : Mode) → entry_of lock n ≡ Is (Held m) → held_at lock n m
held_at-is lock n m e = entry_is_held _ _ _ m e

three : (h k : Option Mode) (c d q p : List Mode) → h ≡ k → c ≡ d → q ≡ p → entry h c q ≡ entry k d p
three h k c d q p e f g = rw (e, f, g) refl

test_self : (n : ℕ) → (n == n) ≡ true
test_self n = grind (arith, nat_tests)

test_other : (k n : ℕ) → k ≢ n → (k == n) ≡ false
test_other k n ne = grind (arith, nat_tests)

own_if : {A : Type 0} (n : ℕ) (x y : A) → (if n == n then x else y) ≡ x
own_if n x y = ap (λ b. if b then x else y) (test_self n)

other_if : {A : Type 0} (k n : ℕ) (x y : A) → k ≢ n → (if k == n then x else y) ≡ y
other_if k n x y ne = ap (λ b. if b then x else y) (test_other k n ne)

push_own : (n : ℕ) (q : List Ask) (m : Mode) → asks_of n q ≡ [] → asks_of n (q ++ ask_for n m ∷ []) ≡ m ∷ []
push_own n q m e = asks_of-push n q (ask_for n m) ∙ own_if n _ _ ∙ ap (λ l. l ++ m ∷ []) e

push_other : (k n : ℕ) (q : List Ask) (m : Mode) → k ≢ n → asks_of k (q ++ ask_for n m ∷ []) ≡ asks_of k q
push_other k n q m ne = asks_of-push k q (ask_for n m) ∙ other_if n k _ _ (λ e. ne (sym e))

without_own : (n : ℕ) (q : List Ask) → asks_of n (without n q) ≡ []
without_own n q = asks_of-without n n q ∙ own_if n _ _

without_other : (k n : ℕ) (q : List Ask) → k ≢ n → asks_of k (without n q) ≡ asks_of k q
without_other k n q ne = asks_of-without k n q ∙ other_if n k _ _ (λ e. ne (sym e))

-- Asking.

pub ask_free : (lock : Lock) (n : ℕ) → free_at lock n → ask_refusal lock n ≡ None
ask_free lock n f = rw (f.held, f.requests) refl

pub asking-is : (lock : Lock) (n : ℕ) (to : Mode) → entry_of lock n ≡ Is Free → asking lock n to ≡ asked lock n to
asking-is lock n to e = ap (λ r. unless_refused r (asked lock n to) lock) (ask_free lock n (free_at-is lock n e))

pub asked_own : (lock : Lock) (n : ℕ) (to : Mode) → entry_of lock n ≡ Is Free → entry_of (asked lock n to) n ≡ Is (Asking to)
asked_own lock n to e = let f = free_at-is lock n e in three _ None _ [] _ (to ∷ []) f.held f.conversions (push_own n lock.requests to f.requests)

pub asked_other : (lock : Lock) (n k : ℕ) (to : Mode) → k ≢ n → entry_of (asked lock n to) k ≡ entry_of lock k
asked_other lock n k to ne = three _ _ _ _ _ _ refl refl (push_other k n lock.requests to ne)

-- Taking at once.

-- no other holder disagrees
abbrev pub FitsAll : Lock → ℕ → Mode → Type 0
FitsAll lock n mode = (m : ℕ) → m ≢ n → disagrees mode (lock.held m) ≡ false

against_not : (lock : Lock) (n m : ℕ) (mode : Mode) → (m ≢ n → disagrees mode (lock.held m) ≡ false) → is_against lock n mode m ≡ true → ⊥
against_not lock n m mode f e = grind (arith, nat_tests)

no_blocker : (lock : Lock) (n : ℕ) (mode : Mode) (o : Option ℕ) → blocker lock n mode ≡ o → FitsAll lock n mode → blocked lock o ≡ None
no_blocker lock n mode None e f = refl
no_blocker lock n mode (Some m) e f = absurd (against_not lock n m mode (f m) (first_such_some (is_against lock n mode) 0 16 m e).passes)

pub ask_now_free : (lock : Lock) (n : ℕ) (mode : Mode) → entry_of lock n ≡ Is Free → FitsAll lock n mode → ask_now_refusal lock n mode ≡ None
ask_now_free lock n mode e f = ap (λ o. or_then o (blocked lock (blocker lock n mode))) (ask_free lock n (free_at-is lock n e)) ∙ no_blocker lock n mode (blocker lock n mode) refl f

pub convert_held : (lock : Lock) (n : ℕ) (m : Mode) → entry_of lock n ≡ Is (Held m) → convert_refusal lock n ≡ None
convert_held lock n m e = let f = held_at-is lock n m e in rw (f.held, f.conversions) refl

pub release_held : (lock : Lock) (n : ℕ) (m : Mode) → entry_of lock n ≡ Is (Held m) → release_refusal lock n ≡ None
release_held lock n m e = let f = held_at-is lock n m e in rw f.held refl

pub asking_now-is : (lock : Lock) (n : ℕ) (mode : Mode) → entry_of lock n ≡ Is Free → FitsAll lock n mode → asking_now lock n mode ≡ holding lock n mode
asking_now-is lock n mode e f =
    let r : ask_now_refusal lock n mode ≡ None = ap (λ o. or_then o (blocked lock (blocker lock n mode))) (ask_free lock n (free_at-is lock n e)) ∙ no_blocker lock n mode (blocker lock n mode) refl f in
    ap (λ o. unless_refused o (holding lock n mode) lock) r

pub holding_own : (lock : Lock) (n : ℕ) (mode : Mode) → entry_of lock n ≡ Is Free → entry_of (holding lock n mode) n ≡ Is (Held mode)
holding_own lock n mode e = let f = free_at-is lock n e in three _ (Some mode) _ [] _ [] (own_if n _ _) f.conversions f.requests

pub holding_other : (lock : Lock) (n k : ℕ) (mode : Mode) → k ≢ n → entry_of (holding lock n mode) k ≡ entry_of lock k
holding_other lock n k mode ne = three _ _ _ _ _ _ (other_if k n _ _ ne) refl refl

-- Converting.

pub converts-is : (lock : Lock) (n : ℕ) (m to : Mode) (value : Option Block) → entry_of lock n ≡ Is (Held m) → converts lock n to value ≡ converted lock n to value
converts-is lock n m to value e =
    let f = held_at-is lock n m e in
    let r : convert_refusal lock n ≡ None = rw (f.held, f.conversions) refl in
    ap (λ o. unless_refused o (converted lock n to value) lock) r

abbrev converted_from : Lock → ℕ → Bool → Mode → Mode → Option Block → Lock
converted_from lock n b m to value = if b then holding (with_value lock (converted_value m to value)) n to else queued lock n to

pub converted_own : (lock : Lock) (n : ℕ) (m to : Mode) (value : Option Block) → entry_of lock n ≡ Is (Held m) → entry_of (converted lock n to value) n ≡ Is (converting m to)
converted_own lock n m to value e =
    let f = held_at-is lock n m e in
    let mode : mode_of lock n ≡ m = ap (λ o. unwrap_or o NL) f.held in
    ap (λ x. entry_of (converted_from lock n (weaker x to) x to value) n) mode
    ∙ (elim (weaker m to) as (λ b. weaker m to ≡ b → entry_of (converted_from lock n b m to value) n ≡ Is (if b then Held to else Converting (kept m to) to)) [
      | true ↦ λ w. three _ (Some to) _ [] _ [] (own_if n _ _) f.conversions f.requests
      | false ↦ λ w. three _ (Some m) _ (to ∷ []) _ [] f.held (push_own n lock.conversions to f.conversions) f.requests ∙ ap (λ b. if b then Stuck else Is (if b then Held to else Converting (kept m to) to)) w
    ] refl)

pub converted_other : (lock : Lock) (n k : ℕ) (to : Mode) (value : Option Block) → k ≢ n → entry_of (converted lock n to value) k ≡ entry_of lock k
converted_other lock n k to value ne =
    elim (weaker (mode_of lock n) to) as (λ b. entry_of (converted_from lock n b (mode_of lock n) to value) k ≡ entry_of lock k) [
      | true ↦ three _ _ _ _ _ _ (other_if k n _ _ ne) refl refl
      | false ↦ three _ _ _ _ _ _ refl (push_other k n lock.conversions to ne) refl
    ]

-- what is held after it
pub converted_held : (lock : Lock) (n : ℕ) (m to : Mode) (value : Option Block) → entry_of lock n ≡ Is (Held m) → (converted lock n to value).held n ≡ (if weaker m to then Some to else Some m)
converted_held lock n m to value e =
    let f = held_at-is lock n m e in
    let mode : mode_of lock n ≡ m = ap (λ o. unwrap_or o NL) f.held in
    ap (λ x. (converted_from lock n (weaker x to) x to value).held n) mode
    ∙ (elim (weaker m to) as (λ b. (converted_from lock n b m to value).held n ≡ (if b then Some to else Some m)) [
      | true ↦ own_if n _ _
      | false ↦ f.held
    ])

pub converted_others_held : (lock : Lock) (n k : ℕ) (to : Mode) (value : Option Block) → k ≢ n → (converted lock n to value).held k ≡ lock.held k
converted_others_held lock n k to value ne =
    elim (weaker (mode_of lock n) to) as (λ b. (converted_from lock n b (mode_of lock n) to value).held k ≡ lock.held k) [
      | true ↦ other_if k n _ _ ne
      | false ↦ refl
    ]

-- Releasing.

pub releases-is : (lock : Lock) (n : ℕ) (m : Mode) (value : Option Block) → entry_of lock n ≡ Is (Held m) → releases lock n value ≡ released lock n value
releases-is lock n m value e =
    let f = held_at-is lock n m e in
    let r : release_refusal lock n ≡ None = rw f.held refl in
    ap (λ o. unless_refused o (released lock n value) lock) r

pub released_own : (lock : Lock) (n : ℕ) (m : Mode) (value : Option Block) → entry_of lock n ≡ Is (Held m) → entry_of (released lock n value) n ≡ Is Free
released_own lock n m value e = let f = held_at-is lock n m e in three _ None _ [] _ [] (own_if n _ _) (without_own n lock.conversions) f.requests

pub released_other : (lock : Lock) (n k : ℕ) (value : Option Block) → k ≢ n → entry_of (released lock n value) k ≡ entry_of lock k
released_other lock n k value ne = three _ _ _ _ _ _ (other_if k n _ _ ne) (without_other k n lock.conversions ne) refl

-- Dying.

pub died_own : (lock : Lock) (n : ℕ) → entry_of (died lock n) n ≡ Is Free
died_own lock n = three _ None _ [] _ [] (own_if n _ _) (without_own n lock.conversions) (without_own n lock.requests)

pub died_other : (lock : Lock) (n k : ℕ) → k ≢ n → entry_of (died lock n) k ≡ entry_of lock k
died_other lock n k ne = three _ _ _ _ _ _ (other_if k n _ _ ne) (without_other k n lock.conversions ne) (without_other k n lock.requests ne)

-- Entering a report.

proper_not_weaker : (from to : Mode) → proper (Converting from to) ≡ true → weaker from to ≡ false
proper_not_weaker from to e = grind arith

proper_kept : (from to : Mode) → proper (Converting from to) ≡ true → kept from to ≡ from
proper_kept from to e = grind arith

proper_converting : (from to : Mode) → proper (Converting from to) ≡ true → converting from to ≡ Converting from to
proper_converting from to e =
    ap (λ b. if b then Held to else Converting (kept from to) to) (proper_not_weaker from to e) ∙ ap (λ f. Converting f to) (proper_kept from to e)

-- what is reported disagrees with no other holder
abbrev pub FitsLocal : Lock → ℕ → Local → Type 0
FitsLocal lock n Free = Unit {0}
FitsLocal lock n (Asking to) = Unit {0}
FitsLocal lock n (Held mode) = FitsAll lock n mode
FitsLocal lock n (Converting from to) = FitsAll lock n from

pub entered_own : (lock : Lock) (n : ℕ) (l : Local) → entry_of lock n ≡ Is Free → proper l ≡ true → FitsLocal lock n l → entry_of (entered lock n l) n ≡ Is l
entered_own lock n Free e p f = e
entered_own lock n (Asking to) e p f = ap (λ k. entry_of k n) (asking-is lock n to e) ∙ asked_own lock n to e
entered_own lock n (Held mode) e p f = ap (λ k. entry_of k n) (asking_now-is lock n mode e f) ∙ holding_own lock n mode e
entered_own lock n (Converting from to) e p f =
    let own = holding_own lock n from e in
    ap (λ k. entry_of (converts k n to None) n) (asking_now-is lock n from e f)
    ∙ ap (λ k. entry_of k n) (converts-is (holding lock n from) n from to None own)
    ∙ converted_own (holding lock n from) n from to None own
    ∙ ap Is (proper_converting from to p)

pub entered_other : (lock : Lock) (n k : ℕ) (l : Local) → entry_of lock n ≡ Is Free → FitsLocal lock n l → k ≢ n → entry_of (entered lock n l) k ≡ entry_of lock k
entered_other lock n k Free e f ne = refl
entered_other lock n k (Asking to) e f ne = ap (λ m. entry_of m k) (asking-is lock n to e) ∙ asked_other lock n k to ne
entered_other lock n k (Held mode) e f ne = ap (λ m. entry_of m k) (asking_now-is lock n mode e f) ∙ holding_other lock n k mode ne
entered_other lock n k (Converting from to) e f ne =
    let own = holding_own lock n from e in
    ap (λ m. entry_of (converts m n to None) k) (asking_now-is lock n from e f)
    ∙ ap (λ m. entry_of m k) (converts-is (holding lock n from) n from to None own)
    ∙ converted_other (holding lock n from) n k to None ne
    ∙ holding_other lock n k from ne

pub entered_held : (lock : Lock) (n : ℕ) (l : Local) → entry_of lock n ≡ Is Free → proper l ≡ true → FitsLocal lock n l → (entered lock n l).held n ≡ mode_held l
entered_held lock n Free e p f = (free_at-is lock n e).held
entered_held lock n (Asking to) e p f = ap (λ k. k.held n) (asking-is lock n to e) ∙ (free_at-is lock n e).held
entered_held lock n (Held mode) e p f = ap (λ k. k.held n) (asking_now-is lock n mode e f) ∙ own_if n _ _
entered_held lock n (Converting from to) e p f =
    let own = holding_own lock n from e in
    ap (λ k. (converts k n to None).held n) (asking_now-is lock n from e f)
    ∙ ap (λ k. k.held n) (converts-is (holding lock n from) n from to None own)
    ∙ converted_held (holding lock n from) n from to None own
    ∙ ap (λ b. if b then Some to else Some from) (proper_not_weaker from to p)

pub entered_others_held : (lock : Lock) (n k : ℕ) (l : Local) → entry_of lock n ≡ Is Free → FitsLocal lock n l → k ≢ n → (entered lock n l).held k ≡ lock.held k
entered_others_held lock n k Free e f ne = refl
entered_others_held lock n k (Asking to) e f ne = ap (λ m. m.held k) (asking-is lock n to e)
entered_others_held lock n k (Held mode) e f ne = ap (λ m. m.held k) (asking_now-is lock n mode e f) ∙ other_if k n _ _ ne
entered_others_held lock n k (Converting from to) e f ne =
    let own = holding_own lock n from e in
    ap (λ m. (converts m n to None).held k) (asking_now-is lock n from e f)
    ∙ ap (λ m. m.held k) (converts-is (holding lock n from) n from to None own)
    ∙ converted_others_held (holding lock n from) n k to None ne
    ∙ other_if k n _ _ ne

pub released_held : (lock : Lock) (n : ℕ) (value : Option Block) → (released lock n value).held n ≡ None
released_held lock n value = own_if n _ _

pub released_others_held : (lock : Lock) (n k : ℕ) (value : Option Block) → k ≢ n → (released lock n value).held k ≡ lock.held k
released_others_held lock n k value ne = other_if k n _ _ ne

pub died_others_held : (lock : Lock) (n k : ℕ) → k ≢ n → (died lock n).held k ≡ lock.held k
died_others_held lock n k ne = other_if k n _ _ ne

-- Serving.

-- what the head's node has in the table
pub record Heads (lock now : Lock) (a : Ask) (l : Local) : Type 0 where
  pub waits : Awaits l a.mode
  pub own : entry_of now a.node ≡ Is (Held a.mode)
  pub other : (k : ℕ) → k ≢ a.node → entry_of now k ≡ entry_of lock k
  pub held : now.held a.node ≡ Some a.mode
  pub others : (k : ℕ) → k ≢ a.node → now.held k ≡ lock.held k

is_not_stuck : (l : Local) → Stuck ≡ Is l → ⊥
is_not_stuck l e = cc

same_local : (l k : Local) → Is l ≡ Is k → l ≡ k
same_local l k e = cc

pub record HeadConverts (h : Option Mode) (t : Mode) (c q : List Mode) (l : Local) : Type 0 where
  pub mode : Mode
  pub holds : h ≡ Some mode
  pub alone : c ≡ []
  pub none : q ≡ []
  pub stronger : weaker mode t ≡ false
  pub is : l ≡ Converting (kept mode t) t

head_converts : (h : Option Mode) (t : Mode) (c q : List Mode) (l : Local) → entry h (t ∷ c) q ≡ Is l → HeadConverts h t c q l
head_converts None t c q l e = absurd (is_not_stuck l e)
head_converts (Some m) t [] [] l e =
    elim (weaker m t) as (λ b. weaker m t ≡ b → (if b then Stuck else Is (if b then Held t else Converting (kept m t) t)) ≡ Is l → HeadConverts (Some m) t [] [] l) [
      | true ↦ λ w h. absurd (is_not_stuck l h)
      | false ↦ λ w h. record { mode = m; holds = refl; alone = refl; none = refl; stronger = w; is = sym (same_local _ _ h) }
    ] refl e
head_converts (Some m) t [] (x ∷ q) l e = absurd (is_not_stuck l e)
head_converts (Some m) t (x ∷ c) q l e = absurd (is_not_stuck l e)

pub record HeadRequests (h : Option Mode) (t : Mode) (q : List Mode) (l : Local) : Type 0 where
  pub holds : h ≡ None
  pub alone : q ≡ []
  pub is : l ≡ Asking t

head_requests : (h : Option Mode) (t : Mode) (q : List Mode) (l : Local) → entry h [] (t ∷ q) ≡ Is l → HeadRequests h t q l
head_requests None t [] l e = record { holds = refl; alone = refl; is = sym (same_local _ _ e) }
head_requests None t (x ∷ q) l e = absurd (is_not_stuck l e)
head_requests (Some m) t q l e = absurd (is_not_stuck l e)

pub serves_conversion : (lock : Lock) (a : Ask) (rest : List Ask) (l : Local) → lock.conversions ≡ a ∷ rest → entry_of lock a.node ≡ Is l → Heads lock (record lock { held = with_at lock.held a.node (Some a.mode); conversions = rest }) a l
serves_conversion lock a rest l q e =
    let is : asks_of a.node lock.conversions ≡ a.mode ∷ asks_of a.node rest = ap (asks_of a.node) q ∙ own_if a.node _ _ in
    let h : HeadConverts (lock.held a.node) a.mode (asks_of a.node rest) (asks_of a.node lock.requests) l = head_converts _ _ _ _ l (ap (λ c. entry (lock.held a.node) c (asks_of a.node lock.requests)) (sym is) ∙ e) in
    record {
      waits = subst (λ k. Awaits k a.mode) (sym h.is) (refl, kept_below h.mode a.mode h.stronger);
      own = three _ (Some a.mode) _ [] _ [] (own_if a.node _ _) h.alone h.none;
      other = λ k ne. three _ _ _ _ _ _ (other_if k a.node _ _ ne) (sym (ap (asks_of k) q ∙ other_if a.node k _ _ (λ x. ne (sym x)))) refl;
      held = own_if a.node _ _;
      others = λ k ne. other_if k a.node _ _ ne;
    }

pub serves_request : (lock : Lock) (a : Ask) (rest : List Ask) (l : Local) → lock.conversions ≡ [] → lock.requests ≡ a ∷ rest → entry_of lock a.node ≡ Is l → Heads lock (record lock { held = with_at lock.held a.node (Some a.mode); requests = rest }) a l
serves_request lock a rest l c q e =
    let is : asks_of a.node lock.requests ≡ a.mode ∷ asks_of a.node rest = ap (asks_of a.node) q ∙ own_if a.node _ _ in
    let none : asks_of a.node lock.conversions ≡ [] = ap (asks_of a.node) c in
    let h : HeadRequests (lock.held a.node) a.mode (asks_of a.node rest) l = head_requests _ _ _ l (sym (three _ _ _ _ _ _ refl none is) ∙ e) in
    record {
      waits = subst (λ k. Awaits k a.mode) (sym h.is) refl;
      own = three _ (Some a.mode) _ [] _ [] (own_if a.node _ _) none h.alone;
      other = λ k ne. three _ _ _ _ _ _ (other_if k a.node _ _ ne) refl (sym (ap (asks_of k) q ∙ other_if a.node k _ _ (λ x. ne (sym x))));
      held = own_if a.node _ _;
      others = λ k ne. other_if k a.node _ _ ne;
    }
