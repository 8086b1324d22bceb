-- What one call changes, of many locks and of one.
use Rattle.std.proofs.Common.{◌≡◌, ℕ, List, [], ◌∷◌, Bool, true, false, ◌==◌, ◌&&◌, ◌||◌, Option, Some, None, refl, sym, ap, ◌∙◌, subst, arith, if◌then◌else◌}
use Rattle.std.specs.Prelude.{is_some, unwrap_or}
use Rattle.std.proofs.lemmas.Bool.Decides.{nat_tests}
use Rattle.dlm_modes.specs.Modes.{weaker, writes_value, reads_value}
use Rattle.dlm_modes.specs.declared.block.Block.{Block}
use Rattle.dlm_modes.specs.declared.mode.Mode.{Mode}
use Rattle.dlm_modes.specs.declared.mode.Mode.TheVariants.{NL}
use Rattle.dlm_space.specs.Queues.{ask_for, asks, without, head}
use Rattle.dlm_modes.specs.Points.{with_at}
use Rattle.dlm_space.specs.Locks.{Lock, mode_of, is_writer, holding, with_value, queued, converted_value, released_value, converted, granted_from, answer_to, answer_from, convert_answer}
use Rattle.dlm_space.specs.Parts.{IsQueue}
use Rattle.dlm_space.specs.Orderly.{IsOrderly}
use Rattle.dlm_space.specs.Sound.{holds_writer}
use Rattle.dlm_space.specs.declared.ask.Ask.{Ask}
use Rattle.dlm_space.specs.declared.answers.Converted.TheVariants.{Now, Queued}
use Rattle.dlm_space.specs.declared.answers.Granted.{Granted}
use Rattle.dlm_space.proofs.QueueLaws.{asks_head, without-none, without-head}
use Rattle.dlm_space.proofs.Kept.{holder_asks_not}

-- A change of one lock of many.

pub changed : {A : Type 0} (part : Lock → A) (locks : ℕ → Lock) (s : ℕ) (v : Lock) (f g : ℕ → A) → ((r : ℕ) → part (locks r) ≡ f r) → part v ≡ g s → (r : ℕ) → part (with_at locks s v r) ≡ (if r == s then g r else f r)
changed part locks s v f g old new r =
    elim (r == s) as (λ b. (r == s) ≡ b → part (if b then v else locks r) ≡ (if b then g r else f r)) [
      | true ↦ λ t. let same : r ≡ s = grind (arith, nat_tests) in new ∙ ap g (sym same)
      | false ↦ λ t. old r
    ] refl

pub stays : {A : Type 0} (part : Lock → A) (locks : ℕ → Lock) (s : ℕ) (v : Lock) (f : ℕ → A) → ((r : ℕ) → part (locks r) ≡ f r) → part v ≡ f s → (r : ℕ) → part (with_at locks s v r) ≡ f r
stays part locks s v f old new r =
    elim (r == s) as (λ b. (r == s) ≡ b → part (if b then v else locks r) ≡ f r) [
      | true ↦ λ t. let same : r ≡ s = grind (arith, nat_tests) in new ∙ ap f (sym same)
      | false ↦ λ t. old r
    ] refl

-- where both tests pass
nested : {A : Type 0} (b c : Bool) (x y z : A) → x ≡ (if b then (if c then y else z) else z) → x ≡ (if b && c then y else z)
nested b c x y z e = grind (arith, e)

pub held_after : (locks : ℕ → Lock) (s n : ℕ) (v : Lock) (o : Option Mode) (f : ℕ → ℕ → Option Mode) → ((r m : ℕ) → (locks r).held m ≡ f r m) → ((m : ℕ) → v.held m ≡ with_at (locks s).held n o m) → (r m : ℕ) → (with_at locks s v r).held m ≡ (if (r == s) && (m == n) then o else f r m)
held_after locks s n v o f old new r m =
    nested (r == s) (m == n) _ _ _ (changed (λ lock. lock.held m) locks s v (λ r. f r m) (λ r. if m == n then o else f r m) (λ r. old r m) (new m ∙ ap (λ x. if m == n then o else x) (old s m)) r)

-- the value that is written
pub written_at : {A : Type 0} (part : Lock → A) (locks : ℕ → Lock) (s : ℕ) (v : Lock) (value : A) (f : ℕ → A) (w : ℕ → Bool) → ((r : ℕ) → part (locks r) ≡ f r) → part v ≡ (if w s then value else f s) → (r : ℕ) → part (with_at locks s v r) ≡ (if (r == s) && w r then value else f r)
written_at part locks s v value f w old new r = nested (r == s) (w r) _ _ _ (changed part locks s v f (λ r. if w r then value else f r) old new r)

-- Modes that write.

pub writer : (o : Option Mode) → is_writer (unwrap_or o NL) ≡ holds_writer o
writer None = refl
writer (Some mode) = refl

weaker_writes : (from to : Mode) → weaker from to ≡ true → writes_value from to ≡ is_writer from
weaker_writes from to w = grind arith

pub block_written : (w : Bool) (v old : Block) → unwrap_or (if w then Some v else None) old ≡ (if w then v else old)
block_written true v old = refl
block_written false v old = refl

pub valid_written : (w : Bool) (v : Block) (old : Bool) → (is_some (if w then Some v else None) || old) ≡ (if w then true else old)
valid_written true v old = refl
valid_written false v old = refl

-- no value
pub none_written : (w : Bool) → (if w then None else None) ≡ (let none : Option Block = None in none)
none_written true = refl
none_written false = refl

-- A grant.

-- what a grant does and answers
pub record Serves (lock now : Lock) (conversions requests : List Ask) (g : Granted) : Type 0 where
  pub held : (n : ℕ) → now.held n ≡ with_at lock.held g.node (Some g.mode) n
  pub conversions_left : now.conversions ≡ without g.node conversions
  pub requests_left : now.requests ≡ without g.node requests
  pub block : now.block ≡ lock.block
  pub mark : now.valid ≡ lock.valid
  pub first : head conversions requests ≡ Some (ask_for g.node g.mode)
  pub value : g.value ≡ (if reads_value (mode_of lock g.node) g.mode then Some lock.block else None)
  pub valid : g.valid ≡ lock.valid

some : {A : Type 0} (a b : A) → Some a ≡ Some b → a ≡ b
some a b e = cc

null_mode : (o : Option Mode) → o ≡ None → unwrap_or o NL ≡ NL
null_mode o e = rw e refl

pub serves : (lock : Lock) (conversions requests : List Ask) (g : Granted) → lock.conversions ≡ conversions → lock.requests ≡ requests → IsOrderly lock → Some g ≡ answer_from lock conversions requests → Serves lock (granted_from lock conversions requests) conversions requests g
serves lock (a ∷ rest) requests g c q i e =
    let is : g ≡ answer_to lock (mode_of lock a.node) a = some _ _ e in
    let holds : is_some (lock.held a.node) ≡ true = i.converter a.node (rw c (asks_head a rest)) in
    let free : asks a.node requests ≡ false = rw q at (holder_asks_not lock a.node i holds) in
    rw is (record {
      held = λ n. refl;
      conversions_left = sym (without-head a rest (subst IsQueue c i.conversions));
      requests_left = q ∙ sym (without-none a.node requests free);
      block = refl;
      mark = refl;
      first = refl;
      value = refl;
      valid = refl;
    })
serves lock [] (a ∷ rest) g c q i e =
    let is : g ≡ answer_to lock NL a = some _ _ e in
    let none : mode_of lock a.node ≡ NL = null_mode (lock.held a.node) (i.requester a.node (rw q (asks_head a rest))) in
    rw is (record {
      held = λ n. refl;
      conversions_left = c;
      requests_left = sym (without-head a rest (subst IsQueue q i.requests));
      block = refl;
      mark = refl;
      first = refl;
      value = rw none refl;
      valid = refl;
    })
serves lock [] [] g c q i e = cc

-- A conversion.

-- what is taken at once, and what waits
pub record Takes (lock : Lock) (n : ℕ) (mode : Mode) (value : Option Block) : Type 0 where
  pub weak : weaker (mode_of lock n) mode ≡ true
  pub now : converted lock n mode value ≡ holding (with_value lock (released_value (mode_of lock n) value)) n mode

pub takes : (lock : Lock) (n : ℕ) (mode : Mode) (value : Option Block) → Now ≡ convert_answer lock n mode → Takes lock n mode value
takes lock n mode value e =
    elim (weaker (mode_of lock n) mode) as (λ b. weaker (mode_of lock n) mode ≡ b → Now ≡ (if b then Now else Queued) → Takes lock n mode value) [
      | true ↦ λ w e. record {
        weak = w;
        now = rw (w, weaker_writes (mode_of lock n) mode w) refl;
      }
      | false ↦ λ w e. cc
    ] refl e

pub waits : (lock : Lock) (n : ℕ) (mode : Mode) (value : Option Block) → Queued ≡ convert_answer lock n mode → converted lock n mode value ≡ queued lock n mode
waits lock n mode value e =
    elim (weaker (mode_of lock n) mode) as (λ b. Queued ≡ (if b then Now else Queued) → (if b then holding (with_value lock (converted_value (mode_of lock n) mode value)) n mode else queued lock n mode) ≡ queued lock n mode) [ true ↦ λ e. cc | false ↦ λ e. refl ] e
