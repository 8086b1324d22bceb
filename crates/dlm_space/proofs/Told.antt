-- What a list of accepted calls tells of the locks after it.
use Rattle.std.proofs.Common.{◌≡◌, ℕ, List, [], ◌∷◌, ◌++◌, Bool, true, false, not, ◌==◌, ◌&&◌, Option, Some, None, refl, sym, ap, ◌∙◌, arith, if◌then◌else◌}
use Rattle.std.specs.Prelude.{unwrap_or}
use Rattle.dlm_modes.specs.Modes.{agrees, weaker}
use Rattle.dlm_modes.specs.declared.block.Block.{Block}
use Rattle.dlm_modes.specs.declared.mode.Mode.{Mode}
use Rattle.dlm_modes.specs.declared.mode.Mode.TheVariants.{NL}
use Rattle.dlm_space.specs.Queues.{ask_for, without}
use Rattle.dlm_space.specs.Locks.{Lock, mode_of, is_writer, holding, queued, released_value, converted, granted, released, valid_block, asked}
use Rattle.dlm_space.specs.Calls.{Call, Asks, AsksNow, Converts, ConvertsNow, Grants, Releases, Dies, IsAccepted, AreAccepted, locks_after}
use Rattle.dlm_space.specs.Orderly.{agree}
use Rattle.dlm_space.specs.Sound.{held_in, conversions_in, requests_in, block_in, valid_in, mode_in, holds_writer, IsRight, AreRight, LockSound}
use Rattle.dlm_space.specs.declared.answers.Converted.TheVariants.{Now, Queued}
use Rattle.dlm_space.proofs.Changes.{changed, stays, held_after, written_at, writer, block_written, valid_written, none_written, Serves, serves, Takes, takes, waits}
use Rattle.dlm_space.proofs.Runs.{runs_orderly}

-- what the calls tell of one lock
pub record Told (past : List Call) (r : ℕ) (lock : Lock) : Type 0 where
  pub held : (n : ℕ) → lock.held n ≡ held_in past r n
  pub conversions : lock.conversions ≡ conversions_in past r
  pub requests : lock.requests ≡ requests_in past r
  pub block : lock.block ≡ block_in past r
  pub valid : lock.valid ≡ valid_in past r

-- the writer by what the calls tell
writes_told : (past : List Call) (r : ℕ) (lock : Lock) (n : ℕ) → Told past r lock → is_writer (mode_of lock n) ≡ holds_writer (held_in past r n)
writes_told past r lock n t = writer (lock.held n) ∙ ap holds_writer (t.held n)

dead : (a b w v : Bool) → a ≡ b → w ≡ v → (a && not w) ≡ (if v then false else b)
dead a b w v e f = grind arith

block_waits : (past : List Call) (n s r : ℕ) (mode : Mode) (value : Option Block) → block_in (Converts n s mode value Queued ∷ past) r ≡ block_in past r
block_waits past n s r mode None = refl
block_waits past n s r mode (Some value) = refl

valid_waits : (past : List Call) (n s r : ℕ) (mode : Mode) (value : Option Block) → valid_in (Converts n s mode value Queued ∷ past) r ≡ valid_in past r
valid_waits past n s r mode None = refl
valid_waits past n s r mode (Some value) = refl

pub runs_told : (past : List Call) → AreAccepted past → (r : ℕ) → Told past r (locks_after past r)
runs_told [] ok r = record { held = λ n. refl; conversions = refl; requests = refl; block = refl; valid = refl }
runs_told (Asks n s mode ∷ past) (ok, a) r =
    let locks = locks_after past in
    let all : (r : ℕ) → Told past r (locks r) = runs_told past ok in
    let v = asked (locks s) n mode in
    record {
      held = λ m. stays (λ lock. lock.held m) locks s v (λ r. held_in past r m) (λ r. (all r).held m) ((all s).held m) r;
      conversions = stays (λ lock. lock.conversions) locks s v (conversions_in past) (λ r. (all r).conversions) (all s).conversions r;
      requests = changed (λ lock. lock.requests) locks s v (requests_in past) (λ r. requests_in past r ++ ask_for n mode ∷ []) (λ r. (all r).requests) (ap (λ q. q ++ ask_for n mode ∷ []) (all s).requests) r;
      block = stays (λ lock. lock.block) locks s v (block_in past) (λ r. (all r).block) (all s).block r;
      valid = stays (λ lock. lock.valid) locks s v (valid_in past) (λ r. (all r).valid) (all s).valid r;
    }
runs_told (AsksNow n s mode given ∷ past) (ok, a) r =
    let locks = locks_after past in
    let all : (r : ℕ) → Told past r (locks r) = runs_told past ok in
    let v = holding (locks s) n mode in
    record {
      held = λ m. held_after locks s n v (Some mode) (held_in past) (λ r. (all r).held) (λ m. refl) r m;
      conversions = stays (λ lock. lock.conversions) locks s v (conversions_in past) (λ r. (all r).conversions) (all s).conversions r;
      requests = stays (λ lock. lock.requests) locks s v (requests_in past) (λ r. (all r).requests) (all s).requests r;
      block = stays (λ lock. lock.block) locks s v (block_in past) (λ r. (all r).block) (all s).block r;
      valid = stays (λ lock. lock.valid) locks s v (valid_in past) (λ r. (all r).valid) (all s).valid r;
    }
runs_told (Converts n s mode (Some value) Now ∷ past) (ok, a) r =
    let locks = locks_after past in
    let all : (r : ℕ) → Told past r (locks r) = runs_told past ok in
    let v = converted (locks s) n mode (Some value) in
    let t : Takes (locks s) n mode (Some value) = takes (locks s) n mode (Some value) a.answers in
    let w = writes_told past s (locks s) n (all s) in
    record {
      held = λ m. held_after locks s n v (Some mode) (held_in past) (λ r. (all r).held) (λ m. ap (λ (lock : Lock). lock.held m) t.now) r m;
      conversions = stays (λ lock. lock.conversions) locks s v (conversions_in past) (λ r. (all r).conversions) (ap (λ (lock : Lock). lock.conversions) t.now ∙ (all s).conversions) r;
      requests = stays (λ lock. lock.requests) locks s v (requests_in past) (λ r. (all r).requests) (ap (λ (lock : Lock). lock.requests) t.now ∙ (all s).requests) r;
      block = written_at (λ lock. lock.block) locks s v value (block_in past) (λ r. holds_writer (held_in past r n)) (λ r. (all r).block) (ap (λ (lock : Lock). lock.block) t.now ∙ block_written _ value (locks s).block ∙ rw (w, (all s).block) refl) r;
      valid = written_at (λ lock. lock.valid) locks s v true (valid_in past) (λ r. holds_writer (held_in past r n)) (λ r. (all r).valid) (ap (λ (lock : Lock). lock.valid) t.now ∙ valid_written _ value (locks s).valid ∙ rw (w, (all s).valid) refl) r;
    }
runs_told (Converts n s mode None Now ∷ past) (ok, a) r =
    let locks = locks_after past in
    let all : (r : ℕ) → Told past r (locks r) = runs_told past ok in
    let v = converted (locks s) n mode None in
    let t : Takes (locks s) n mode None = takes (locks s) n mode None a.answers in
    let none : released_value (mode_of (locks s) n) None ≡ None = none_written (is_writer (mode_of (locks s) n)) in
    record {
      held = λ m. held_after locks s n v (Some mode) (held_in past) (λ r. (all r).held) (λ m. ap (λ (lock : Lock). lock.held m) t.now) r m;
      conversions = stays (λ lock. lock.conversions) locks s v (conversions_in past) (λ r. (all r).conversions) (ap (λ (lock : Lock). lock.conversions) t.now ∙ (all s).conversions) r;
      requests = stays (λ lock. lock.requests) locks s v (requests_in past) (λ r. (all r).requests) (ap (λ (lock : Lock). lock.requests) t.now ∙ (all s).requests) r;
      block = stays (λ lock. lock.block) locks s v (block_in past) (λ r. (all r).block) (ap (λ (lock : Lock). lock.block) t.now ∙ rw none (all s).block) r;
      valid = stays (λ lock. lock.valid) locks s v (valid_in past) (λ r. (all r).valid) (ap (λ (lock : Lock). lock.valid) t.now ∙ rw none (all s).valid) r;
    }
runs_told (Converts n s mode value Queued ∷ past) (ok, a) r =
    let locks = locks_after past in
    let all : (r : ℕ) → Told past r (locks r) = runs_told past ok in
    let v = converted (locks s) n mode value in
    let t : v ≡ queued (locks s) n mode = waits (locks s) n mode value a.answers in
    record {
      held = λ m. stays (λ lock. lock.held m) locks s v (λ r. held_in past r m) (λ r. (all r).held m) (ap (λ (lock : Lock). lock.held m) t ∙ (all s).held m) r;
      conversions = changed (λ lock. lock.conversions) locks s v (conversions_in past) (λ r. conversions_in past r ++ ask_for n mode ∷ []) (λ r. (all r).conversions) (ap (λ (lock : Lock). lock.conversions) t ∙ ap (λ q. q ++ ask_for n mode ∷ []) (all s).conversions) r;
      requests = stays (λ lock. lock.requests) locks s v (requests_in past) (λ r. (all r).requests) (ap (λ (lock : Lock). lock.requests) t ∙ (all s).requests) r;
      block = stays (λ lock. lock.block) locks s v (block_in past) (λ r. (all r).block) (ap (λ (lock : Lock). lock.block) t ∙ (all s).block) r ∙ sym (block_waits past n s r mode value);
      valid = stays (λ lock. lock.valid) locks s v (valid_in past) (λ r. (all r).valid) (ap (λ (lock : Lock). lock.valid) t ∙ (all s).valid) r ∙ sym (valid_waits past n s r mode value);
    }
runs_told (ConvertsNow n s mode ∷ past) (ok, a) r =
    let locks = locks_after past in
    let all : (r : ℕ) → Told past r (locks r) = runs_told past ok in
    let v = holding (locks s) n mode in
    record {
      held = λ m. held_after locks s n v (Some mode) (held_in past) (λ r. (all r).held) (λ m. refl) r m;
      conversions = stays (λ lock. lock.conversions) locks s v (conversions_in past) (λ r. (all r).conversions) (all s).conversions r;
      requests = stays (λ lock. lock.requests) locks s v (requests_in past) (λ r. (all r).requests) (all s).requests r;
      block = stays (λ lock. lock.block) locks s v (block_in past) (λ r. (all r).block) (all s).block r;
      valid = stays (λ lock. lock.valid) locks s v (valid_in past) (λ r. (all r).valid) (all s).valid r;
    }
runs_told (Grants s g ∷ past) (ok, a) r =
    let locks = locks_after past in
    let all : (r : ℕ) → Told past r (locks r) = runs_told past ok in
    let v = granted (locks s) in
    let t : Serves (locks s) v (locks s).conversions (locks s).requests g = serves (locks s) (locks s).conversions (locks s).requests g refl refl (runs_orderly past ok s) a.answers in
    record {
      held = λ m. held_after locks s g.node v (Some g.mode) (held_in past) (λ r. (all r).held) t.held r m;
      conversions = changed (λ lock. lock.conversions) locks s v (conversions_in past) (λ r. without g.node (conversions_in past r)) (λ r. (all r).conversions) (t.conversions_left ∙ ap (without g.node) (all s).conversions) r;
      requests = changed (λ lock. lock.requests) locks s v (requests_in past) (λ r. without g.node (requests_in past r)) (λ r. (all r).requests) (t.requests_left ∙ ap (without g.node) (all s).requests) r;
      block = stays (λ lock. lock.block) locks s v (block_in past) (λ r. (all r).block) (t.block ∙ (all s).block) r;
      valid = stays (λ lock. lock.valid) locks s v (valid_in past) (λ r. (all r).valid) (t.mark ∙ (all s).valid) r;
    }
runs_told (Releases n s (Some value) ∷ past) (ok, a) r =
    let locks = locks_after past in
    let all : (r : ℕ) → Told past r (locks r) = runs_told past ok in
    let v = released (locks s) n (Some value) in
    let w = writes_told past s (locks s) n (all s) in
    record {
      held = λ m. held_after locks s n v None (held_in past) (λ r. (all r).held) (λ m. refl) r m;
      conversions = changed (λ lock. lock.conversions) locks s v (conversions_in past) (λ r. without n (conversions_in past r)) (λ r. (all r).conversions) (ap (without n) (all s).conversions) r;
      requests = stays (λ lock. lock.requests) locks s v (requests_in past) (λ r. (all r).requests) (all s).requests r;
      block = written_at (λ lock. lock.block) locks s v value (block_in past) (λ r. holds_writer (held_in past r n)) (λ r. (all r).block) (block_written _ value (locks s).block ∙ rw (w, (all s).block) refl) r;
      valid = written_at (λ lock. lock.valid) locks s v true (valid_in past) (λ r. holds_writer (held_in past r n)) (λ r. (all r).valid) (valid_written _ value (locks s).valid ∙ rw (w, (all s).valid) refl) r;
    }
runs_told (Releases n s None ∷ past) (ok, a) r =
    let locks = locks_after past in
    let all : (r : ℕ) → Told past r (locks r) = runs_told past ok in
    let v = released (locks s) n None in
    let none : released_value (mode_of (locks s) n) None ≡ None = none_written (is_writer (mode_of (locks s) n)) in
    record {
      held = λ m. held_after locks s n v None (held_in past) (λ r. (all r).held) (λ m. refl) r m;
      conversions = changed (λ lock. lock.conversions) locks s v (conversions_in past) (λ r. without n (conversions_in past r)) (λ r. (all r).conversions) (ap (without n) (all s).conversions) r;
      requests = stays (λ lock. lock.requests) locks s v (requests_in past) (λ r. (all r).requests) (all s).requests r;
      block = stays (λ lock. lock.block) locks s v (block_in past) (λ r. (all r).block) (rw none (all s).block) r;
      valid = stays (λ lock. lock.valid) locks s v (valid_in past) (λ r. (all r).valid) (rw none (all s).valid) r;
    }
runs_told (Dies n ∷ past) (ok, a) r =
    let lock = locks_after past r in
    let t : Told past r lock = runs_told past ok r in
    record {
      held = λ m. ap (λ x. if m == n then None else x) (t.held m);
      conversions = ap (without n) t.conversions;
      requests = ap (without n) t.requests;
      block = t.block;
      valid = dead _ _ _ _ t.valid (writes_told past r lock n t);
    }

-- What the calls answered.

agree_some : (f : Option Mode) (g : Option Mode) (a b : Mode) → f ≡ Some a → g ≡ Some b → agree f g ≡ true → agrees a b ≡ true
agree_some f g a b e d h = grind arith

given_told : (past : List Call) (r : ℕ) (lock : Lock) → Told past r lock → valid_block lock ≡ (if valid_in past r then Some (block_in past r) else None)
given_told past r lock t = rw (t.valid, t.block) refl

mode_told : (past : List Call) (r : ℕ) (lock : Lock) (n : ℕ) → Told past r lock → mode_of lock n ≡ mode_in past r n
mode_told past r lock n t = ap (λ o. unwrap_or o NL) (t.held n)

right : (call : Call) (past : List Call) → AreAccepted past → IsAccepted (locks_after past) call → IsRight call past
right (Asks n s mode) past ok a = tt
right (AsksNow n s mode given) past ok a = a.answers ∙ given_told past s (locks_after past s) (runs_told past ok s)
right (Converts n s mode value answer) past ok a = a.answers ∙ ap (λ from. if weaker from mode then Now else Queued) (mode_told past s (locks_after past s) n (runs_told past ok s))
right (ConvertsNow n s mode) past ok a = tt
right (Grants s g) past ok a =
    let lock = locks_after past s in
    let t : Told past s lock = runs_told past ok s in
    let v : Serves lock (granted lock) lock.conversions lock.requests g = serves lock lock.conversions lock.requests g refl refl (runs_orderly past ok s) a.answers in
    (rw (← t.conversions, ← t.requests) v.first, v.value ∙ rw (mode_told past s lock g.node t, t.block) refl, v.valid ∙ t.valid)
right (Releases n s value) past ok a = tt
right (Dies n) past ok a = tt

are_right : (past : List Call) → AreAccepted past → AreRight past
are_right [] ok = tt
are_right (call ∷ past) (ok, a) = (are_right past ok, right call past ok a)

pub calls_are_sound : (past : List Call) → AreAccepted past → LockSound past
calls_are_sound past ok = record {
  held = λ r. (runs_told past ok r).held;
  agree = λ r n m a b ne e d.
      let t : Told past r (locks_after past r) = runs_told past ok r in
      agree_some (held_in past r n) (held_in past r m) a b e d (rw (← t.held n, ← t.held m) ((runs_orderly past ok r).agree n m ne));
  conversions = λ r. (runs_told past ok r).conversions;
  requests = λ r. (runs_told past ok r).requests;
  requester = λ r n e.
      let t : Told past r (locks_after past r) = runs_told past ok r in
      sym (t.held n) ∙ (runs_orderly past ok r).requester n (rw t.requests e);
  block = λ r. (runs_told past ok r).block;
  valid = λ r. (runs_told past ok r).valid;
  answers = are_right past ok;
}
