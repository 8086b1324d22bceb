-- What each call of a round does to the locks, it does to the three locks of rounds.
use Rattle.std.proofs.Common.{◌≡◌, ℕ, [], Bool, true, false, ◌==◌, Option, Some, None, refl, sym, ap, ◌∙◌, arith, if◌then◌else◌}
use Rattle.std.proofs.lemmas.Bool.Decides.{nat_tests}
use Rattle.std.proofs.Math.Path.{fun_ext}
use Rattle.dlm_modes.specs.Points.{with_at}
use Rattle.dlm_modes.specs.declared.block.Block.{Block}
use Rattle.dlm_modes.specs.declared.mode.Mode.{Mode}
use Rattle.dlm_modes.specs.declared.mode.Mode.TheVariants.{CR, CW, PR, EX}
use Rattle.dlm_space.specs.Locks.{Lock, new_lock, zero_block, holding, with_value, asked, queued, granted, let_go, died, all_let_go, all_died}
use Rattle.msg_rounds.specs.Locks.{token_res, message_res, ack_res, token_asked, message_asked, published, finished, quitted, message_taken, message_processed, resumed, message_dropped}
use Rattle.msg_rounds.specs.Phases.{has_message}
use Rattle.msg_rounds.specs.declared.phases.SenderPhase.{SenderPhase}
use Rattle.laws_rounds.specs.Following.{is_of_rounds, three_of}

-- one of the three, and one of the others

at_three : (k r : ℕ) (lock old : Lock) → is_of_rounds r ≡ true → (if is_of_rounds k then (if k == r then lock else old) else new_lock) ≡ (if k == r then lock else (if is_of_rounds k then old else new_lock))
at_three k r lock old e = grind (arith, nat_tests)

at_else : (k r : ℕ) (lock old : Lock) → is_of_rounds r ≡ false → (if is_of_rounds k then (if k == r then lock else old) else new_lock) ≡ (if is_of_rounds k then old else new_lock)
at_else k r lock old e = grind (arith, nat_tests)

pub three_at : (locks : ℕ → Lock) (r : ℕ) (lock : Lock) → is_of_rounds r ≡ true → three_of (with_at locks r lock) ≡ with_at (three_of locks) r lock
three_at locks r lock e = fun_ext (λ k. at_three k r lock (locks k) e)

-- bitmaps, `no-new-dev` and `resync` don't get in the way
pub three_else : (locks : ℕ → Lock) (r : ℕ) (lock : Lock) → is_of_rounds r ≡ false → three_of (with_at locks r lock) ≡ three_of locks
three_else locks r lock e = fun_ext (λ k. at_else k r lock (locks k) e)

pub three_is : (locks : ℕ → Lock) (r : ℕ) → is_of_rounds r ≡ true → three_of locks r ≡ locks r
three_is locks r e = rw e refl

two_at : (locks : ℕ → Lock) (r k : ℕ) (a b : Lock) → is_of_rounds r ≡ true → is_of_rounds k ≡ true → three_of (with_at (with_at locks r a) k b) ≡ with_at (with_at (three_of locks) r a) k b
two_at locks r k a b e f = three_at (with_at locks r a) k b f ∙ ap (λ l. with_at l k b) (three_at locks r a e)

all_at : (locks : ℕ → Lock) (a b c : Lock) → three_of (with_at (with_at (with_at locks ack_res a) message_res b) token_res c) ≡ with_at (with_at (with_at (three_of locks) ack_res a) message_res b) token_res c
all_at locks a b c = three_at (with_at (with_at locks ack_res a) message_res b) token_res c refl ∙ ap (λ l. with_at l token_res c) (two_at locks ack_res message_res a b refl refl)

-- The calls of a round.

pub three_token_asked : (locks : ℕ → Lock) (n : ℕ) → three_of (token_asked locks n) ≡ token_asked (three_of locks) n
three_token_asked locks n = three_at locks token_res (asked (locks token_res) n EX) refl

pub three_message_asked : (locks : ℕ → Lock) (n : ℕ) → three_of (message_asked locks n) ≡ message_asked (three_of locks) n
three_message_asked locks n = three_at locks message_res (asked (locks message_res) n EX) refl

pub three_published : (locks : ℕ → Lock) (n : ℕ) (block : Block) → three_of (published locks n block) ≡ published (three_of locks) n block
three_published locks n block = two_at locks message_res ack_res (holding (with_value (locks message_res) (Some block)) n CW) (queued (locks ack_res) n EX) refl refl

pub three_finished : (locks : ℕ → Lock) (n : ℕ) → three_of (finished locks n) ≡ finished (three_of locks) n
three_finished locks n = all_at locks (holding (locks ack_res) n CR) (let_go (locks message_res) n) (let_go (locks token_res) n)

pub three_quitted : (locks : ℕ → Lock) (n : ℕ) (s : SenderPhase) → three_of (quitted locks n s) ≡ quitted (three_of locks) n s
three_quitted locks n s = by_test (has_message s)
  where
    by_test : (b : Bool) → three_of (with_at (if b then with_at locks message_res (let_go (locks message_res) n) else locks) token_res (let_go (locks token_res) n)) ≡ with_at (if b then with_at (three_of locks) message_res (let_go (locks message_res) n) else three_of locks) token_res (let_go (locks token_res) n)
    by_test true = two_at locks message_res token_res (let_go (locks message_res) n) (let_go (locks token_res) n) refl refl
    by_test false = three_at locks token_res (let_go (locks token_res) n) refl

pub three_message_taken : (locks : ℕ → Lock) (n : ℕ) → three_of (message_taken locks n) ≡ message_taken (three_of locks) n
three_message_taken locks n = three_at locks message_res (holding (locks message_res) n CR) refl

pub three_message_processed : (locks : ℕ → Lock) (n : ℕ) → three_of (message_processed locks n) ≡ message_processed (three_of locks) n
three_message_processed locks n = two_at locks ack_res message_res (let_go (locks ack_res) n) (queued (locks message_res) n PR) refl refl

pub three_resumed : (locks : ℕ → Lock) (n : ℕ) → three_of (resumed locks n) ≡ resumed (three_of locks) n
three_resumed locks n = two_at locks ack_res message_res (holding (locks ack_res) n CR) (let_go (locks message_res) n) refl refl

pub three_message_dropped : (locks : ℕ → Lock) (n : ℕ) → three_of (message_dropped locks n) ≡ message_dropped (three_of locks) n
three_message_dropped locks n = three_at locks message_res (let_go (locks message_res) n) refl

-- Coming in, a grant, and a death.

pub three_come_in : (locks : ℕ → Lock) (n : ℕ) → three_of (with_at locks ack_res (holding (locks ack_res) n CR)) ≡ with_at (three_of locks) ack_res (holding (three_of locks ack_res) n CR)
three_come_in locks n = three_at locks ack_res (holding (locks ack_res) n CR) refl

pub three_granted : (locks : ℕ → Lock) (r : ℕ) → is_of_rounds r ≡ true → three_of (with_at locks r (granted (locks r))) ≡ with_at (three_of locks) r (granted (three_of locks r))
three_granted locks r e = three_at locks r (granted (locks r)) e ∙ ap (λ (lock : Lock). with_at (three_of locks) r (granted lock)) (sym (three_is locks r e))

new_dies : (n : ℕ) → died new_lock n ≡ new_lock
new_dies n = λ i. record { held = λ m. none_at n m i; conversions = []; requests = []; block = zero_block; valid = true }
  where
    none_at : (n m : ℕ) → (if m == n then None else None) ≡ (let none : Option Mode = None in none)
    none_at n m = grind arith

new_lets_go : (n : ℕ) → let_go new_lock n ≡ new_lock
new_lets_go n = λ i. record { held = λ m. none_at n m i; conversions = []; requests = []; block = zero_block; valid = true }
  where
    none_at : (n m : ℕ) → (if m == n then None else None) ≡ (let none : Option Mode = None in none)
    none_at n m = grind arith

-- a change of each lock
each : (f : Lock → Lock) (locks : ℕ → Lock) → f new_lock ≡ new_lock → three_of (λ r. f (locks r)) ≡ (λ r. f (three_of locks r))
each f locks e = fun_ext (λ r. by_test r (is_of_rounds r))
  where
    by_test : (r : ℕ) (b : Bool) → (if b then f (locks r) else new_lock) ≡ f (if b then locks r else new_lock)
    by_test r true = refl
    by_test r false = sym e

pub three_all_died : (locks : ℕ → Lock) (n : ℕ) → three_of (all_died locks n) ≡ all_died (three_of locks) n
three_all_died locks n = each (λ lock. died lock n) locks (new_dies n)

pub three_all_let_go : (locks : ℕ → Lock) (n : ℕ) → three_of (all_let_go locks n) ≡ all_let_go (three_of locks) n
three_all_let_go locks n = each (λ lock. let_go lock n) locks (new_lets_go n)
