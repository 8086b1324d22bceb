-- The calls that a round makes to the locks of its phases aren't refused.
use Rattle.std.proofs.Common.{◌≡◌, ◌≢◌, ℕ, zero, suc, ◌+◌, ◌==◌, Bool, true, false, Some, None, refl, ap, ◌∙◌, subst, arith}
use Rattle.std.proofs.lemmas.Bool.Decides.{nat_tests}
use Rattle.dlm_modes.specs.First.{first_such}
use Rattle.dlm_modes.specs.Modes.{weaker}
use Rattle.dlm_modes.specs.Points.{with_at}
use Rattle.dlm_modes.specs.declared.mode.Mode.TheVariants.{CR, PR, EX}
use Rattle.dlm_space.specs.Locks.{Lock, is_against, blocker, blocked, ask_refusal, ask_now_refusal, convert_refusal, release_refusal, mode_of, caller, let_go}
use Rattle.msg_rounds.specs.Holds.{SenderHolds, ReceiverHolds, MayTake, MayResume}
use Rattle.msg_rounds.specs.Locks.{token_res, message_res, ack_res, quitted}
use Rattle.msg_rounds.specs.Phases.{Receiving, has_message, may_quit}
use Rattle.msg_rounds.specs.Refusals.{pr_refusal, may_resume, take_refusal, resume_refusal}
use Rattle.msg_rounds.specs.declared.phases.SenderPhase.{SenderPhase}
use Rattle.msg_rounds.specs.declared.phases.SenderPhase.TheVariants as senders
use Rattle.msg_rounds.specs.declared.phases.ReceiverPhase.{ReceiverPhase}
use Rattle.msg_rounds.specs.declared.phases.ReceiverPhase.TheVariants as receivers

-- Two calls, one after the other.

-- what a call leaves alone
pub other : (now old : ℕ → Lock) (r k : ℕ) (v : Lock) → now ≡ with_at old r v → (k == r) ≡ false → now k ≡ old k
other now old r k v e ne = ap (λ (f : ℕ → Lock). f k) e ∙ rw ne refl

pub second : (old now after : ℕ → Lock) (r k : ℕ) (v : Lock) (f : Lock → Lock) → now ≡ with_at old r v → after ≡ with_at now k (f (now k)) → after ≡ with_at (with_at old r v) k (f (with_at old r v k))
second old now after r k v f e g = let P : (ℕ → Lock) → Type 0 = λ locks. after ≡ with_at locks k (f (locks k)) in subst P e g

pub third : (old after last : ℕ → Lock) (q r k : ℕ) (u v : Lock) (f : Lock → Lock) → after ≡ with_at (with_at old q u) r v → last ≡ with_at after k (f (after k)) → last ≡ with_at (with_at (with_at old q u) r v) k (f (with_at (with_at old q u) r v k))
third old after last q r k u v f e g = let P : (ℕ → Lock) → Type 0 = λ locks. last ≡ with_at locks k (f (locks k)) in subst P e g

-- Of a sender.

pub publish_raises : (old now : ℕ → Lock) (n : ℕ) (s : SenderPhase) → s ≡ senders.Offered → SenderHolds old n s → now ack_res ≡ old ack_res → weaker (mode_of (now ack_res) n) EX ≡ false
publish_raises old now n s is h e = grind arith

pub publish_converts : (old now : ℕ → Lock) (n : ℕ) (s : SenderPhase) → s ≡ senders.Offered → SenderHolds old n s → now ack_res ≡ old ack_res → convert_refusal (now ack_res) n ≡ None
publish_converts old now n s is h e = grind arith

pub finish_message : (old now : ℕ → Lock) (n : ℕ) (s : SenderPhase) → s ≡ senders.Granted → SenderHolds old n s → now message_res ≡ old message_res → release_refusal (now message_res) n ≡ None
finish_message old now n s is h e = grind arith

pub finish_token : (old now : ℕ → Lock) (n : ℕ) (s : SenderPhase) → s ≡ senders.Granted → SenderHolds old n s → now token_res ≡ old token_res → release_refusal (now token_res) n ≡ None
finish_token old now n s is h e = grind arith

pub quit_token : (old now : ℕ → Lock) (n : ℕ) (s : SenderPhase) → may_quit s ≡ true → SenderHolds old n s → now token_res ≡ old token_res → release_refusal (now token_res) n ≡ None
quit_token old now n s may h e = grind arith

pub quit_with : (old now after : ℕ → Lock) (n : ℕ) (s : SenderPhase) → has_message s ≡ true → now ≡ with_at old message_res (let_go (old message_res) n) → after ≡ with_at now token_res (let_go (now token_res) n) → after ≡ quitted old n s
quit_with old now after n s is e g = rw is (second old now after message_res token_res (let_go (old message_res) n) (λ (lock : Lock). let_go lock n) e g)

pub quit_without : (old now after : ℕ → Lock) (n : ℕ) (s : SenderPhase) → has_message s ≡ false → now ≡ old → after ≡ with_at now token_res (let_go (now token_res) n) → after ≡ quitted old n s
quit_without old now after n s is e g = rw is (let P : (ℕ → Lock) → Type 0 = λ locks. after ≡ with_at locks token_res (let_go (locks token_res) n) in subst P e g)

-- Of a receiver.

pub processed_raises : (old now : ℕ → Lock) (n : ℕ) (r : ReceiverPhase) → r ≡ receivers.Taken → ReceiverHolds old n r → now message_res ≡ old message_res → weaker (mode_of (now message_res) n) PR ≡ false
processed_raises old now n r is h e = grind arith

pub processed_converts : (old now : ℕ → Lock) (n : ℕ) (r : ReceiverPhase) → r ≡ receivers.Taken → ReceiverHolds old n r → now message_res ≡ old message_res → convert_refusal (now message_res) n ≡ None
processed_converts old now n r is h e = grind arith

pub resume_message : (old now : ℕ → Lock) (n : ℕ) → pr_refusal old n ≡ None → now message_res ≡ old message_res → release_refusal (now message_res) n ≡ None
resume_message old now n may e = grind arith

pub take_accepted : (locks : ℕ → Lock) (n sender : ℕ) (r : Receiving) → r.phase ≡ receivers.Idle → Some sender ≡ caller (locks ack_res) n → take_refusal locks n r ≡ None
take_accepted locks n sender r is e = grind arith

pub resume_accepted : (locks : ℕ → Lock) (n : ℕ) (r : Receiving) → may_resume r.phase ≡ true → pr_refusal locks n ≡ None → resume_refusal locks n r ≡ None
resume_accepted locks n r is e = grind arith

-- where all fail, none is found
fails : (p : ℕ → Bool) (i n : ℕ) → ((k : ℕ) → p k ≡ false) → first_such p i n ≡ None
unfolding first_such
fails p i zero each = refl
fails p i (suc n) each = rw (each i) (fails p (i + 1) n each)

-- CR agrees with all but EX
agrees_with : (lock : Lock) (n m : ℕ) → (m ≢ n → lock.held m ≢ Some EX) → is_against lock n CR m ≡ false
agrees_with lock n m apart = grind (arith, nat_tests)

not_blocked : (lock : Lock) (n : ℕ) → ((m : ℕ) → m ≢ n → lock.held m ≢ Some EX) → blocked lock (blocker lock n CR) ≡ None
not_blocked lock n apart =
    let e : blocker lock n CR ≡ None = fails (is_against lock n CR) 0 16 (λ m. agrees_with lock n m (apart m)) in
    rw e refl

takes : (lock : Lock) (n : ℕ) → ask_refusal lock n ≡ None → blocked lock (blocker lock n CR) ≡ None → ask_now_refusal lock n CR ≡ None
takes lock n free agrees = rw free agrees

free_message : (locks : ℕ → Lock) (n : ℕ) → MayTake locks n → ask_refusal (locks message_res) n ≡ None
free_message locks n may = grind arith

pub take_message : (locks : ℕ → Lock) (n : ℕ) → MayTake locks n → ask_now_refusal (locks message_res) n CR ≡ None
take_message locks n may = takes (locks message_res) n (free_message locks n may) (not_blocked (locks message_res) n may.readable)

free_ack : (locks : ℕ → Lock) (n : ℕ) (r : ReceiverPhase) → may_resume r ≡ true → ReceiverHolds locks n r → ask_refusal (locks ack_res) n ≡ None
free_ack locks n r may h = grind arith

pub resume_ack : (locks : ℕ → Lock) (n : ℕ) (r : ReceiverPhase) → may_resume r ≡ true → ReceiverHolds locks n r → MayResume locks n → ask_now_refusal (locks ack_res) n CR ≡ None
resume_ack locks n r is h may = takes (locks ack_res) n (free_ack locks n r is h) (not_blocked (locks ack_res) n may.takeable)
