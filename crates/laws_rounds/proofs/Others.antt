-- What the invariant tells of all other nodes, where one is in a certain phase.
use Rattle.std.proofs.Common.{◌≡◌, ◌≢◌, ◌≤◌, ℕ, true, false, List, [], ◌∷◌, Option, Some, None, ap, arith}
use Rattle.std.specs.Prelude.{is_some, unwrap_or}
use Rattle.std.proofs.lemmas.Bool.Decides.{nat_tests}
use Rattle.dlm_modes.specs.Points.{with_at}
use Rattle.dlm_modes.specs.declared.mode.Mode.{Mode}
use Rattle.dlm_modes.specs.declared.mode.Mode.TheVariants.{NL, CR, CW, PR, EX}
use Rattle.dlm_space.specs.declared.ask.Ask.{Ask}
use Rattle.dlm_space.specs.Queues.{asks_of}
use Rattle.dlm_space.specs.Locks.{Lock, caller, mode_of, is_writer}
use Rattle.dlm_space.specs.Orderly.{agree}
use Rattle.msg_rounds.specs.Holds.{token_request, message_conversion, message_request, ack_conversion}
use Rattle.msg_rounds.specs.Locks.{token_res, message_res, ack_res}
use Rattle.msg_rounds.specs.Phases.{has_processed, has_message, has_published}
use Rattle.msg_rounds.specs.declared.phases.SenderPhase.{SenderPhase}
use Rattle.msg_rounds.specs.declared.phases.SenderPhase.TheVariants as senders
use Rattle.msg_rounds.specs.declared.phases.ReceiverPhase.{ReceiverPhase}
use Rattle.msg_rounds.specs.declared.phases.ReceiverPhase.TheVariants as receivers
use Rattle.laws_rounds.specs.Machine.{Rounds, is_in}
use Rattle.laws_rounds.specs.Invariants.{Apart, Held, Members}
use Rattle.laws_rounds.proofs.Changes.{lacks_token}

-- one node has `token`
pub alone : (w : Rounds) (n : ℕ) → Apart w → Held w → lacks_token (w.sender n) ≡ false → (m : ℕ) → m ≢ n → lacks_token (w.sender m) ≡ true
alone w n ap he s m ne = grind (arith, ap.token n m, he.token n, he.token m)

-- where one has `token` and has published nothing, nobody holds `ack` EX
pub calling_none : (w : Rounds) (n : ℕ) → Held w → ((m : ℕ) → has_published (w.sender m) ≡ false) → (m : ℕ) → agree (Some CR) ((w.locks ack_res).held m) ≡ true
calling_none w n he q m = grind (arith, he.ack m, q m)

pub alone_quiet : (w : Rounds) (n : ℕ) → has_published (w.sender n) ≡ false → ((m : ℕ) → m ≢ n → lacks_token (w.sender m) ≡ true) → (m : ℕ) → has_published (w.sender m) ≡ false
alone_quiet w n s a m = grind (arith, nat_tests, a m)

pub message_held : (w : Rounds) (n : ℕ) → Held w → has_message (w.sender n) ≡ true → (w.locks message_res).held n ≡ Some EX
message_held w n he s = grind (arith, he.message n)

pub ack_held : (w : Rounds) (n : ℕ) → Held w → Members w → w.sender n ≡ senders.Granted → (w.locks ack_res).held n ≡ Some EX
ack_held w n he me s = grind (arith, he.ack n, me.fitting n, me.sending n)

pub calm : (w : Rounds) (n : ℕ) → Apart w → Held w → Members w → has_message (w.sender n) ≡ true → (m : ℕ) → w.receiver m ≡ receivers.Idle
calm w n ap he me s m = grind (arith, nat_tests, ap.message n m, he.message n, he.message m, me.sending n, me.sending m)

-- who has `ack` EX waits for nobody
pub all_done : (w : Rounds) (n : ℕ) → Apart w → Held w → (w.locks ack_res).held n ≡ Some EX → (m : ℕ) → m ≢ n → is_in (w.state m) ≡ true → has_processed (w.receiver m) ≡ true
all_done w n ap he e m ne i = grind (arith, ap.ack n m, he.ack m)

-- while a message is published
pub published_cw : (w : Rounds) (p : ℕ) → Held w → has_published (w.sender p) ≡ true → (w.locks message_res).held p ≡ Some CW
published_cw w p he s = grind (arith, he.message p)

agrees_cw : (b : Option Mode) → agree (Some CW) b ≡ true → agree (Some CR) b ≡ true
agrees_cw b e = grind arith

pub readable : (w : Rounds) (p : ℕ) → Apart w → (w.locks message_res).held p ≡ Some CW → (m : ℕ) → agree (Some CR) ((w.locks message_res).held m) ≡ true
readable w p ap e m = grind (arith, nat_tests, ap.message p m, agrees_cw ((w.locks message_res).held m))

writes_not : (b : Option Mode) → agree (Some CW) b ≡ true → is_writer (unwrap_or b NL) ≡ false
writes_not b e = grind arith

pub unwritten : (w : Rounds) (n : ℕ) → Apart w → Held w → (p : ℕ) → has_published (w.sender p) ≡ true → is_writer (mode_of (w.locks message_res) n) ≡ false
unwritten w n ap he p s = grind (arith, nat_tests, ap.message p n, published_cw w p he s, writes_not ((w.locks message_res).held n))

pub quiet : (w : Rounds) (n : ℕ) → Apart w → Held w → (w.locks message_res).held n ≡ Some PR → (m : ℕ) → has_published (w.sender m) ≡ false
quiet w n ap he e m = grind (arith, nat_tests, ap.message n m, he.message m)

-- nodes from 16 on hold nothing
pub token_below : (w : Rounds) → Held w → Members w → (m : ℕ) → 16 ≤ m → (w.locks token_res).held m ≡ None
token_below w he me m le = grind (arith, he.token m, me.fitting m, me.below m le)

pub message_below : (w : Rounds) → Held w → Members w → (m : ℕ) → 16 ≤ m → (w.locks message_res).held m ≡ None
message_below w he me m le = grind (arith, he.message m, me.fitting m, me.idle m, me.below m le)

pub ack_below : (w : Rounds) → Held w → Members w → (m : ℕ) → 16 ≤ m → (w.locks ack_res).held m ≡ None
ack_below w he me m le = grind (arith, he.ack m, me.below m le)

-- The head of a queue.

-- what is asked at the head, and by others behind it
pub head_asks : (a : Ask) (rest : List Ask) (f : ℕ → List Mode) → ((m : ℕ) → asks_of m (a ∷ rest) ≡ f m) → f a.node ≡ a.mode ∷ asks_of a.node rest
head_asks a rest f q = grind (arith, nat_tests, q a.node)

pub rest_asks : (a : Ask) (rest : List Ask) (f : ℕ → List Mode) → ((m : ℕ) → asks_of m (a ∷ rest) ≡ f m) → (m : ℕ) → m ≢ a.node → asks_of m rest ≡ f m
rest_asks a rest f q m ne = grind (arith, nat_tests, q m)

pub token_asker : (s : SenderPhase) (held : Option Mode) (v : Mode) (rest : List Mode) → token_request s held ≡ v ∷ rest → (s ≡ senders.TokenAsked) × (held ≡ None) × (v ≡ EX) × (rest ≡ [])
token_asker s held v rest e = grind arith

pub message_asker : (s : SenderPhase) (held : Option Mode) (v : Mode) (rest : List Mode) → message_request s held ≡ v ∷ rest → (s ≡ senders.MessageAsked) × (held ≡ None) × (v ≡ EX) × (rest ≡ [])
message_asker s held v rest e = grind arith

pub message_converter : (r : ReceiverPhase) (held : Option Mode) (v : Mode) (rest : List Mode) → message_conversion r held ≡ v ∷ rest → (r ≡ receivers.Waiting) × (held ≡ Some CR) × (v ≡ PR) × (rest ≡ [])
message_converter r held v rest e = grind arith

pub ack_converter : (s : SenderPhase) (held : Option Mode) (v : Mode) (rest : List Mode) → ack_conversion s held ≡ v ∷ rest → (s ≡ senders.Published) × (held ≡ Some CR) × (v ≡ EX) × (rest ≡ [])
ack_converter s held v rest e = grind arith

-- what is left of a queue, where the head was served
pub left_of : {A : Type 0} (asks : A → Option Mode → List Mode) (f : ℕ → A) (held : ℕ → Option Mode) (a : Ask) (rest : List Ask) (v : Option Mode) → ((m : ℕ) → asks_of m (a ∷ rest) ≡ asks (f m) (held m)) → asks_of a.node rest ≡ asks (f a.node) v → (m : ℕ) → asks_of m rest ≡ asks (f m) (with_at held a.node v m)
left_of asks f held a rest v q e m = grind (arith, nat_tests, rest_asks a rest (λ k. asks (f k) (held k)) q m)

-- who is called by the head of `ack`
pub called : (lock : Lock) (n : ℕ) (a : Ask) (rest : List Ask) → lock.conversions ≡ a ∷ rest → lock.requests ≡ [] → is_some (caller lock n) ≡ true → (unwrap_or (caller lock n) 0 ≡ a.node) × (a.node ≢ n)
called lock n a rest c q e = grind (arith, nat_tests)
