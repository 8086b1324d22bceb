-- What each event keeps of what the phases say of locks and queues, of the members, and of the rounds.
use Rattle.std.proofs.Common.{◌≡◌, ◌≢◌, ◌<◌, ℕ, Bool, true, false, List, ◌∷◌, Some, None, arith}
use Rattle.std.proofs.lemmas.Bool.Decides.{nat_tests}
use Rattle.dlm_modes.specs.Points.{with_at}
use Rattle.dlm_modes.specs.declared.block.Block.{Block}
use Rattle.dlm_modes.specs.declared.mode.Mode.TheVariants.{CR, CW, PR, EX}
use Rattle.dlm_space.specs.declared.ask.Ask.{Ask}
use Rattle.dlm_space.specs.Queues.{asks_of}
use Rattle.dlm_space.specs.Locks.{mode_of, is_writer}
use Rattle.dlm_space.specs.Orderly.{agree}
use Rattle.dlm_space.proofs.QueueLaws.{asks_of-push, asks_of-without}
use Rattle.mdc_types.specs.declared.roles.NodeState.TheVariants as states
use Rattle.msg_rounds.specs.Holds.{token_request, message_conversion, message_request, ack_conversion}
use Rattle.msg_rounds.specs.Locks.{token_res, message_res, ack_res}
use Rattle.msg_rounds.specs.Phases.{has_processed, may_receive, has_message, has_published}
use Rattle.msg_rounds.specs.declared.phases.SenderPhase.TheVariants as senders
use Rattle.msg_rounds.specs.declared.phases.ReceiverPhase.TheVariants as receivers
use Rattle.laws_rounds.specs.Machine.{Rounds, Join, ComeIn, Leave, AskToken, TokenGranted, AskMessage, MessageGranted, Offer, Void, Publish, AckGranted, Finish, Quit, Take, Processed, PrGranted, Resume, Drop, Grant, Die, Answer, Entry, is_live, is_in, after}
use Rattle.laws_rounds.specs.Invariants.{Apart, Held, Queues, Members, Told}
use Rattle.laws_rounds.proofs.Apart.{apart_hold, apart_none, apart_less}
use Rattle.laws_rounds.proofs.Changes.{lacks_token, take_from, quit_with, token_served, message_converted, message_served, ack_converted}

pub join_Apart : (w : Rounds) (n : ℕ) → Apart w → n < 16 → w.state n ≡ states.Out → Apart (after w (Join n))
join_Apart w n ap lt out = record { token = ap.token; message = ap.message; ack = ap.ack }

pub join_Held : (w : Rounds) (n : ℕ) → Held w → Queues w → Members w → n < 16 → w.state n ≡ states.Out → Held (after w (Join n))
join_Held w n he qu me lt out = grind (arith, nat_tests)

pub join_Queues : (w : Rounds) (n : ℕ) → Held w → Queues w → Members w → n < 16 → w.state n ≡ states.Out → Queues (after w (Join n))
join_Queues w n he qu me lt out = grind (arith, nat_tests, asks_of-push, asks_of-without)

pub join_Members : (w : Rounds) (n : ℕ) → Held w → Queues w → Members w → n < 16 → w.state n ≡ states.Out → Members (after w (Join n))
join_Members w n he qu me lt out = grind (arith, nat_tests)

pub join_Told : (w : Rounds) (n : ℕ) (members : ℕ → Bool) (past : List Entry) (answer : Answer) → Held w → Queues w → Members w → Told w members past → n < 16 → w.state n ≡ states.Out → Told (after w (Join n)) members (record { event = Join n; answer = answer } ∷ past)
join_Told w n members past answer he qu me to lt out = grind (arith, nat_tests)

pub come_in_Apart : (w : Rounds) (n : ℕ) → Apart w → w.state n ≡ states.Joining → w.sender n ≡ senders.TokenHeld → ((m : ℕ) → m ≢ n → lacks_token (w.sender m) ≡ true) → ((m : ℕ) → m ≢ n → agree (Some CR) ((w.locks ack_res).held m) ≡ true) → Apart (after w (ComeIn n))
come_in_Apart w n ap st se alone free = record { token = ap.token; message = ap.message; ack = apart_hold (w.locks ack_res).held n (Some CR) ap.ack free }

pub come_in_Held : (w : Rounds) (n : ℕ) → Held w → Queues w → Members w → w.state n ≡ states.Joining → w.sender n ≡ senders.TokenHeld → ((m : ℕ) → m ≢ n → lacks_token (w.sender m) ≡ true) → ((m : ℕ) → m ≢ n → agree (Some CR) ((w.locks ack_res).held m) ≡ true) → Held (after w (ComeIn n))
come_in_Held w n he qu me st se alone free = grind (arith, nat_tests)

pub come_in_Queues : (w : Rounds) (n : ℕ) → Held w → Queues w → Members w → w.state n ≡ states.Joining → w.sender n ≡ senders.TokenHeld → ((m : ℕ) → m ≢ n → lacks_token (w.sender m) ≡ true) → ((m : ℕ) → m ≢ n → agree (Some CR) ((w.locks ack_res).held m) ≡ true) → Queues (after w (ComeIn n))
come_in_Queues w n he qu me st se alone free = grind (arith, nat_tests, asks_of-push, asks_of-without)

pub come_in_Members : (w : Rounds) (n : ℕ) → Held w → Queues w → Members w → w.state n ≡ states.Joining → w.sender n ≡ senders.TokenHeld → ((m : ℕ) → m ≢ n → lacks_token (w.sender m) ≡ true) → ((m : ℕ) → m ≢ n → agree (Some CR) ((w.locks ack_res).held m) ≡ true) → Members (after w (ComeIn n))
come_in_Members w n he qu me st se alone free = grind (arith, nat_tests)

pub come_in_Told : (w : Rounds) (n : ℕ) (members : ℕ → Bool) (past : List Entry) (answer : Answer) → Held w → Queues w → Members w → Told w members past → w.state n ≡ states.Joining → w.sender n ≡ senders.TokenHeld → ((m : ℕ) → m ≢ n → lacks_token (w.sender m) ≡ true) → ((m : ℕ) → m ≢ n → agree (Some CR) ((w.locks ack_res).held m) ≡ true) → Told (after w (ComeIn n)) members (record { event = ComeIn n; answer = answer } ∷ past)
come_in_Told w n members past answer he qu me to st se alone free = grind (arith, nat_tests)

pub leave_Apart : (w : Rounds) (n : ℕ) → Apart w → w.state n ≡ states.Up → w.sender n ≡ senders.Idle → w.receiver n ≡ receivers.Idle → Apart (after w (Leave n))
leave_Apart w n ap st se re = record { token = ap.token; message = ap.message; ack = apart_none (w.locks ack_res).held n ap.ack }

pub leave_Held : (w : Rounds) (n : ℕ) → Held w → Queues w → Members w → w.state n ≡ states.Up → w.sender n ≡ senders.Idle → w.receiver n ≡ receivers.Idle → Held (after w (Leave n))
leave_Held w n he qu me st se re = grind (arith, nat_tests)

pub leave_Queues : (w : Rounds) (n : ℕ) → Held w → Queues w → Members w → w.state n ≡ states.Up → w.sender n ≡ senders.Idle → w.receiver n ≡ receivers.Idle → Queues (after w (Leave n))
leave_Queues w n he qu me st se re = grind (arith, nat_tests, asks_of-push, asks_of-without)

pub leave_Members : (w : Rounds) (n : ℕ) → Held w → Queues w → Members w → w.state n ≡ states.Up → w.sender n ≡ senders.Idle → w.receiver n ≡ receivers.Idle → Members (after w (Leave n))
leave_Members w n he qu me st se re = grind (arith, nat_tests)

pub leave_Told : (w : Rounds) (n : ℕ) (members : ℕ → Bool) (past : List Entry) (answer : Answer) → Held w → Queues w → Members w → Told w members past → w.state n ≡ states.Up → w.sender n ≡ senders.Idle → w.receiver n ≡ receivers.Idle → Told (after w (Leave n)) members (record { event = Leave n; answer = answer } ∷ past)
leave_Told w n members past answer he qu me to st se re = grind (arith, nat_tests)

pub ask_token_Apart : (w : Rounds) (n : ℕ) → Apart w → w.state n ≡ states.Up → w.sender n ≡ senders.Idle → w.receiver n ≡ receivers.Idle → Apart (after w (AskToken n))
ask_token_Apart w n ap st se re = record { token = ap.token; message = ap.message; ack = ap.ack }

pub ask_token_Held : (w : Rounds) (n : ℕ) → Held w → Queues w → Members w → w.state n ≡ states.Up → w.sender n ≡ senders.Idle → w.receiver n ≡ receivers.Idle → Held (after w (AskToken n))
ask_token_Held w n he qu me st se re = grind (arith, nat_tests)

pub ask_token_Queues : (w : Rounds) (n : ℕ) → Held w → Queues w → Members w → w.state n ≡ states.Up → w.sender n ≡ senders.Idle → w.receiver n ≡ receivers.Idle → Queues (after w (AskToken n))
ask_token_Queues w n he qu me st se re = grind (arith, nat_tests, asks_of-push, asks_of-without)

pub ask_token_Members : (w : Rounds) (n : ℕ) → Held w → Queues w → Members w → w.state n ≡ states.Up → w.sender n ≡ senders.Idle → w.receiver n ≡ receivers.Idle → Members (after w (AskToken n))
ask_token_Members w n he qu me st se re = grind (arith, nat_tests)

pub ask_token_Told : (w : Rounds) (n : ℕ) (members : ℕ → Bool) (past : List Entry) (answer : Answer) → Held w → Queues w → Members w → Told w members past → w.state n ≡ states.Up → w.sender n ≡ senders.Idle → w.receiver n ≡ receivers.Idle → Told (after w (AskToken n)) members (record { event = AskToken n; answer = answer } ∷ past)
ask_token_Told w n members past answer he qu me to st se re = grind (arith, nat_tests)

pub token_told_Apart : (w : Rounds) (n : ℕ) → Apart w → w.sender n ≡ senders.TokenAsked → (w.locks token_res).held n ≡ Some EX → Apart (after w (TokenGranted n))
token_told_Apart w n ap se ex = record { token = ap.token; message = ap.message; ack = ap.ack }

pub token_told_Held : (w : Rounds) (n : ℕ) → Held w → Queues w → Members w → w.sender n ≡ senders.TokenAsked → (w.locks token_res).held n ≡ Some EX → Held (after w (TokenGranted n))
token_told_Held w n he qu me se ex = grind (arith, nat_tests)

pub token_told_Queues : (w : Rounds) (n : ℕ) → Held w → Queues w → Members w → w.sender n ≡ senders.TokenAsked → (w.locks token_res).held n ≡ Some EX → Queues (after w (TokenGranted n))
token_told_Queues w n he qu me se ex = grind (arith, nat_tests, asks_of-push, asks_of-without)

pub token_told_Members : (w : Rounds) (n : ℕ) → Held w → Queues w → Members w → w.sender n ≡ senders.TokenAsked → (w.locks token_res).held n ≡ Some EX → Members (after w (TokenGranted n))
token_told_Members w n he qu me se ex = grind (arith, nat_tests)

pub token_told_Told : (w : Rounds) (n : ℕ) (members : ℕ → Bool) (past : List Entry) (answer : Answer) → Held w → Queues w → Members w → Told w members past → w.sender n ≡ senders.TokenAsked → (w.locks token_res).held n ≡ Some EX → Told (after w (TokenGranted n)) members (record { event = TokenGranted n; answer = answer } ∷ past)
token_told_Told w n members past answer he qu me to se ex = grind (arith, nat_tests)

pub ask_message_Apart : (w : Rounds) (n : ℕ) → Apart w → is_in (w.state n) ≡ true → w.sender n ≡ senders.TokenHeld → w.receiver n ≡ receivers.Idle → Apart (after w (AskMessage n))
ask_message_Apart w n ap st se re = record { token = ap.token; message = ap.message; ack = ap.ack }

pub ask_message_Held : (w : Rounds) (n : ℕ) → Held w → Queues w → Members w → is_in (w.state n) ≡ true → w.sender n ≡ senders.TokenHeld → w.receiver n ≡ receivers.Idle → Held (after w (AskMessage n))
ask_message_Held w n he qu me st se re = grind (arith, nat_tests)

pub ask_message_Queues : (w : Rounds) (n : ℕ) → Held w → Queues w → Members w → is_in (w.state n) ≡ true → w.sender n ≡ senders.TokenHeld → w.receiver n ≡ receivers.Idle → Queues (after w (AskMessage n))
ask_message_Queues w n he qu me st se re = grind (arith, nat_tests, asks_of-push, asks_of-without)

pub ask_message_Members : (w : Rounds) (n : ℕ) → Held w → Queues w → Members w → is_in (w.state n) ≡ true → w.sender n ≡ senders.TokenHeld → w.receiver n ≡ receivers.Idle → Members (after w (AskMessage n))
ask_message_Members w n he qu me st se re = grind (arith, nat_tests)

pub ask_message_Told : (w : Rounds) (n : ℕ) (members : ℕ → Bool) (past : List Entry) (answer : Answer) → Held w → Queues w → Members w → Told w members past → is_in (w.state n) ≡ true → w.sender n ≡ senders.TokenHeld → w.receiver n ≡ receivers.Idle → Told (after w (AskMessage n)) members (record { event = AskMessage n; answer = answer } ∷ past)
ask_message_Told w n members past answer he qu me to st se re = grind (arith, nat_tests)

pub message_told_Apart : (w : Rounds) (n : ℕ) → Apart w → w.sender n ≡ senders.MessageAsked → (w.locks message_res).held n ≡ Some EX → Apart (after w (MessageGranted n))
message_told_Apart w n ap se ex = record { token = ap.token; message = ap.message; ack = ap.ack }

pub message_told_Held : (w : Rounds) (n : ℕ) → Held w → Queues w → Members w → w.sender n ≡ senders.MessageAsked → (w.locks message_res).held n ≡ Some EX → Held (after w (MessageGranted n))
message_told_Held w n he qu me se ex = grind (arith, nat_tests)

pub message_told_Queues : (w : Rounds) (n : ℕ) → Held w → Queues w → Members w → w.sender n ≡ senders.MessageAsked → (w.locks message_res).held n ≡ Some EX → Queues (after w (MessageGranted n))
message_told_Queues w n he qu me se ex = grind (arith, nat_tests, asks_of-push, asks_of-without)

pub message_told_Members : (w : Rounds) (n : ℕ) → Held w → Queues w → Members w → w.sender n ≡ senders.MessageAsked → (w.locks message_res).held n ≡ Some EX → Members (after w (MessageGranted n))
message_told_Members w n he qu me se ex = grind (arith, nat_tests)

pub message_told_Told : (w : Rounds) (n : ℕ) (members : ℕ → Bool) (past : List Entry) (answer : Answer) → Held w → Queues w → Members w → Told w members past → w.sender n ≡ senders.MessageAsked → (w.locks message_res).held n ≡ Some EX → Told (after w (MessageGranted n)) members (record { event = MessageGranted n; answer = answer } ∷ past)
message_told_Told w n members past answer he qu me to se ex = grind (arith, nat_tests)

pub offer_Apart : (w : Rounds) (n : ℕ) → Apart w → w.sender n ≡ senders.MessageHeld → Apart (after w (Offer n))
offer_Apart w n ap se = record { token = ap.token; message = ap.message; ack = ap.ack }

pub offer_Held : (w : Rounds) (n : ℕ) → Held w → Queues w → Members w → w.sender n ≡ senders.MessageHeld → Held (after w (Offer n))
offer_Held w n he qu me se = grind (arith, nat_tests)

pub offer_Queues : (w : Rounds) (n : ℕ) → Held w → Queues w → Members w → w.sender n ≡ senders.MessageHeld → Queues (after w (Offer n))
offer_Queues w n he qu me se = grind (arith, nat_tests, asks_of-push, asks_of-without)

pub offer_Members : (w : Rounds) (n : ℕ) → Held w → Queues w → Members w → w.sender n ≡ senders.MessageHeld → Members (after w (Offer n))
offer_Members w n he qu me se = grind (arith, nat_tests)

pub offer_Told : (w : Rounds) (n : ℕ) (members : ℕ → Bool) (past : List Entry) (answer : Answer) → Held w → Queues w → Members w → Told w members past → w.sender n ≡ senders.MessageHeld → Told (after w (Offer n)) members (record { event = Offer n; answer = answer } ∷ past)
offer_Told w n members past answer he qu me to se = grind (arith, nat_tests)

pub void_Apart : (w : Rounds) (n : ℕ) → Apart w → w.sender n ≡ senders.Offered → Apart (after w (Void n))
void_Apart w n ap se = record { token = ap.token; message = ap.message; ack = ap.ack }

pub void_Held : (w : Rounds) (n : ℕ) → Held w → Queues w → Members w → w.sender n ≡ senders.Offered → Held (after w (Void n))
void_Held w n he qu me se = grind (arith, nat_tests)

pub void_Queues : (w : Rounds) (n : ℕ) → Held w → Queues w → Members w → w.sender n ≡ senders.Offered → Queues (after w (Void n))
void_Queues w n he qu me se = grind (arith, nat_tests, asks_of-push, asks_of-without)

pub void_Members : (w : Rounds) (n : ℕ) → Held w → Queues w → Members w → w.sender n ≡ senders.Offered → Members (after w (Void n))
void_Members w n he qu me se = grind (arith, nat_tests)

pub void_Told : (w : Rounds) (n : ℕ) (members : ℕ → Bool) (past : List Entry) (answer : Answer) → Held w → Queues w → Members w → Told w members past → w.sender n ≡ senders.Offered → Told (after w (Void n)) members (record { event = Void n; answer = answer } ∷ past)
void_Told w n members past answer he qu me to se = grind (arith, nat_tests)

pub publish_Apart : (w : Rounds) (n : ℕ) (block : Block) → Apart w → w.sender n ≡ senders.Offered → (w.locks message_res).held n ≡ Some EX → ((m : ℕ) → m ≢ n → lacks_token (w.sender m) ≡ true) → ((m : ℕ) → w.receiver m ≡ receivers.Idle) → Apart (after w (Publish n block))
publish_Apart w n block ap se ex alone calm = record { token = ap.token; message = apart_less (w.locks message_res).held n CW ap.message ex; ack = ap.ack }

pub publish_Held : (w : Rounds) (n : ℕ) (block : Block) → Held w → Queues w → Members w → w.sender n ≡ senders.Offered → (w.locks message_res).held n ≡ Some EX → ((m : ℕ) → m ≢ n → lacks_token (w.sender m) ≡ true) → ((m : ℕ) → w.receiver m ≡ receivers.Idle) → Held (after w (Publish n block))
publish_Held w n block he qu me se ex alone calm = grind (arith, nat_tests)

pub publish_Queues : (w : Rounds) (n : ℕ) (block : Block) → Held w → Queues w → Members w → w.sender n ≡ senders.Offered → (w.locks message_res).held n ≡ Some EX → ((m : ℕ) → m ≢ n → lacks_token (w.sender m) ≡ true) → ((m : ℕ) → w.receiver m ≡ receivers.Idle) → Queues (after w (Publish n block))
publish_Queues w n block he qu me se ex alone calm = grind (arith, nat_tests, asks_of-push, asks_of-without)

pub publish_Members : (w : Rounds) (n : ℕ) (block : Block) → Held w → Queues w → Members w → w.sender n ≡ senders.Offered → (w.locks message_res).held n ≡ Some EX → ((m : ℕ) → m ≢ n → lacks_token (w.sender m) ≡ true) → ((m : ℕ) → w.receiver m ≡ receivers.Idle) → Members (after w (Publish n block))
publish_Members w n block he qu me se ex alone calm = grind (arith, nat_tests)

pub publish_Told : (w : Rounds) (n : ℕ) (block : Block) (members : ℕ → Bool) (past : List Entry) (answer : Answer) → Held w → Queues w → Members w → Told w members past → w.sender n ≡ senders.Offered → (w.locks message_res).held n ≡ Some EX → ((m : ℕ) → m ≢ n → lacks_token (w.sender m) ≡ true) → ((m : ℕ) → w.receiver m ≡ receivers.Idle) → Told (after w (Publish n block)) members (record { event = Publish n block; answer = answer } ∷ past)
publish_Told w n block members past answer he qu me to se ex alone calm = grind (arith, nat_tests)

pub ack_told_Apart : (w : Rounds) (n : ℕ) → Apart w → w.sender n ≡ senders.Published → (w.locks ack_res).held n ≡ Some EX → Apart (after w (AckGranted n))
ack_told_Apart w n ap se ex = record { token = ap.token; message = ap.message; ack = ap.ack }

pub ack_told_Held : (w : Rounds) (n : ℕ) → Held w → Queues w → Members w → w.sender n ≡ senders.Published → (w.locks ack_res).held n ≡ Some EX → Held (after w (AckGranted n))
ack_told_Held w n he qu me se ex = grind (arith, nat_tests)

pub ack_told_Queues : (w : Rounds) (n : ℕ) → Held w → Queues w → Members w → w.sender n ≡ senders.Published → (w.locks ack_res).held n ≡ Some EX → Queues (after w (AckGranted n))
ack_told_Queues w n he qu me se ex = grind (arith, nat_tests, asks_of-push, asks_of-without)

pub ack_told_Members : (w : Rounds) (n : ℕ) → Held w → Queues w → Members w → w.sender n ≡ senders.Published → (w.locks ack_res).held n ≡ Some EX → Members (after w (AckGranted n))
ack_told_Members w n he qu me se ex = grind (arith, nat_tests)

pub ack_told_Told : (w : Rounds) (n : ℕ) (members : ℕ → Bool) (past : List Entry) (answer : Answer) → Held w → Queues w → Members w → Told w members past → w.sender n ≡ senders.Published → (w.locks ack_res).held n ≡ Some EX → Told (after w (AckGranted n)) members (record { event = AckGranted n; answer = answer } ∷ past)
ack_told_Told w n members past answer he qu me to se ex = grind (arith, nat_tests)

pub finish_Apart : (w : Rounds) (n : ℕ) → Apart w → w.sender n ≡ senders.Granted → (w.locks ack_res).held n ≡ Some EX → ((m : ℕ) → m ≢ n → lacks_token (w.sender m) ≡ true) → ((m : ℕ) → m ≢ n → is_in (w.state m) ≡ true → has_processed (w.receiver m) ≡ true) → Apart (after w (Finish n))
finish_Apart w n ap se ex alone done = record { token = apart_none (w.locks token_res).held n ap.token; message = apart_none (w.locks message_res).held n ap.message; ack = apart_less (w.locks ack_res).held n CR ap.ack ex }

pub finish_Held : (w : Rounds) (n : ℕ) → Held w → Queues w → Members w → w.sender n ≡ senders.Granted → (w.locks ack_res).held n ≡ Some EX → ((m : ℕ) → m ≢ n → lacks_token (w.sender m) ≡ true) → ((m : ℕ) → m ≢ n → is_in (w.state m) ≡ true → has_processed (w.receiver m) ≡ true) → Held (after w (Finish n))
finish_Held w n he qu me se ex alone done = grind (arith, nat_tests)

pub finish_Queues : (w : Rounds) (n : ℕ) → Held w → Queues w → Members w → w.sender n ≡ senders.Granted → (w.locks ack_res).held n ≡ Some EX → ((m : ℕ) → m ≢ n → lacks_token (w.sender m) ≡ true) → ((m : ℕ) → m ≢ n → is_in (w.state m) ≡ true → has_processed (w.receiver m) ≡ true) → Queues (after w (Finish n))
finish_Queues w n he qu me se ex alone done = grind (arith, nat_tests, asks_of-push, asks_of-without)

pub finish_Members : (w : Rounds) (n : ℕ) → Held w → Queues w → Members w → w.sender n ≡ senders.Granted → (w.locks ack_res).held n ≡ Some EX → ((m : ℕ) → m ≢ n → lacks_token (w.sender m) ≡ true) → ((m : ℕ) → m ≢ n → is_in (w.state m) ≡ true → has_processed (w.receiver m) ≡ true) → Members (after w (Finish n))
finish_Members w n he qu me se ex alone done = grind (arith, nat_tests)

pub finish_Told : (w : Rounds) (n : ℕ) (members : ℕ → Bool) (past : List Entry) (answer : Answer) → Held w → Queues w → Members w → Told w members past → w.sender n ≡ senders.Granted → (w.locks ack_res).held n ≡ Some EX → ((m : ℕ) → m ≢ n → lacks_token (w.sender m) ≡ true) → ((m : ℕ) → m ≢ n → is_in (w.state m) ≡ true → has_processed (w.receiver m) ≡ true) → Told (after w (Finish n)) members (record { event = Finish n; answer = answer } ∷ past)
finish_Told w n members past answer he qu me to se ex alone done = grind (arith, nat_tests)

pub quit_up_Apart : (w : Rounds) (n : ℕ) → Apart w → w.state n ≡ states.Up → has_message (w.sender n) ≡ true → Apart (quit_with w n states.Up true)
quit_up_Apart w n ap st se = record { token = apart_none (w.locks token_res).held n ap.token; message = apart_none (w.locks message_res).held n ap.message; ack = ap.ack }

pub quit_up_Held : (w : Rounds) (n : ℕ) → Held w → Queues w → Members w → w.state n ≡ states.Up → has_message (w.sender n) ≡ true → Held (quit_with w n states.Up true)
quit_up_Held w n he qu me st se = grind (arith, nat_tests)

pub quit_up_Queues : (w : Rounds) (n : ℕ) → Held w → Queues w → Members w → w.state n ≡ states.Up → has_message (w.sender n) ≡ true → Queues (quit_with w n states.Up true)
quit_up_Queues w n he qu me st se = grind (arith, nat_tests, asks_of-push, asks_of-without)

pub quit_up_Members : (w : Rounds) (n : ℕ) → Held w → Queues w → Members w → w.state n ≡ states.Up → has_message (w.sender n) ≡ true → Members (quit_with w n states.Up true)
quit_up_Members w n he qu me st se = grind (arith, nat_tests)

pub quit_up_Told : (w : Rounds) (n : ℕ) (members : ℕ → Bool) (past : List Entry) (answer : Answer) → Held w → Queues w → Members w → Told w members past → w.state n ≡ states.Up → has_message (w.sender n) ≡ true → Told (quit_with w n states.Up true) members (record { event = Quit n; answer = answer } ∷ past)
quit_up_Told w n members past answer he qu me to st se = grind (arith, nat_tests)

pub quit_token_Apart : (w : Rounds) (n : ℕ) → Apart w → w.state n ≡ states.Up → w.sender n ≡ senders.TokenHeld → Apart (quit_with w n states.Up false)
quit_token_Apart w n ap st se = record { token = apart_none (w.locks token_res).held n ap.token; message = ap.message; ack = ap.ack }

pub quit_token_Held : (w : Rounds) (n : ℕ) → Held w → Queues w → Members w → w.state n ≡ states.Up → w.sender n ≡ senders.TokenHeld → Held (quit_with w n states.Up false)
quit_token_Held w n he qu me st se = grind (arith, nat_tests)

pub quit_token_Queues : (w : Rounds) (n : ℕ) → Held w → Queues w → Members w → w.state n ≡ states.Up → w.sender n ≡ senders.TokenHeld → Queues (quit_with w n states.Up false)
quit_token_Queues w n he qu me st se = grind (arith, nat_tests, asks_of-push, asks_of-without)

pub quit_token_Members : (w : Rounds) (n : ℕ) → Held w → Queues w → Members w → w.state n ≡ states.Up → w.sender n ≡ senders.TokenHeld → Members (quit_with w n states.Up false)
quit_token_Members w n he qu me st se = grind (arith, nat_tests)

pub quit_token_Told : (w : Rounds) (n : ℕ) (members : ℕ → Bool) (past : List Entry) (answer : Answer) → Held w → Queues w → Members w → Told w members past → w.state n ≡ states.Up → w.sender n ≡ senders.TokenHeld → Told (quit_with w n states.Up false) members (record { event = Quit n; answer = answer } ∷ past)
quit_token_Told w n members past answer he qu me to st se = grind (arith, nat_tests)

pub quit_loaded_Apart : (w : Rounds) (n : ℕ) → Apart w → w.state n ≡ states.Loaded → has_message (w.sender n) ≡ true → Apart (quit_with w n states.Loaded true)
quit_loaded_Apart w n ap st se = record { token = apart_none (w.locks token_res).held n ap.token; message = apart_none (w.locks message_res).held n ap.message; ack = apart_none (w.locks ack_res).held n ap.ack }

pub quit_loaded_Held : (w : Rounds) (n : ℕ) → Held w → Queues w → Members w → w.state n ≡ states.Loaded → has_message (w.sender n) ≡ true → Held (quit_with w n states.Loaded true)
quit_loaded_Held w n he qu me st se = grind (arith, nat_tests)

pub quit_loaded_Queues : (w : Rounds) (n : ℕ) → Held w → Queues w → Members w → w.state n ≡ states.Loaded → has_message (w.sender n) ≡ true → Queues (quit_with w n states.Loaded true)
quit_loaded_Queues w n he qu me st se = record {
  token_requests = λ n'. grind (arith, nat_tests, asks_of-push, asks_of-without, qu.token_requests n');
  token_conversions = grind (arith, nat_tests, asks_of-push, asks_of-without, qu.token_conversions);
  message_requests = λ n'. grind (arith, nat_tests, asks_of-push, asks_of-without, qu.message_requests n');
  message_conversions = λ n'. grind (arith, nat_tests, asks_of-push, asks_of-without, qu.message_conversions n');
  ack_requests = grind (arith, nat_tests, asks_of-push, asks_of-without, qu.ack_requests);
  ack_conversions = λ n'. grind (arith, nat_tests, asks_of-push, asks_of-without, qu.ack_conversions n');
}

pub quit_loaded_Members : (w : Rounds) (n : ℕ) → Held w → Queues w → Members w → w.state n ≡ states.Loaded → has_message (w.sender n) ≡ true → Members (quit_with w n states.Loaded true)
quit_loaded_Members w n he qu me st se = grind (arith, nat_tests)

pub quit_loaded_Told : (w : Rounds) (n : ℕ) (members : ℕ → Bool) (past : List Entry) (answer : Answer) → Held w → Queues w → Members w → Told w members past → w.state n ≡ states.Loaded → has_message (w.sender n) ≡ true → Told (quit_with w n states.Loaded true) members (record { event = Quit n; answer = answer } ∷ past)
quit_loaded_Told w n members past answer he qu me to st se = grind (arith, nat_tests)

pub quit_loaded_token_Apart : (w : Rounds) (n : ℕ) → Apart w → w.state n ≡ states.Loaded → w.sender n ≡ senders.TokenHeld → Apart (quit_with w n states.Loaded false)
quit_loaded_token_Apart w n ap st se = record { token = apart_none (w.locks token_res).held n ap.token; message = ap.message; ack = apart_none (w.locks ack_res).held n ap.ack }

pub quit_loaded_token_Held : (w : Rounds) (n : ℕ) → Held w → Queues w → Members w → w.state n ≡ states.Loaded → w.sender n ≡ senders.TokenHeld → Held (quit_with w n states.Loaded false)
quit_loaded_token_Held w n he qu me st se = grind (arith, nat_tests)

pub quit_loaded_token_Queues : (w : Rounds) (n : ℕ) → Held w → Queues w → Members w → w.state n ≡ states.Loaded → w.sender n ≡ senders.TokenHeld → Queues (quit_with w n states.Loaded false)
quit_loaded_token_Queues w n he qu me st se = grind (arith, nat_tests, asks_of-push, asks_of-without)

pub quit_loaded_token_Members : (w : Rounds) (n : ℕ) → Held w → Queues w → Members w → w.state n ≡ states.Loaded → w.sender n ≡ senders.TokenHeld → Members (quit_with w n states.Loaded false)
quit_loaded_token_Members w n he qu me st se = grind (arith, nat_tests)

pub quit_loaded_token_Told : (w : Rounds) (n : ℕ) (members : ℕ → Bool) (past : List Entry) (answer : Answer) → Held w → Queues w → Members w → Told w members past → w.state n ≡ states.Loaded → w.sender n ≡ senders.TokenHeld → Told (quit_with w n states.Loaded false) members (record { event = Quit n; answer = answer } ∷ past)
quit_loaded_token_Told w n members past answer he qu me to st se = grind (arith, nat_tests)

pub quit_joining_Apart : (w : Rounds) (n : ℕ) → Apart w → w.state n ≡ states.Joining → w.sender n ≡ senders.TokenHeld → Apart (quit_with w n states.Joining false)
quit_joining_Apart w n ap st se = record { token = apart_none (w.locks token_res).held n ap.token; message = ap.message; ack = apart_none (w.locks ack_res).held n ap.ack }

pub quit_joining_Held : (w : Rounds) (n : ℕ) → Held w → Queues w → Members w → w.state n ≡ states.Joining → w.sender n ≡ senders.TokenHeld → Held (quit_with w n states.Joining false)
quit_joining_Held w n he qu me st se = grind (arith, nat_tests)

pub quit_joining_Queues : (w : Rounds) (n : ℕ) → Held w → Queues w → Members w → w.state n ≡ states.Joining → w.sender n ≡ senders.TokenHeld → Queues (quit_with w n states.Joining false)
quit_joining_Queues w n he qu me st se = grind (arith, nat_tests, asks_of-push, asks_of-without)

pub quit_joining_Members : (w : Rounds) (n : ℕ) → Held w → Queues w → Members w → w.state n ≡ states.Joining → w.sender n ≡ senders.TokenHeld → Members (quit_with w n states.Joining false)
quit_joining_Members w n he qu me st se = grind (arith, nat_tests)

pub quit_joining_Told : (w : Rounds) (n : ℕ) (members : ℕ → Bool) (past : List Entry) (answer : Answer) → Held w → Queues w → Members w → Told w members past → w.state n ≡ states.Joining → w.sender n ≡ senders.TokenHeld → Told (quit_with w n states.Joining false) members (record { event = Quit n; answer = answer } ∷ past)
quit_joining_Told w n members past answer he qu me to st se = grind (arith, nat_tests)

pub take_Apart : (w : Rounds) (n p : ℕ) → Apart w → w.state n ≡ states.Up → w.receiver n ≡ receivers.Idle → w.sender p ≡ senders.Published → p ≢ n → may_receive (w.sender n) ≡ true → ((m : ℕ) → m ≢ p → lacks_token (w.sender m) ≡ true) → ((m : ℕ) → m ≢ n → agree (Some CR) ((w.locks message_res).held m) ≡ true) → Apart (take_from w n p)
take_Apart w n p ap st re se ne own alone free = record { token = ap.token; message = apart_hold (w.locks message_res).held n (Some CR) ap.message free; ack = ap.ack }

pub take_Held : (w : Rounds) (n p : ℕ) → Held w → Queues w → Members w → w.state n ≡ states.Up → w.receiver n ≡ receivers.Idle → w.sender p ≡ senders.Published → p ≢ n → may_receive (w.sender n) ≡ true → ((m : ℕ) → m ≢ p → lacks_token (w.sender m) ≡ true) → ((m : ℕ) → m ≢ n → agree (Some CR) ((w.locks message_res).held m) ≡ true) → Held (take_from w n p)
take_Held w n p he qu me st re se ne own alone free = grind (arith, nat_tests)

pub take_Queues : (w : Rounds) (n p : ℕ) → Held w → Queues w → Members w → w.state n ≡ states.Up → w.receiver n ≡ receivers.Idle → w.sender p ≡ senders.Published → p ≢ n → may_receive (w.sender n) ≡ true → ((m : ℕ) → m ≢ p → lacks_token (w.sender m) ≡ true) → ((m : ℕ) → m ≢ n → agree (Some CR) ((w.locks message_res).held m) ≡ true) → Queues (take_from w n p)
take_Queues w n p he qu me st re se ne own alone free = grind (arith, nat_tests, asks_of-push, asks_of-without)

pub take_Members : (w : Rounds) (n p : ℕ) → Held w → Queues w → Members w → w.state n ≡ states.Up → w.receiver n ≡ receivers.Idle → w.sender p ≡ senders.Published → p ≢ n → may_receive (w.sender n) ≡ true → ((m : ℕ) → m ≢ p → lacks_token (w.sender m) ≡ true) → ((m : ℕ) → m ≢ n → agree (Some CR) ((w.locks message_res).held m) ≡ true) → Members (take_from w n p)
take_Members w n p he qu me st re se ne own alone free = grind (arith, nat_tests)

pub take_Told : (w : Rounds) (n p : ℕ) (members : ℕ → Bool) (past : List Entry) (answer : Answer) → Held w → Queues w → Members w → Told w members past → w.state n ≡ states.Up → w.receiver n ≡ receivers.Idle → w.sender p ≡ senders.Published → p ≢ n → may_receive (w.sender n) ≡ true → ((m : ℕ) → m ≢ p → lacks_token (w.sender m) ≡ true) → ((m : ℕ) → m ≢ n → agree (Some CR) ((w.locks message_res).held m) ≡ true) → Told (take_from w n p) members (record { event = Take n; answer = answer } ∷ past)
take_Told w n p members past answer he qu me to st re se ne own alone free = grind (arith, nat_tests)

pub processed_Apart : (w : Rounds) (n : ℕ) → Apart w → w.receiver n ≡ receivers.Taken → w.gone n ≡ false → Apart (after w (Processed n))
processed_Apart w n ap re gone = record { token = ap.token; message = ap.message; ack = apart_none (w.locks ack_res).held n ap.ack }

pub processed_Held : (w : Rounds) (n : ℕ) → Held w → Queues w → Members w → w.receiver n ≡ receivers.Taken → w.gone n ≡ false → Held (after w (Processed n))
processed_Held w n he qu me re gone = grind (arith, nat_tests)

pub processed_Queues : (w : Rounds) (n : ℕ) → Held w → Queues w → Members w → w.receiver n ≡ receivers.Taken → w.gone n ≡ false → Queues (after w (Processed n))
processed_Queues w n he qu me re gone = grind (arith, nat_tests, asks_of-push, asks_of-without)

pub processed_Members : (w : Rounds) (n : ℕ) → Held w → Queues w → Members w → w.receiver n ≡ receivers.Taken → w.gone n ≡ false → Members (after w (Processed n))
processed_Members w n he qu me re gone = grind (arith, nat_tests)

pub processed_Told : (w : Rounds) (n : ℕ) (members : ℕ → Bool) (past : List Entry) (answer : Answer) → Held w → Queues w → Members w → Told w members past → w.receiver n ≡ receivers.Taken → w.gone n ≡ false → Told (after w (Processed n)) members (record { event = Processed n; answer = answer } ∷ past)
processed_Told w n members past answer he qu me to re gone = grind (arith, nat_tests)

pub pr_told_Apart : (w : Rounds) (n : ℕ) → Apart w → w.receiver n ≡ receivers.Waiting → (w.locks message_res).held n ≡ Some PR → Apart (after w (PrGranted n))
pr_told_Apart w n ap re pr = record { token = ap.token; message = ap.message; ack = ap.ack }

pub pr_told_Held : (w : Rounds) (n : ℕ) → Held w → Queues w → Members w → w.receiver n ≡ receivers.Waiting → (w.locks message_res).held n ≡ Some PR → Held (after w (PrGranted n))
pr_told_Held w n he qu me re pr = grind (arith, nat_tests)

pub pr_told_Queues : (w : Rounds) (n : ℕ) → Held w → Queues w → Members w → w.receiver n ≡ receivers.Waiting → (w.locks message_res).held n ≡ Some PR → Queues (after w (PrGranted n))
pr_told_Queues w n he qu me re pr = grind (arith, nat_tests, asks_of-push, asks_of-without)

pub pr_told_Members : (w : Rounds) (n : ℕ) → Held w → Queues w → Members w → w.receiver n ≡ receivers.Waiting → (w.locks message_res).held n ≡ Some PR → Members (after w (PrGranted n))
pr_told_Members w n he qu me re pr = grind (arith, nat_tests)

pub pr_told_Told : (w : Rounds) (n : ℕ) (members : ℕ → Bool) (past : List Entry) (answer : Answer) → Held w → Queues w → Members w → Told w members past → w.receiver n ≡ receivers.Waiting → (w.locks message_res).held n ≡ Some PR → Told (after w (PrGranted n)) members (record { event = PrGranted n; answer = answer } ∷ past)
pr_told_Told w n members past answer he qu me to re pr = grind (arith, nat_tests)

pub resume_Apart : (w : Rounds) (n : ℕ) → Apart w → has_processed (w.receiver n) ≡ true → (w.locks message_res).held n ≡ Some PR → ((m : ℕ) → has_published (w.sender m) ≡ false) → ((m : ℕ) → m ≢ n → agree (Some CR) ((w.locks ack_res).held m) ≡ true) → Apart (after w (Resume n))
resume_Apart w n ap re pr quiet free = record { token = ap.token; message = apart_none (w.locks message_res).held n ap.message; ack = apart_hold (w.locks ack_res).held n (Some CR) ap.ack free }

pub resume_Held : (w : Rounds) (n : ℕ) → Held w → Queues w → Members w → has_processed (w.receiver n) ≡ true → (w.locks message_res).held n ≡ Some PR → ((m : ℕ) → has_published (w.sender m) ≡ false) → ((m : ℕ) → m ≢ n → agree (Some CR) ((w.locks ack_res).held m) ≡ true) → Held (after w (Resume n))
resume_Held w n he qu me re pr quiet free = grind (arith, nat_tests)

pub resume_Queues : (w : Rounds) (n : ℕ) → Held w → Queues w → Members w → has_processed (w.receiver n) ≡ true → (w.locks message_res).held n ≡ Some PR → ((m : ℕ) → has_published (w.sender m) ≡ false) → ((m : ℕ) → m ≢ n → agree (Some CR) ((w.locks ack_res).held m) ≡ true) → Queues (after w (Resume n))
resume_Queues w n he qu me re pr quiet free = grind (arith, nat_tests, asks_of-push, asks_of-without)

pub resume_Members : (w : Rounds) (n : ℕ) → Held w → Queues w → Members w → has_processed (w.receiver n) ≡ true → (w.locks message_res).held n ≡ Some PR → ((m : ℕ) → has_published (w.sender m) ≡ false) → ((m : ℕ) → m ≢ n → agree (Some CR) ((w.locks ack_res).held m) ≡ true) → Members (after w (Resume n))
resume_Members w n he qu me re pr quiet free = grind (arith, nat_tests)

pub resume_Told : (w : Rounds) (n : ℕ) (members : ℕ → Bool) (past : List Entry) (answer : Answer) → Held w → Queues w → Members w → Told w members past → has_processed (w.receiver n) ≡ true → (w.locks message_res).held n ≡ Some PR → ((m : ℕ) → has_published (w.sender m) ≡ false) → ((m : ℕ) → m ≢ n → agree (Some CR) ((w.locks ack_res).held m) ≡ true) → Told (after w (Resume n)) members (record { event = Resume n; answer = answer } ∷ past)
resume_Told w n members past answer he qu me to re pr quiet free = grind (arith, nat_tests)

pub drop_Apart : (w : Rounds) (n : ℕ) → Apart w → w.receiver n ≡ receivers.Taken → w.gone n ≡ true → Apart (after w (Drop n))
drop_Apart w n ap re gone = record { token = ap.token; message = apart_none (w.locks message_res).held n ap.message; ack = ap.ack }

pub drop_Held : (w : Rounds) (n : ℕ) → Held w → Queues w → Members w → w.receiver n ≡ receivers.Taken → w.gone n ≡ true → Held (after w (Drop n))
drop_Held w n he qu me re gone = grind (arith, nat_tests)

pub drop_Queues : (w : Rounds) (n : ℕ) → Held w → Queues w → Members w → w.receiver n ≡ receivers.Taken → w.gone n ≡ true → Queues (after w (Drop n))
drop_Queues w n he qu me re gone = grind (arith, nat_tests, asks_of-push, asks_of-without)

pub drop_Members : (w : Rounds) (n : ℕ) → Held w → Queues w → Members w → w.receiver n ≡ receivers.Taken → w.gone n ≡ true → Members (after w (Drop n))
drop_Members w n he qu me re gone = grind (arith, nat_tests)

pub drop_Told : (w : Rounds) (n : ℕ) (members : ℕ → Bool) (past : List Entry) (answer : Answer) → Held w → Queues w → Members w → Told w members past → w.receiver n ≡ receivers.Taken → w.gone n ≡ true → Told (after w (Drop n)) members (record { event = Drop n; answer = answer } ∷ past)
drop_Told w n members past answer he qu me to re gone = grind (arith, nat_tests)

pub token_served_Apart : (w : Rounds) (n : ℕ) (rest : List Ask) → Apart w → w.sender n ≡ senders.TokenAsked → (w.locks token_res).held n ≡ None → ((m : ℕ) → asks_of m rest ≡ token_request (w.sender m) (with_at (w.locks token_res).held n (Some EX) m)) → ((m : ℕ) → m ≢ n → agree (Some EX) ((w.locks token_res).held m) ≡ true) → Apart (token_served w n rest)
token_served_Apart w n rest ap se held left free = record { token = apart_hold (w.locks token_res).held n (Some EX) ap.token free; message = ap.message; ack = ap.ack }

pub token_served_Held : (w : Rounds) (n : ℕ) (rest : List Ask) → Held w → Queues w → Members w → w.sender n ≡ senders.TokenAsked → (w.locks token_res).held n ≡ None → ((m : ℕ) → asks_of m rest ≡ token_request (w.sender m) (with_at (w.locks token_res).held n (Some EX) m)) → ((m : ℕ) → m ≢ n → agree (Some EX) ((w.locks token_res).held m) ≡ true) → Held (token_served w n rest)
token_served_Held w n rest he qu me se held left free = grind (arith, nat_tests)

pub token_served_Queues : (w : Rounds) (n : ℕ) (rest : List Ask) → Held w → Queues w → Members w → w.sender n ≡ senders.TokenAsked → (w.locks token_res).held n ≡ None → ((m : ℕ) → asks_of m rest ≡ token_request (w.sender m) (with_at (w.locks token_res).held n (Some EX) m)) → ((m : ℕ) → m ≢ n → agree (Some EX) ((w.locks token_res).held m) ≡ true) → Queues (token_served w n rest)
token_served_Queues w n rest he qu me se held left free = grind (arith, nat_tests, asks_of-push, asks_of-without)

pub token_served_Members : (w : Rounds) (n : ℕ) (rest : List Ask) → Held w → Queues w → Members w → w.sender n ≡ senders.TokenAsked → (w.locks token_res).held n ≡ None → ((m : ℕ) → asks_of m rest ≡ token_request (w.sender m) (with_at (w.locks token_res).held n (Some EX) m)) → ((m : ℕ) → m ≢ n → agree (Some EX) ((w.locks token_res).held m) ≡ true) → Members (token_served w n rest)
token_served_Members w n rest he qu me se held left free = grind (arith, nat_tests)

pub token_served_Told : (w : Rounds) (n : ℕ) (rest : List Ask) (r : ℕ) (members : ℕ → Bool) (past : List Entry) (answer : Answer) → Held w → Queues w → Members w → Told w members past → w.sender n ≡ senders.TokenAsked → (w.locks token_res).held n ≡ None → ((m : ℕ) → asks_of m rest ≡ token_request (w.sender m) (with_at (w.locks token_res).held n (Some EX) m)) → ((m : ℕ) → m ≢ n → agree (Some EX) ((w.locks token_res).held m) ≡ true) → Told (token_served w n rest) members (record { event = Grant r; answer = answer } ∷ past)
token_served_Told w n rest r members past answer he qu me to se held left free = grind (arith, nat_tests)

pub message_converted_Apart : (w : Rounds) (n : ℕ) (rest : List Ask) → Apart w → w.receiver n ≡ receivers.Waiting → (w.locks message_res).held n ≡ Some CR → ((m : ℕ) → asks_of m rest ≡ message_conversion (w.receiver m) (with_at (w.locks message_res).held n (Some PR) m)) → ((m : ℕ) → m ≢ n → agree (Some PR) ((w.locks message_res).held m) ≡ true) → Apart (message_converted w n rest)
message_converted_Apart w n rest ap re held left free = record { token = ap.token; message = apart_hold (w.locks message_res).held n (Some PR) ap.message free; ack = ap.ack }

pub message_converted_Held : (w : Rounds) (n : ℕ) (rest : List Ask) → Held w → Queues w → Members w → w.receiver n ≡ receivers.Waiting → (w.locks message_res).held n ≡ Some CR → ((m : ℕ) → asks_of m rest ≡ message_conversion (w.receiver m) (with_at (w.locks message_res).held n (Some PR) m)) → ((m : ℕ) → m ≢ n → agree (Some PR) ((w.locks message_res).held m) ≡ true) → Held (message_converted w n rest)
message_converted_Held w n rest he qu me re held left free = grind (arith, nat_tests)

pub message_converted_Queues : (w : Rounds) (n : ℕ) (rest : List Ask) → Held w → Queues w → Members w → w.receiver n ≡ receivers.Waiting → (w.locks message_res).held n ≡ Some CR → ((m : ℕ) → asks_of m rest ≡ message_conversion (w.receiver m) (with_at (w.locks message_res).held n (Some PR) m)) → ((m : ℕ) → m ≢ n → agree (Some PR) ((w.locks message_res).held m) ≡ true) → Queues (message_converted w n rest)
message_converted_Queues w n rest he qu me re held left free = grind (arith, nat_tests, asks_of-push, asks_of-without)

pub message_converted_Members : (w : Rounds) (n : ℕ) (rest : List Ask) → Held w → Queues w → Members w → w.receiver n ≡ receivers.Waiting → (w.locks message_res).held n ≡ Some CR → ((m : ℕ) → asks_of m rest ≡ message_conversion (w.receiver m) (with_at (w.locks message_res).held n (Some PR) m)) → ((m : ℕ) → m ≢ n → agree (Some PR) ((w.locks message_res).held m) ≡ true) → Members (message_converted w n rest)
message_converted_Members w n rest he qu me re held left free = grind (arith, nat_tests)

pub message_converted_Told : (w : Rounds) (n : ℕ) (rest : List Ask) (r : ℕ) (members : ℕ → Bool) (past : List Entry) (answer : Answer) → Held w → Queues w → Members w → Told w members past → w.receiver n ≡ receivers.Waiting → (w.locks message_res).held n ≡ Some CR → ((m : ℕ) → asks_of m rest ≡ message_conversion (w.receiver m) (with_at (w.locks message_res).held n (Some PR) m)) → ((m : ℕ) → m ≢ n → agree (Some PR) ((w.locks message_res).held m) ≡ true) → Told (message_converted w n rest) members (record { event = Grant r; answer = answer } ∷ past)
message_converted_Told w n rest r members past answer he qu me to re held left free = grind (arith, nat_tests)

pub message_served_Apart : (w : Rounds) (n : ℕ) (rest : List Ask) → Apart w → w.sender n ≡ senders.MessageAsked → (w.locks message_res).held n ≡ None → ((m : ℕ) → asks_of m rest ≡ message_request (w.sender m) (with_at (w.locks message_res).held n (Some EX) m)) → ((m : ℕ) → m ≢ n → agree (Some EX) ((w.locks message_res).held m) ≡ true) → Apart (message_served w n rest)
message_served_Apart w n rest ap se held left free = record { token = ap.token; message = apart_hold (w.locks message_res).held n (Some EX) ap.message free; ack = ap.ack }

pub message_served_Held : (w : Rounds) (n : ℕ) (rest : List Ask) → Held w → Queues w → Members w → w.sender n ≡ senders.MessageAsked → (w.locks message_res).held n ≡ None → ((m : ℕ) → asks_of m rest ≡ message_request (w.sender m) (with_at (w.locks message_res).held n (Some EX) m)) → ((m : ℕ) → m ≢ n → agree (Some EX) ((w.locks message_res).held m) ≡ true) → Held (message_served w n rest)
message_served_Held w n rest he qu me se held left free = grind (arith, nat_tests)

pub message_served_Queues : (w : Rounds) (n : ℕ) (rest : List Ask) → Held w → Queues w → Members w → w.sender n ≡ senders.MessageAsked → (w.locks message_res).held n ≡ None → ((m : ℕ) → asks_of m rest ≡ message_request (w.sender m) (with_at (w.locks message_res).held n (Some EX) m)) → ((m : ℕ) → m ≢ n → agree (Some EX) ((w.locks message_res).held m) ≡ true) → Queues (message_served w n rest)
message_served_Queues w n rest he qu me se held left free = grind (arith, nat_tests, asks_of-push, asks_of-without)

pub message_served_Members : (w : Rounds) (n : ℕ) (rest : List Ask) → Held w → Queues w → Members w → w.sender n ≡ senders.MessageAsked → (w.locks message_res).held n ≡ None → ((m : ℕ) → asks_of m rest ≡ message_request (w.sender m) (with_at (w.locks message_res).held n (Some EX) m)) → ((m : ℕ) → m ≢ n → agree (Some EX) ((w.locks message_res).held m) ≡ true) → Members (message_served w n rest)
message_served_Members w n rest he qu me se held left free = grind (arith, nat_tests)

pub message_served_Told : (w : Rounds) (n : ℕ) (rest : List Ask) (r : ℕ) (members : ℕ → Bool) (past : List Entry) (answer : Answer) → Held w → Queues w → Members w → Told w members past → w.sender n ≡ senders.MessageAsked → (w.locks message_res).held n ≡ None → ((m : ℕ) → asks_of m rest ≡ message_request (w.sender m) (with_at (w.locks message_res).held n (Some EX) m)) → ((m : ℕ) → m ≢ n → agree (Some EX) ((w.locks message_res).held m) ≡ true) → Told (message_served w n rest) members (record { event = Grant r; answer = answer } ∷ past)
message_served_Told w n rest r members past answer he qu me to se held left free = grind (arith, nat_tests)

pub ack_converted_Apart : (w : Rounds) (n : ℕ) (rest : List Ask) → Apart w → w.sender n ≡ senders.Published → (w.locks ack_res).held n ≡ Some CR → ((m : ℕ) → asks_of m rest ≡ ack_conversion (w.sender m) (with_at (w.locks ack_res).held n (Some EX) m)) → ((m : ℕ) → m ≢ n → agree (Some EX) ((w.locks ack_res).held m) ≡ true) → Apart (ack_converted w n rest)
ack_converted_Apart w n rest ap se held left free = record { token = ap.token; message = ap.message; ack = apart_hold (w.locks ack_res).held n (Some EX) ap.ack free }

pub ack_converted_Held : (w : Rounds) (n : ℕ) (rest : List Ask) → Held w → Queues w → Members w → w.sender n ≡ senders.Published → (w.locks ack_res).held n ≡ Some CR → ((m : ℕ) → asks_of m rest ≡ ack_conversion (w.sender m) (with_at (w.locks ack_res).held n (Some EX) m)) → ((m : ℕ) → m ≢ n → agree (Some EX) ((w.locks ack_res).held m) ≡ true) → Held (ack_converted w n rest)
ack_converted_Held w n rest he qu me se held left free = grind (arith, nat_tests)

pub ack_converted_Queues : (w : Rounds) (n : ℕ) (rest : List Ask) → Held w → Queues w → Members w → w.sender n ≡ senders.Published → (w.locks ack_res).held n ≡ Some CR → ((m : ℕ) → asks_of m rest ≡ ack_conversion (w.sender m) (with_at (w.locks ack_res).held n (Some EX) m)) → ((m : ℕ) → m ≢ n → agree (Some EX) ((w.locks ack_res).held m) ≡ true) → Queues (ack_converted w n rest)
ack_converted_Queues w n rest he qu me se held left free = grind (arith, nat_tests, asks_of-push, asks_of-without)

pub ack_converted_Members : (w : Rounds) (n : ℕ) (rest : List Ask) → Held w → Queues w → Members w → w.sender n ≡ senders.Published → (w.locks ack_res).held n ≡ Some CR → ((m : ℕ) → asks_of m rest ≡ ack_conversion (w.sender m) (with_at (w.locks ack_res).held n (Some EX) m)) → ((m : ℕ) → m ≢ n → agree (Some EX) ((w.locks ack_res).held m) ≡ true) → Members (ack_converted w n rest)
ack_converted_Members w n rest he qu me se held left free = grind (arith, nat_tests)

pub ack_converted_Told : (w : Rounds) (n : ℕ) (rest : List Ask) (r : ℕ) (members : ℕ → Bool) (past : List Entry) (answer : Answer) → Held w → Queues w → Members w → Told w members past → w.sender n ≡ senders.Published → (w.locks ack_res).held n ≡ Some CR → ((m : ℕ) → asks_of m rest ≡ ack_conversion (w.sender m) (with_at (w.locks ack_res).held n (Some EX) m)) → ((m : ℕ) → m ≢ n → agree (Some EX) ((w.locks ack_res).held m) ≡ true) → Told (ack_converted w n rest) members (record { event = Grant r; answer = answer } ∷ past)
ack_converted_Told w n rest r members past answer he qu me to se held left free = grind (arith, nat_tests)

pub die_Apart : (w : Rounds) (n : ℕ) → Apart w → is_live (w.state n) ≡ true → (has_published (w.sender n) ≡ true → (m : ℕ) → m ≢ n → lacks_token (w.sender m) ≡ true) → ((m : ℕ) → has_published (w.sender m) ≡ true → is_writer (mode_of (w.locks message_res) n) ≡ false) → Apart (after w (Die n))
die_Apart w n ap live alone unwritten = record { token = apart_none (w.locks token_res).held n ap.token; message = apart_none (w.locks message_res).held n ap.message; ack = apart_none (w.locks ack_res).held n ap.ack }

pub die_Held : (w : Rounds) (n : ℕ) → Held w → Queues w → Members w → is_live (w.state n) ≡ true → (has_published (w.sender n) ≡ true → (m : ℕ) → m ≢ n → lacks_token (w.sender m) ≡ true) → ((m : ℕ) → has_published (w.sender m) ≡ true → is_writer (mode_of (w.locks message_res) n) ≡ false) → Held (after w (Die n))
die_Held w n he qu me live alone unwritten = grind (arith, nat_tests)

pub die_Queues : (w : Rounds) (n : ℕ) → Held w → Queues w → Members w → is_live (w.state n) ≡ true → (has_published (w.sender n) ≡ true → (m : ℕ) → m ≢ n → lacks_token (w.sender m) ≡ true) → ((m : ℕ) → has_published (w.sender m) ≡ true → is_writer (mode_of (w.locks message_res) n) ≡ false) → Queues (after w (Die n))
die_Queues w n he qu me live alone unwritten = grind (arith, nat_tests, asks_of-push, asks_of-without)

pub die_Members : (w : Rounds) (n : ℕ) → Held w → Queues w → Members w → is_live (w.state n) ≡ true → (has_published (w.sender n) ≡ true → (m : ℕ) → m ≢ n → lacks_token (w.sender m) ≡ true) → ((m : ℕ) → has_published (w.sender m) ≡ true → is_writer (mode_of (w.locks message_res) n) ≡ false) → Members (after w (Die n))
die_Members w n he qu me live alone unwritten = grind (arith, nat_tests)

pub die_Told : (w : Rounds) (n : ℕ) (members : ℕ → Bool) (past : List Entry) (answer : Answer) → Held w → Queues w → Members w → Told w members past → is_live (w.state n) ≡ true → (has_published (w.sender n) ≡ true → (m : ℕ) → m ≢ n → lacks_token (w.sender m) ≡ true) → ((m : ℕ) → has_published (w.sender m) ≡ true → is_writer (mode_of (w.locks message_res) n) ≡ false) → Told (after w (Die n)) members (record { event = Die n; answer = answer } ∷ past)
die_Told w n members past answer he qu me to live alone unwritten = grind (arith, nat_tests)
