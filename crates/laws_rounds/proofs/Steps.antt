-- What each event keeps of the invariant.
use Rattle.std.proofs.Common.{◌≡◌, ◌≢◌, ◌<◌, ℕ, inl, inr, Bool, true, false, not, List, [], ◌∷◌, Option, Some, None, refl, sym, ap, subst, arith}
use Rattle.std.specs.Prelude.{is_some}
use Rattle.dlm_modes.specs.Points.{with_at}
use Rattle.dlm_modes.specs.declared.block.Block.{Block}
use Rattle.dlm_modes.specs.declared.mode.Mode.{Mode}
use Rattle.dlm_modes.specs.declared.mode.Mode.TheVariants.{CR, PR, EX}
use Rattle.dlm_space.specs.declared.ask.Ask.{Ask}
use Rattle.dlm_space.specs.Queues.{asks_of, head}
use Rattle.dlm_space.specs.Locks.{mode_of, is_writer, disagrees, caller, head_refusal, granted_from}
use Rattle.dlm_space.specs.Orderly.{agree}
use Rattle.dlm_space.proofs.GuardLaws.{NoneAgainst, none_against, head_grantable}
use Rattle.mdc_types.specs.declared.roles.NodeState.{NodeState}
use Rattle.mdc_types.specs.declared.roles.NodeState.TheVariants as states
use Rattle.msg_rounds.specs.Holds.{token_request, message_conversion, message_request, ack_conversion}
use Rattle.msg_rounds.specs.Locks.{token_res, message_res, ack_res}
use Rattle.msg_rounds.specs.Phases.{has_processed, may_receive, has_message, has_published, may_quit}
use Rattle.msg_rounds.specs.declared.phases.SenderPhase.{SenderPhase}
use Rattle.msg_rounds.specs.declared.phases.SenderPhase.TheVariants as senders
use Rattle.msg_rounds.specs.declared.phases.ReceiverPhase.TheVariants as receivers
use Rattle.laws_rounds.specs.Machine.{Rounds, Event, Join, ComeIn, Leave, AskToken, TokenGranted, AskMessage, MessageGranted, Offer, Void, Publish, AckGranted, Finish, Quit, Take, Processed, PrGranted, Resume, Drop, Grant, Die, Answer, Entry, May, is_live, is_in, called_by, receiving, after}
use Rattle.laws_rounds.specs.Invariants.{Held, Queues, Inv}
use Rattle.laws_rounds.proofs.Changes.{lacks_token, take_from, quit_with, token_served, message_converted, message_served, ack_converted}
use Rattle.laws_rounds.proofs.Guards.{ask_token_guard, token_told_guard, ask_message_guard, message_told_guard, offer_guard, void_guard, publish_guard, ack_told_guard, finish_guard, quit_guard, take_guard, processed_guard, pr_told_guard, resume_guard, drop_guard}
use Rattle.laws_rounds.proofs.Others.{alone, alone_quiet, calling_none, message_held, ack_held, calm, all_done, published_cw, readable, unwritten, quiet, token_below, message_below, ack_below, head_asks, token_asker, message_asker, message_converter, ack_converter, left_of, called}
use Rattle.laws_rounds.proofs.Kept.{join_Apart, join_Held, join_Queues, join_Members, join_Told, come_in_Apart, come_in_Held, come_in_Queues, come_in_Members, come_in_Told, leave_Apart, leave_Held, leave_Queues, leave_Members, leave_Told, ask_token_Apart, ask_token_Held, ask_token_Queues, ask_token_Members, ask_token_Told, token_told_Apart, token_told_Held, token_told_Queues, token_told_Members, token_told_Told, ask_message_Apart, ask_message_Held, ask_message_Queues, ask_message_Members, ask_message_Told, message_told_Apart, message_told_Held, message_told_Queues, message_told_Members, message_told_Told, offer_Apart, offer_Held, offer_Queues, offer_Members, offer_Told, void_Apart, void_Held, void_Queues, void_Members, void_Told, publish_Apart, publish_Held, publish_Queues, publish_Members, publish_Told, ack_told_Apart, ack_told_Held, ack_told_Queues, ack_told_Members, ack_told_Told, finish_Apart, finish_Held, finish_Queues, finish_Members, finish_Told, quit_up_Apart, quit_up_Held, quit_up_Queues, quit_up_Members, quit_up_Told, quit_token_Apart, quit_token_Held, quit_token_Queues, quit_token_Members, quit_token_Told, quit_loaded_Apart, quit_loaded_Held, quit_loaded_Queues, quit_loaded_Members, quit_loaded_Told, quit_loaded_token_Apart, quit_loaded_token_Held, quit_loaded_token_Queues, quit_loaded_token_Members, quit_loaded_token_Told, quit_joining_Apart, quit_joining_Held, quit_joining_Queues, quit_joining_Members, quit_joining_Told, take_Apart, take_Held, take_Queues, take_Members, take_Told, processed_Apart, processed_Held, processed_Queues, processed_Members, processed_Told, pr_told_Apart, pr_told_Held, pr_told_Queues, pr_told_Members, pr_told_Told, resume_Apart, resume_Held, resume_Queues, resume_Members, resume_Told, drop_Apart, drop_Held, drop_Queues, drop_Members, drop_Told, token_served_Apart, token_served_Held, token_served_Queues, token_served_Members, token_served_Told, message_converted_Apart, message_converted_Held, message_converted_Queues, message_converted_Members, message_converted_Told, message_served_Apart, message_served_Held, message_served_Queues, message_served_Members, message_served_Told, ack_converted_Apart, ack_converted_Held, ack_converted_Queues, ack_converted_Members, ack_converted_Told, die_Apart, die_Held, die_Queues, die_Members, die_Told}

join_keeps : (w : Rounds) (n : ℕ) (members : ℕ → Bool) (past : List Entry) (answer : Answer) → Inv w members past → n < 16 → w.state n ≡ states.Out → Inv (after w (Join n)) members (record { event = Join n; answer = answer } ∷ past)
join_keeps w n members past answer i lt out = record {
  apart = join_Apart w n i.apart lt out;
  held = join_Held w n i.held i.queues i.members_are lt out;
  queues = join_Queues w n i.held i.queues i.members_are lt out;
  members_are = join_Members w n i.held i.queues i.members_are lt out;
  told = join_Told w n members past answer i.held i.queues i.members_are i.told lt out;
}

come_in_keeps : (w : Rounds) (n : ℕ) (members : ℕ → Bool) (past : List Entry) (answer : Answer) → Inv w members past → w.state n ≡ states.Joining → w.sender n ≡ senders.TokenHeld → ((m : ℕ) → m ≢ n → lacks_token (w.sender m) ≡ true) → ((m : ℕ) → m ≢ n → agree (Some CR) ((w.locks ack_res).held m) ≡ true) → Inv (after w (ComeIn n)) members (record { event = ComeIn n; answer = answer } ∷ past)
come_in_keeps w n members past answer i st se alone free = record {
  apart = come_in_Apart w n i.apart st se alone free;
  held = come_in_Held w n i.held i.queues i.members_are st se alone free;
  queues = come_in_Queues w n i.held i.queues i.members_are st se alone free;
  members_are = come_in_Members w n i.held i.queues i.members_are st se alone free;
  told = come_in_Told w n members past answer i.held i.queues i.members_are i.told st se alone free;
}

leave_keeps : (w : Rounds) (n : ℕ) (members : ℕ → Bool) (past : List Entry) (answer : Answer) → Inv w members past → w.state n ≡ states.Up → w.sender n ≡ senders.Idle → w.receiver n ≡ receivers.Idle → Inv (after w (Leave n)) members (record { event = Leave n; answer = answer } ∷ past)
leave_keeps w n members past answer i st se re = record {
  apart = leave_Apart w n i.apart st se re;
  held = leave_Held w n i.held i.queues i.members_are st se re;
  queues = leave_Queues w n i.held i.queues i.members_are st se re;
  members_are = leave_Members w n i.held i.queues i.members_are st se re;
  told = leave_Told w n members past answer i.held i.queues i.members_are i.told st se re;
}

ask_token_keeps : (w : Rounds) (n : ℕ) (members : ℕ → Bool) (past : List Entry) (answer : Answer) → Inv w members past → w.state n ≡ states.Up → w.sender n ≡ senders.Idle → w.receiver n ≡ receivers.Idle → Inv (after w (AskToken n)) members (record { event = AskToken n; answer = answer } ∷ past)
ask_token_keeps w n members past answer i st se re = record {
  apart = ask_token_Apart w n i.apart st se re;
  held = ask_token_Held w n i.held i.queues i.members_are st se re;
  queues = ask_token_Queues w n i.held i.queues i.members_are st se re;
  members_are = ask_token_Members w n i.held i.queues i.members_are st se re;
  told = ask_token_Told w n members past answer i.held i.queues i.members_are i.told st se re;
}

token_told_keeps : (w : Rounds) (n : ℕ) (members : ℕ → Bool) (past : List Entry) (answer : Answer) → Inv w members past → w.sender n ≡ senders.TokenAsked → (w.locks token_res).held n ≡ Some EX → Inv (after w (TokenGranted n)) members (record { event = TokenGranted n; answer = answer } ∷ past)
token_told_keeps w n members past answer i se ex = record {
  apart = token_told_Apart w n i.apart se ex;
  held = token_told_Held w n i.held i.queues i.members_are se ex;
  queues = token_told_Queues w n i.held i.queues i.members_are se ex;
  members_are = token_told_Members w n i.held i.queues i.members_are se ex;
  told = token_told_Told w n members past answer i.held i.queues i.members_are i.told se ex;
}

ask_message_keeps : (w : Rounds) (n : ℕ) (members : ℕ → Bool) (past : List Entry) (answer : Answer) → Inv w members past → is_in (w.state n) ≡ true → w.sender n ≡ senders.TokenHeld → w.receiver n ≡ receivers.Idle → Inv (after w (AskMessage n)) members (record { event = AskMessage n; answer = answer } ∷ past)
ask_message_keeps w n members past answer i st se re = record {
  apart = ask_message_Apart w n i.apart st se re;
  held = ask_message_Held w n i.held i.queues i.members_are st se re;
  queues = ask_message_Queues w n i.held i.queues i.members_are st se re;
  members_are = ask_message_Members w n i.held i.queues i.members_are st se re;
  told = ask_message_Told w n members past answer i.held i.queues i.members_are i.told st se re;
}

message_told_keeps : (w : Rounds) (n : ℕ) (members : ℕ → Bool) (past : List Entry) (answer : Answer) → Inv w members past → w.sender n ≡ senders.MessageAsked → (w.locks message_res).held n ≡ Some EX → Inv (after w (MessageGranted n)) members (record { event = MessageGranted n; answer = answer } ∷ past)
message_told_keeps w n members past answer i se ex = record {
  apart = message_told_Apart w n i.apart se ex;
  held = message_told_Held w n i.held i.queues i.members_are se ex;
  queues = message_told_Queues w n i.held i.queues i.members_are se ex;
  members_are = message_told_Members w n i.held i.queues i.members_are se ex;
  told = message_told_Told w n members past answer i.held i.queues i.members_are i.told se ex;
}

offer_keeps : (w : Rounds) (n : ℕ) (members : ℕ → Bool) (past : List Entry) (answer : Answer) → Inv w members past → w.sender n ≡ senders.MessageHeld → Inv (after w (Offer n)) members (record { event = Offer n; answer = answer } ∷ past)
offer_keeps w n members past answer i se = record {
  apart = offer_Apart w n i.apart se;
  held = offer_Held w n i.held i.queues i.members_are se;
  queues = offer_Queues w n i.held i.queues i.members_are se;
  members_are = offer_Members w n i.held i.queues i.members_are se;
  told = offer_Told w n members past answer i.held i.queues i.members_are i.told se;
}

void_keeps : (w : Rounds) (n : ℕ) (members : ℕ → Bool) (past : List Entry) (answer : Answer) → Inv w members past → w.sender n ≡ senders.Offered → Inv (after w (Void n)) members (record { event = Void n; answer = answer } ∷ past)
void_keeps w n members past answer i se = record {
  apart = void_Apart w n i.apart se;
  held = void_Held w n i.held i.queues i.members_are se;
  queues = void_Queues w n i.held i.queues i.members_are se;
  members_are = void_Members w n i.held i.queues i.members_are se;
  told = void_Told w n members past answer i.held i.queues i.members_are i.told se;
}

publish_keeps : (w : Rounds) (n : ℕ) (block : Block) (members : ℕ → Bool) (past : List Entry) (answer : Answer) → Inv w members past → w.sender n ≡ senders.Offered → (w.locks message_res).held n ≡ Some EX → ((m : ℕ) → m ≢ n → lacks_token (w.sender m) ≡ true) → ((m : ℕ) → w.receiver m ≡ receivers.Idle) → Inv (after w (Publish n block)) members (record { event = Publish n block; answer = answer } ∷ past)
publish_keeps w n block members past answer i se ex alone calm = record {
  apart = publish_Apart w n block i.apart se ex alone calm;
  held = publish_Held w n block i.held i.queues i.members_are se ex alone calm;
  queues = publish_Queues w n block i.held i.queues i.members_are se ex alone calm;
  members_are = publish_Members w n block i.held i.queues i.members_are se ex alone calm;
  told = publish_Told w n block members past answer i.held i.queues i.members_are i.told se ex alone calm;
}

ack_told_keeps : (w : Rounds) (n : ℕ) (members : ℕ → Bool) (past : List Entry) (answer : Answer) → Inv w members past → w.sender n ≡ senders.Published → (w.locks ack_res).held n ≡ Some EX → Inv (after w (AckGranted n)) members (record { event = AckGranted n; answer = answer } ∷ past)
ack_told_keeps w n members past answer i se ex = record {
  apart = ack_told_Apart w n i.apart se ex;
  held = ack_told_Held w n i.held i.queues i.members_are se ex;
  queues = ack_told_Queues w n i.held i.queues i.members_are se ex;
  members_are = ack_told_Members w n i.held i.queues i.members_are se ex;
  told = ack_told_Told w n members past answer i.held i.queues i.members_are i.told se ex;
}

finish_keeps : (w : Rounds) (n : ℕ) (members : ℕ → Bool) (past : List Entry) (answer : Answer) → Inv w members past → w.sender n ≡ senders.Granted → (w.locks ack_res).held n ≡ Some EX → ((m : ℕ) → m ≢ n → lacks_token (w.sender m) ≡ true) → ((m : ℕ) → m ≢ n → is_in (w.state m) ≡ true → has_processed (w.receiver m) ≡ true) → Inv (after w (Finish n)) members (record { event = Finish n; answer = answer } ∷ past)
finish_keeps w n members past answer i se ex alone done = record {
  apart = finish_Apart w n i.apart se ex alone done;
  held = finish_Held w n i.held i.queues i.members_are se ex alone done;
  queues = finish_Queues w n i.held i.queues i.members_are se ex alone done;
  members_are = finish_Members w n i.held i.queues i.members_are se ex alone done;
  told = finish_Told w n members past answer i.held i.queues i.members_are i.told se ex alone done;
}

quit_up_keeps : (w : Rounds) (n : ℕ) (members : ℕ → Bool) (past : List Entry) (answer : Answer) → Inv w members past → w.state n ≡ states.Up → has_message (w.sender n) ≡ true → Inv (quit_with w n states.Up true) members (record { event = Quit n; answer = answer } ∷ past)
quit_up_keeps w n members past answer i st se = record {
  apart = quit_up_Apart w n i.apart st se;
  held = quit_up_Held w n i.held i.queues i.members_are st se;
  queues = quit_up_Queues w n i.held i.queues i.members_are st se;
  members_are = quit_up_Members w n i.held i.queues i.members_are st se;
  told = quit_up_Told w n members past answer i.held i.queues i.members_are i.told st se;
}

quit_token_keeps : (w : Rounds) (n : ℕ) (members : ℕ → Bool) (past : List Entry) (answer : Answer) → Inv w members past → w.state n ≡ states.Up → w.sender n ≡ senders.TokenHeld → Inv (quit_with w n states.Up false) members (record { event = Quit n; answer = answer } ∷ past)
quit_token_keeps w n members past answer i st se = record {
  apart = quit_token_Apart w n i.apart st se;
  held = quit_token_Held w n i.held i.queues i.members_are st se;
  queues = quit_token_Queues w n i.held i.queues i.members_are st se;
  members_are = quit_token_Members w n i.held i.queues i.members_are st se;
  told = quit_token_Told w n members past answer i.held i.queues i.members_are i.told st se;
}

quit_loaded_keeps : (w : Rounds) (n : ℕ) (members : ℕ → Bool) (past : List Entry) (answer : Answer) → Inv w members past → w.state n ≡ states.Loaded → has_message (w.sender n) ≡ true → Inv (quit_with w n states.Loaded true) members (record { event = Quit n; answer = answer } ∷ past)
quit_loaded_keeps w n members past answer i st se = record {
  apart = quit_loaded_Apart w n i.apart st se;
  held = quit_loaded_Held w n i.held i.queues i.members_are st se;
  queues = quit_loaded_Queues w n i.held i.queues i.members_are st se;
  members_are = quit_loaded_Members w n i.held i.queues i.members_are st se;
  told = quit_loaded_Told w n members past answer i.held i.queues i.members_are i.told st se;
}

quit_loaded_token_keeps : (w : Rounds) (n : ℕ) (members : ℕ → Bool) (past : List Entry) (answer : Answer) → Inv w members past → w.state n ≡ states.Loaded → w.sender n ≡ senders.TokenHeld → Inv (quit_with w n states.Loaded false) members (record { event = Quit n; answer = answer } ∷ past)
quit_loaded_token_keeps w n members past answer i st se = record {
  apart = quit_loaded_token_Apart w n i.apart st se;
  held = quit_loaded_token_Held w n i.held i.queues i.members_are st se;
  queues = quit_loaded_token_Queues w n i.held i.queues i.members_are st se;
  members_are = quit_loaded_token_Members w n i.held i.queues i.members_are st se;
  told = quit_loaded_token_Told w n members past answer i.held i.queues i.members_are i.told st se;
}

quit_joining_keeps : (w : Rounds) (n : ℕ) (members : ℕ → Bool) (past : List Entry) (answer : Answer) → Inv w members past → w.state n ≡ states.Joining → w.sender n ≡ senders.TokenHeld → Inv (quit_with w n states.Joining false) members (record { event = Quit n; answer = answer } ∷ past)
quit_joining_keeps w n members past answer i st se = record {
  apart = quit_joining_Apart w n i.apart st se;
  held = quit_joining_Held w n i.held i.queues i.members_are st se;
  queues = quit_joining_Queues w n i.held i.queues i.members_are st se;
  members_are = quit_joining_Members w n i.held i.queues i.members_are st se;
  told = quit_joining_Told w n members past answer i.held i.queues i.members_are i.told st se;
}

take_keeps : (w : Rounds) (n p : ℕ) (members : ℕ → Bool) (past : List Entry) (answer : Answer) → Inv w members past → w.state n ≡ states.Up → w.receiver n ≡ receivers.Idle → w.sender p ≡ senders.Published → p ≢ n → may_receive (w.sender n) ≡ true → ((m : ℕ) → m ≢ p → lacks_token (w.sender m) ≡ true) → ((m : ℕ) → m ≢ n → agree (Some CR) ((w.locks message_res).held m) ≡ true) → Inv (take_from w n p) members (record { event = Take n; answer = answer } ∷ past)
take_keeps w n p members past answer i st re se ne own alone free = record {
  apart = take_Apart w n p i.apart st re se ne own alone free;
  held = take_Held w n p i.held i.queues i.members_are st re se ne own alone free;
  queues = take_Queues w n p i.held i.queues i.members_are st re se ne own alone free;
  members_are = take_Members w n p i.held i.queues i.members_are st re se ne own alone free;
  told = take_Told w n p members past answer i.held i.queues i.members_are i.told st re se ne own alone free;
}

processed_keeps : (w : Rounds) (n : ℕ) (members : ℕ → Bool) (past : List Entry) (answer : Answer) → Inv w members past → w.receiver n ≡ receivers.Taken → w.gone n ≡ false → Inv (after w (Processed n)) members (record { event = Processed n; answer = answer } ∷ past)
processed_keeps w n members past answer i re gone = record {
  apart = processed_Apart w n i.apart re gone;
  held = processed_Held w n i.held i.queues i.members_are re gone;
  queues = processed_Queues w n i.held i.queues i.members_are re gone;
  members_are = processed_Members w n i.held i.queues i.members_are re gone;
  told = processed_Told w n members past answer i.held i.queues i.members_are i.told re gone;
}

pr_told_keeps : (w : Rounds) (n : ℕ) (members : ℕ → Bool) (past : List Entry) (answer : Answer) → Inv w members past → w.receiver n ≡ receivers.Waiting → (w.locks message_res).held n ≡ Some PR → Inv (after w (PrGranted n)) members (record { event = PrGranted n; answer = answer } ∷ past)
pr_told_keeps w n members past answer i re pr = record {
  apart = pr_told_Apart w n i.apart re pr;
  held = pr_told_Held w n i.held i.queues i.members_are re pr;
  queues = pr_told_Queues w n i.held i.queues i.members_are re pr;
  members_are = pr_told_Members w n i.held i.queues i.members_are re pr;
  told = pr_told_Told w n members past answer i.held i.queues i.members_are i.told re pr;
}

resume_keeps : (w : Rounds) (n : ℕ) (members : ℕ → Bool) (past : List Entry) (answer : Answer) → Inv w members past → has_processed (w.receiver n) ≡ true → (w.locks message_res).held n ≡ Some PR → ((m : ℕ) → has_published (w.sender m) ≡ false) → ((m : ℕ) → m ≢ n → agree (Some CR) ((w.locks ack_res).held m) ≡ true) → Inv (after w (Resume n)) members (record { event = Resume n; answer = answer } ∷ past)
resume_keeps w n members past answer i re pr quiet free = record {
  apart = resume_Apart w n i.apart re pr quiet free;
  held = resume_Held w n i.held i.queues i.members_are re pr quiet free;
  queues = resume_Queues w n i.held i.queues i.members_are re pr quiet free;
  members_are = resume_Members w n i.held i.queues i.members_are re pr quiet free;
  told = resume_Told w n members past answer i.held i.queues i.members_are i.told re pr quiet free;
}

drop_keeps : (w : Rounds) (n : ℕ) (members : ℕ → Bool) (past : List Entry) (answer : Answer) → Inv w members past → w.receiver n ≡ receivers.Taken → w.gone n ≡ true → Inv (after w (Drop n)) members (record { event = Drop n; answer = answer } ∷ past)
drop_keeps w n members past answer i re gone = record {
  apart = drop_Apart w n i.apart re gone;
  held = drop_Held w n i.held i.queues i.members_are re gone;
  queues = drop_Queues w n i.held i.queues i.members_are re gone;
  members_are = drop_Members w n i.held i.queues i.members_are re gone;
  told = drop_Told w n members past answer i.held i.queues i.members_are i.told re gone;
}

token_served_keeps : (w : Rounds) (n : ℕ) (rest : List Ask) (r : ℕ) (members : ℕ → Bool) (past : List Entry) (answer : Answer) → Inv w members past → w.sender n ≡ senders.TokenAsked → (w.locks token_res).held n ≡ None → ((m : ℕ) → asks_of m rest ≡ token_request (w.sender m) (with_at (w.locks token_res).held n (Some EX) m)) → ((m : ℕ) → m ≢ n → agree (Some EX) ((w.locks token_res).held m) ≡ true) → Inv (token_served w n rest) members (record { event = Grant r; answer = answer } ∷ past)
token_served_keeps w n rest r members past answer i se held left free = record {
  apart = token_served_Apart w n rest i.apart se held left free;
  held = token_served_Held w n rest i.held i.queues i.members_are se held left free;
  queues = token_served_Queues w n rest i.held i.queues i.members_are se held left free;
  members_are = token_served_Members w n rest i.held i.queues i.members_are se held left free;
  told = token_served_Told w n rest r members past answer i.held i.queues i.members_are i.told se held left free;
}

message_converted_keeps : (w : Rounds) (n : ℕ) (rest : List Ask) (r : ℕ) (members : ℕ → Bool) (past : List Entry) (answer : Answer) → Inv w members past → w.receiver n ≡ receivers.Waiting → (w.locks message_res).held n ≡ Some CR → ((m : ℕ) → asks_of m rest ≡ message_conversion (w.receiver m) (with_at (w.locks message_res).held n (Some PR) m)) → ((m : ℕ) → m ≢ n → agree (Some PR) ((w.locks message_res).held m) ≡ true) → Inv (message_converted w n rest) members (record { event = Grant r; answer = answer } ∷ past)
message_converted_keeps w n rest r members past answer i re held left free = record {
  apart = message_converted_Apart w n rest i.apart re held left free;
  held = message_converted_Held w n rest i.held i.queues i.members_are re held left free;
  queues = message_converted_Queues w n rest i.held i.queues i.members_are re held left free;
  members_are = message_converted_Members w n rest i.held i.queues i.members_are re held left free;
  told = message_converted_Told w n rest r members past answer i.held i.queues i.members_are i.told re held left free;
}

message_served_keeps : (w : Rounds) (n : ℕ) (rest : List Ask) (r : ℕ) (members : ℕ → Bool) (past : List Entry) (answer : Answer) → Inv w members past → w.sender n ≡ senders.MessageAsked → (w.locks message_res).held n ≡ None → ((m : ℕ) → asks_of m rest ≡ message_request (w.sender m) (with_at (w.locks message_res).held n (Some EX) m)) → ((m : ℕ) → m ≢ n → agree (Some EX) ((w.locks message_res).held m) ≡ true) → Inv (message_served w n rest) members (record { event = Grant r; answer = answer } ∷ past)
message_served_keeps w n rest r members past answer i se held left free = record {
  apart = message_served_Apart w n rest i.apart se held left free;
  held = message_served_Held w n rest i.held i.queues i.members_are se held left free;
  queues = message_served_Queues w n rest i.held i.queues i.members_are se held left free;
  members_are = message_served_Members w n rest i.held i.queues i.members_are se held left free;
  told = message_served_Told w n rest r members past answer i.held i.queues i.members_are i.told se held left free;
}

ack_converted_keeps : (w : Rounds) (n : ℕ) (rest : List Ask) (r : ℕ) (members : ℕ → Bool) (past : List Entry) (answer : Answer) → Inv w members past → w.sender n ≡ senders.Published → (w.locks ack_res).held n ≡ Some CR → ((m : ℕ) → asks_of m rest ≡ ack_conversion (w.sender m) (with_at (w.locks ack_res).held n (Some EX) m)) → ((m : ℕ) → m ≢ n → agree (Some EX) ((w.locks ack_res).held m) ≡ true) → Inv (ack_converted w n rest) members (record { event = Grant r; answer = answer } ∷ past)
ack_converted_keeps w n rest r members past answer i se held left free = record {
  apart = ack_converted_Apart w n rest i.apart se held left free;
  held = ack_converted_Held w n rest i.held i.queues i.members_are se held left free;
  queues = ack_converted_Queues w n rest i.held i.queues i.members_are se held left free;
  members_are = ack_converted_Members w n rest i.held i.queues i.members_are se held left free;
  told = ack_converted_Told w n rest r members past answer i.held i.queues i.members_are i.told se held left free;
}

die_keeps : (w : Rounds) (n : ℕ) (members : ℕ → Bool) (past : List Entry) (answer : Answer) → Inv w members past → is_live (w.state n) ≡ true → (has_published (w.sender n) ≡ true → (m : ℕ) → m ≢ n → lacks_token (w.sender m) ≡ true) → ((m : ℕ) → has_published (w.sender m) ≡ true → is_writer (mode_of (w.locks message_res) n) ≡ false) → Inv (after w (Die n)) members (record { event = Die n; answer = answer } ∷ past)
die_keeps w n members past answer i live alone unwritten = record {
  apart = die_Apart w n i.apart live alone unwritten;
  held = die_Held w n i.held i.queues i.members_are live alone unwritten;
  queues = die_Queues w n i.held i.queues i.members_are live alone unwritten;
  members_are = die_Members w n i.held i.queues i.members_are live alone unwritten;
  told = die_Told w n members past answer i.held i.queues i.members_are i.told live alone unwritten;
}

-- Grants.

agreeing : (held : ℕ → Option Mode) (n : ℕ) (v : Mode) → ((m : ℕ) → m ≢ n → disagrees v (held m) ≡ false) → (m : ℕ) → m ≢ n → agree (Some v) (held m) ≡ true
agreeing held n v h m ne = ap not (h m ne)

token_head_keeps : (w : Rounds) (a : Ask) (rest : List Ask) (r : ℕ) (members : ℕ → Bool) (past : List Entry) (answer : Answer) → Inv w members past → (w.locks token_res).requests ≡ a ∷ rest → NoneAgainst (w.locks token_res) a.node a.mode → Inv (record w { locks = with_at w.locks token_res (record (w.locks token_res) { held = with_at (w.locks token_res).held a.node (Some a.mode); requests = rest }) }) members (record { event = Grant r; answer = answer } ∷ past)
token_head_keeps w a rest r members past answer i q g =
    let held : ℕ → Option Mode = (w.locks token_res).held in
    let asks : (m : ℕ) → asks_of m (a ∷ rest) ≡ token_request (w.sender m) (held m) = λ m. rw q at (i.queues.token_requests m) in
    let found = token_asker (w.sender a.node) (held a.node) a.mode (asks_of a.node rest) (head_asks a rest (λ m. token_request (w.sender m) (held m)) asks) in
    rw found.2 (token_served_keeps w a.node rest r members past answer i found.0 found.1
    (left_of token_request w.sender held a rest (Some EX) asks (rw (found.0, found.3) refl))
    (agreeing held a.node EX (subst (λ v. NoneAgainst (w.locks token_res) a.node v) found.2 g)))

message_first_keeps : (w : Rounds) (a : Ask) (rest : List Ask) (r : ℕ) (members : ℕ → Bool) (past : List Entry) (answer : Answer) → Inv w members past → (w.locks message_res).conversions ≡ a ∷ rest → NoneAgainst (w.locks message_res) a.node a.mode → Inv (record w { locks = with_at w.locks message_res (record (w.locks message_res) { held = with_at (w.locks message_res).held a.node (Some a.mode); conversions = rest }) }) members (record { event = Grant r; answer = answer } ∷ past)
message_first_keeps w a rest r members past answer i q g =
    let held : ℕ → Option Mode = (w.locks message_res).held in
    let asks : (m : ℕ) → asks_of m (a ∷ rest) ≡ message_conversion (w.receiver m) (held m) = λ m. rw q at (i.queues.message_conversions m) in
    let found = message_converter (w.receiver a.node) (held a.node) a.mode (asks_of a.node rest) (head_asks a rest (λ m. message_conversion (w.receiver m) (held m)) asks) in
    rw found.2 (message_converted_keeps w a.node rest r members past answer i found.0 found.1
    (left_of message_conversion w.receiver held a rest (Some PR) asks (rw (found.0, found.3) refl))
    (agreeing held a.node PR (subst (λ v. NoneAgainst (w.locks message_res) a.node v) found.2 g)))

message_next_keeps : (w : Rounds) (a : Ask) (rest : List Ask) (r : ℕ) (members : ℕ → Bool) (past : List Entry) (answer : Answer) → Inv w members past → (w.locks message_res).requests ≡ a ∷ rest → NoneAgainst (w.locks message_res) a.node a.mode → Inv (record w { locks = with_at w.locks message_res (record (w.locks message_res) { held = with_at (w.locks message_res).held a.node (Some a.mode); requests = rest }) }) members (record { event = Grant r; answer = answer } ∷ past)
message_next_keeps w a rest r members past answer i q g =
    let held : ℕ → Option Mode = (w.locks message_res).held in
    let asks : (m : ℕ) → asks_of m (a ∷ rest) ≡ message_request (w.sender m) (held m) = λ m. rw q at (i.queues.message_requests m) in
    let found = message_asker (w.sender a.node) (held a.node) a.mode (asks_of a.node rest) (head_asks a rest (λ m. message_request (w.sender m) (held m)) asks) in
    rw found.2 (message_served_keeps w a.node rest r members past answer i found.0 found.1
    (left_of message_request w.sender held a rest (Some EX) asks (rw (found.0, found.3) refl))
    (agreeing held a.node EX (subst (λ v. NoneAgainst (w.locks message_res) a.node v) found.2 g)))

ack_head_keeps : (w : Rounds) (a : Ask) (rest : List Ask) (r : ℕ) (members : ℕ → Bool) (past : List Entry) (answer : Answer) → Inv w members past → (w.locks ack_res).conversions ≡ a ∷ rest → NoneAgainst (w.locks ack_res) a.node a.mode → Inv (record w { locks = with_at w.locks ack_res (record (w.locks ack_res) { held = with_at (w.locks ack_res).held a.node (Some a.mode); conversions = rest }) }) members (record { event = Grant r; answer = answer } ∷ past)
ack_head_keeps w a rest r members past answer i q g =
    let held : ℕ → Option Mode = (w.locks ack_res).held in
    let asks : (m : ℕ) → asks_of m (a ∷ rest) ≡ ack_conversion (w.sender m) (held m) = λ m. rw q at (i.queues.ack_conversions m) in
    let found = ack_converter (w.sender a.node) (held a.node) a.mode (asks_of a.node rest) (head_asks a rest (λ m. ack_conversion (w.sender m) (held m)) asks) in
    rw found.2 (ack_converted_keeps w a.node rest r members past answer i found.0 found.1
    (left_of ack_conversion w.sender held a rest (Some EX) asks (rw (found.0, found.3) refl))
    (agreeing held a.node EX (subst (λ v. NoneAgainst (w.locks ack_res) a.node v) found.2 g)))

token_grant_keeps : (w : Rounds) (conversions requests : List Ask) (r : ℕ) (members : ℕ → Bool) (past : List Entry) (answer : Answer) → Inv w members past → (w.locks token_res).conversions ≡ conversions → (w.locks token_res).requests ≡ requests → head_refusal (w.locks token_res) (head conversions requests) ≡ None → Inv (record w { locks = with_at w.locks token_res (granted_from (w.locks token_res) conversions requests) }) members (record { event = Grant r; answer = answer } ∷ past)
token_grant_keeps w (a ∷ rest) requests r members past answer i c q e = let none = i.queues.token_conversions in cc
token_grant_keeps w [] (a ∷ rest) r members past answer i c q e = token_head_keeps w a rest r members past answer i q (none_against (w.locks token_res) a.node a.mode (token_below w i.held i.members_are) (head_grantable (w.locks token_res) a e))
token_grant_keeps w [] [] r members past answer i c q e = cc

message_grant_keeps : (w : Rounds) (conversions requests : List Ask) (r : ℕ) (members : ℕ → Bool) (past : List Entry) (answer : Answer) → Inv w members past → (w.locks message_res).conversions ≡ conversions → (w.locks message_res).requests ≡ requests → head_refusal (w.locks message_res) (head conversions requests) ≡ None → Inv (record w { locks = with_at w.locks message_res (granted_from (w.locks message_res) conversions requests) }) members (record { event = Grant r; answer = answer } ∷ past)
message_grant_keeps w (a ∷ rest) requests r members past answer i c q e = message_first_keeps w a rest r members past answer i c (none_against (w.locks message_res) a.node a.mode (message_below w i.held i.members_are) (head_grantable (w.locks message_res) a e))
message_grant_keeps w [] (a ∷ rest) r members past answer i c q e = message_next_keeps w a rest r members past answer i q (none_against (w.locks message_res) a.node a.mode (message_below w i.held i.members_are) (head_grantable (w.locks message_res) a e))
message_grant_keeps w [] [] r members past answer i c q e = cc

ack_grant_keeps : (w : Rounds) (conversions requests : List Ask) (r : ℕ) (members : ℕ → Bool) (past : List Entry) (answer : Answer) → Inv w members past → (w.locks ack_res).conversions ≡ conversions → (w.locks ack_res).requests ≡ requests → head_refusal (w.locks ack_res) (head conversions requests) ≡ None → Inv (record w { locks = with_at w.locks ack_res (granted_from (w.locks ack_res) conversions requests) }) members (record { event = Grant r; answer = answer } ∷ past)
ack_grant_keeps w (a ∷ rest) requests r members past answer i c q e = ack_head_keeps w a rest r members past answer i c (none_against (w.locks ack_res) a.node a.mode (ack_below w i.held i.members_are) (head_grantable (w.locks ack_res) a e))
ack_grant_keeps w [] (a ∷ rest) r members past answer i c q e = let none = i.queues.ack_requests in cc
ack_grant_keeps w [] [] r members past answer i c q e = cc

-- `take`: the head of `ack` is the published node.

ack_caller : (w : Rounds) (n : ℕ) (conversions : List Ask) → Held w → Queues w → (w.locks ack_res).conversions ≡ conversions → is_some (caller (w.locks ack_res) n) ≡ true → (w.sender (called_by w n) ≡ senders.Published) × (called_by w n ≢ n)
ack_caller w n [] he qu c e = grind (arith, qu.ack_requests)
ack_caller w n (a ∷ rest) he qu c e =
    let held : ℕ → Option Mode = (w.locks ack_res).held in
    let asks : (m : ℕ) → asks_of m (a ∷ rest) ≡ ack_conversion (w.sender m) (held m) = λ m. rw c at (qu.ack_conversions m) in
    let found = ack_converter (w.sender a.node) (held a.node) a.mode (asks_of a.node rest) (head_asks a rest (λ m. ack_conversion (w.sender m) (held m)) asks) in
    let by = called (w.locks ack_res) n a rest c qu.ack_requests e in
    (rw by.0 found.0, rw by.0 by.1)

pub caller_is : (w : Rounds) (n : ℕ) → Held w → Queues w → is_some (caller (w.locks ack_res) n) ≡ true → (w.sender (called_by w n) ≡ senders.Published) × (called_by w n ≢ n)
caller_is w n he qu e = ack_caller w n (w.locks ack_res).conversions he qu refl e

-- `quit`, by the state and by what is held.

may_quit_is : (s : SenderPhase) (has : Bool) → may_quit s ≡ true → has_message s ≡ has → has ≡ false → s ≡ senders.TokenHeld
may_quit_is s has q h f = grind arith

quit_with_keeps : (w : Rounds) (n : ℕ) (state : NodeState) (has : Bool) (members : ℕ → Bool) (past : List Entry) (answer : Answer) → Inv w members past → w.state n ≡ state → has_message (w.sender n) ≡ has → may_quit (w.sender n) ≡ true → Inv (quit_with w n state has) members (record { event = Quit n; answer = answer } ∷ past)
quit_with_keeps w n states.Up true members past answer i u h q = quit_up_keeps w n members past answer i u h
quit_with_keeps w n states.Up false members past answer i u h q = quit_token_keeps w n members past answer i u (may_quit_is (w.sender n) false q h refl)
quit_with_keeps w n states.Loaded true members past answer i u h q = quit_loaded_keeps w n members past answer i u h
quit_with_keeps w n states.Loaded false members past answer i u h q = quit_loaded_token_keeps w n members past answer i u (may_quit_is (w.sender n) false q h refl)
quit_with_keeps w n states.Joining true members past answer i u h q = let fit = i.members_are.fitting n in grind arith
quit_with_keeps w n states.Joining false members past answer i u h q = quit_joining_keeps w n members past answer i u (may_quit_is (w.sender n) false q h refl)
quit_with_keeps w n states.Out has members past answer i u h q = let fit = i.members_are.fitting n in grind arith

pub quit_is : (w : Rounds) (n : ℕ) (state : NodeState) → w.state n ≡ state → after w (Quit n) ≡ quit_with w n state (has_message (w.sender n))
quit_is w n states.Up e = rw e refl
quit_is w n states.Loaded e = rw e refl
quit_is w n states.Joining e = rw e refl
quit_is w n states.Out e = rw e refl

-- what the phases tell
pub published_phase : (s : SenderPhase) → has_published s ≡ true → lacks_token s ≡ false
published_phase s e = grind arith

pub lacks_own : (s : SenderPhase) → lacks_token s ≡ true → may_receive s ≡ true
lacks_own s e = grind arith

-- Any event.

pub step_keeps : (w : Rounds) (e : Event) (members : ℕ → Bool) (past : List Entry) (answer : Answer) → Inv w members past → May w e → Inv (after w e) members (record { event = e; answer = answer } ∷ past)
step_keeps w (Join n) members past answer i m = join_keeps w n members past answer i m.0 m.1
step_keeps w (ComeIn n) members past answer i m =
    let others = alone w n i.apart i.held (rw m.1 refl) in
    come_in_keeps w n members past answer i m.0 m.1 others (λ k ne. calling_none w n i.held (alone_quiet w n (rw m.1 refl) others) k)
step_keeps w (Leave n) members past answer i m = leave_keeps w n members past answer i m.0 m.1 m.2
step_keeps w (AskToken n) members past answer i m = let g = ask_token_guard _ _ m.1 in ask_token_keeps w n members past answer i m.0 g.0 g.1
step_keeps w (TokenGranted n) members past answer i m = let g = token_told_guard w.locks n _ m in token_told_keeps w n members past answer i g.0 g.1
step_keeps w (AskMessage n) members past answer i m = let g = ask_message_guard _ _ m.1 in ask_message_keeps w n members past answer i m.0 g.0 g.1
step_keeps w (MessageGranted n) members past answer i m = let g = message_told_guard w.locks n _ m in message_told_keeps w n members past answer i g.0 g.1
step_keeps w (Offer n) members past answer i m = offer_keeps w n members past answer i (offer_guard _ m)
step_keeps w (Void n) members past answer i m = void_keeps w n members past answer i (void_guard _ m)
step_keeps w (Publish n block) members past answer i m =
    let g = publish_guard _ m in
    publish_keeps w n block members past answer i g (message_held w n i.held (rw g refl)) (alone w n i.apart i.held (rw g refl)) (calm w n i.apart i.held i.members_are (rw g refl))
step_keeps w (AckGranted n) members past answer i m = let g = ack_told_guard w.locks n _ m in ack_told_keeps w n members past answer i g.0 g.1
step_keeps w (Finish n) members past answer i m =
    let g = finish_guard _ m in
    let ex = ack_held w n i.held i.members_are g in
    finish_keeps w n members past answer i g ex (alone w n i.apart i.held (rw g refl)) (all_done w n i.apart i.held ex)
step_keeps w (Quit n) members past answer i m = rw (quit_is w n (w.state n) refl) (quit_with_keeps w n (w.state n) (has_message (w.sender n)) members past answer i refl refl (quit_guard _ m))
step_keeps w (Take n) members past answer i m =
    let g = take_guard w.locks n (receiving w n) m.1 in
    let p = caller_is w n i.held i.queues g.1 in
    let others = alone w (called_by w n) i.apart i.held (rw p.0 refl) in
    take_keeps w n (called_by w n) members past answer i m.0 g.0 p.0 p.1 (lacks_own (w.sender n) (others n (λ s. p.1 (sym s)))) others (λ k ne. readable w (called_by w n) i.apart (published_cw w (called_by w n) i.held (rw p.0 refl)) k)
step_keeps w (Processed n) members past answer i m = let g = processed_guard (receiving w n) m in processed_keeps w n members past answer i g.0 g.1
step_keeps w (PrGranted n) members past answer i m = let g = pr_told_guard w.locks n (receiving w n) m in pr_told_keeps w n members past answer i g.0 g.1
step_keeps w (Resume n) members past answer i m =
    let g = resume_guard w.locks n (receiving w n) m in
    let none = quiet w n i.apart i.held g.1 in
    resume_keeps w n members past answer i g.0 g.1 none (λ k ne. calling_none w n i.held none k)
step_keeps w (Drop n) members past answer i m = let g = drop_guard (receiving w n) m in drop_keeps w n members past answer i g.0 g.1
step_keeps w (Grant r) members past answer i (inl e, g) = rw e (token_grant_keeps w (w.locks token_res).conversions (w.locks token_res).requests token_res members past answer i refl refl (rw e at g))
step_keeps w (Grant r) members past answer i (inr (inl e), g) = rw e (message_grant_keeps w (w.locks message_res).conversions (w.locks message_res).requests message_res members past answer i refl refl (rw e at g))
step_keeps w (Grant r) members past answer i (inr (inr e), g) = rw e (ack_grant_keeps w (w.locks ack_res).conversions (w.locks ack_res).requests ack_res members past answer i refl refl (rw e at g))
step_keeps w (Die n) members past answer i m = die_keeps w n members past answer i m (λ s. alone w n i.apart i.held (published_phase _ s)) (unwritten w n i.apart i.held)
