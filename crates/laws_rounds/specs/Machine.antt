-- The machine of message rounds alone: sixteen nodes with their phases over the locks `token`, `message` and `ack`.
use Rattle.std.specs.Prelude.{◌≡◌, ◌⊎◌, ℕ, ◌<◌, ◌==◌, nat_lt, Bool, true, false, not, ◌&&◌, ◌||◌, if◌then◌else◌, unwrap_or, List, [], ◌∷◌, Some, None}
use Rattle.dlm_modes.specs.Points.{with_at}
use Rattle.dlm_modes.specs.declared.block.Block.{Block}
use Rattle.dlm_modes.specs.declared.mode.Mode.TheVariants.{CR}
use Rattle.mdc_types.specs.declared.roles.NodeState.{NodeState}
use Rattle.mdc_types.specs.declared.roles.NodeState.TheVariants as states
use Rattle.dlm_space.specs.Locks.{Lock, new_lock, new_locks, holding, let_go, granted, all_died, grant_refusal, caller}
use Rattle.msg_rounds.specs.Locks.{token_res, message_res, ack_res, token_asked, message_asked, published, finished, quitted, message_taken, message_processed, resumed, message_dropped}
use Rattle.msg_rounds.specs.Phases.{Receiving, is_idle, has_published}
use Rattle.msg_rounds.specs.Refusals.{ask_token_refusal, token_granted_refusal, ask_message_refusal, message_granted_refusal, offer_refusal, void_refusal, publish_refusal, ack_granted_refusal, finish_refusal, quit_refusal, take_refusal, processed_refusal, pr_granted_refusal, resume_refusal, drop_refusal}
use Rattle.msg_rounds.specs.declared.phases.SenderPhase.{SenderPhase}
use Rattle.msg_rounds.specs.declared.phases.SenderPhase.TheVariants as senders
use Rattle.msg_rounds.specs.declared.phases.ReceiverPhase.{ReceiverPhase}
use Rattle.msg_rounds.specs.declared.phases.ReceiverPhase.TheVariants as receivers
use Rattle.msg_rounds.specs.declared.phases.Verdict.{Verdict}
use Rattle.msg_rounds.specs.declared.phases.Verdict.TheVariants.{Whole, Broken}

pub record Rounds : Type 0 where
  pub state : ℕ → NodeState
  pub sender : ℕ → SenderPhase
  pub receiver : ℕ → ReceiverPhase
  -- the sender of the message that the node took last, and whether the node was told of that sender's death
  pub from : ℕ → ℕ
  pub gone : ℕ → Bool
  pub locks : ℕ → Lock

-- the calls of a sender and a receiver, the grants of the three locks, and how nodes come and go
pub data Event : Type 0 where
  -- a node that is out asks `token`, then comes in while it holds it, and is up when its round is finished
  Join : (n : ℕ) → Event
  ComeIn : (n : ℕ) → Event
  Leave : (n : ℕ) → Event
  AskToken : (n : ℕ) → Event
  TokenGranted : (n : ℕ) → Event
  AskMessage : (n : ℕ) → Event
  MessageGranted : (n : ℕ) → Event
  Offer : (n : ℕ) → Event
  Void : (n : ℕ) → Event
  Publish : (n : ℕ) (block : Block) → Event
  AckGranted : (n : ℕ) → Event
  Finish : (n : ℕ) → Event
  Quit : (n : ℕ) → Event
  Take : (n : ℕ) → Event
  Processed : (n : ℕ) → Event
  PrGranted : (n : ℕ) → Event
  Resume : (n : ℕ) → Event
  Drop : (n : ℕ) → Event
  Grant : (r : ℕ) → Event
  Die : (n : ℕ) → Event

abbrev pub is_live : NodeState → Bool
is_live states.Out = false
is_live s = true

abbrev pub is_up : NodeState → Bool
is_up states.Up = true
is_up s = false

-- the node holds `ack` CR when it neither sends nor receives
abbrev pub is_in : NodeState → Bool
is_in states.Loaded = true
is_in states.Up = true
is_in s = false

abbrev pub receiving : Rounds → ℕ → Receiving
receiving w n = record { phase = w.receiver n; from = w.from n; gone = w.gone n }

-- The guards.

abbrev pub May : Rounds → Event → Type 0
May w (Join n) = (n < 16) × (w.state n ≡ states.Out)
May w (ComeIn n) = (w.state n ≡ states.Joining) × (w.sender n ≡ senders.TokenHeld)
May w (Leave n) = (w.state n ≡ states.Up) × (w.sender n ≡ senders.Idle) × (w.receiver n ≡ receivers.Idle)
May w (AskToken n) = (w.state n ≡ states.Up) × (ask_token_refusal (w.sender n) (w.receiver n) ≡ None)
May w (TokenGranted n) = token_granted_refusal w.locks n (w.sender n) ≡ None
May w (AskMessage n) = (is_in (w.state n) ≡ true) × (ask_message_refusal (w.sender n) (w.receiver n) ≡ None)
May w (MessageGranted n) = message_granted_refusal w.locks n (w.sender n) ≡ None
May w (Offer n) = offer_refusal (w.sender n) ≡ None
May w (Void n) = void_refusal (w.sender n) ≡ None
May w (Publish n block) = publish_refusal (w.sender n) ≡ None
May w (AckGranted n) = ack_granted_refusal w.locks n (w.sender n) ≡ None
May w (Finish n) = finish_refusal (w.sender n) ≡ None
May w (Quit n) = quit_refusal (w.sender n) ≡ None
May w (Take n) = (w.state n ≡ states.Up) × (take_refusal w.locks n (receiving w n) ≡ None)
May w (Processed n) = processed_refusal (receiving w n) ≡ None
May w (PrGranted n) = pr_granted_refusal w.locks n (receiving w n) ≡ None
May w (Resume n) = resume_refusal w.locks n (receiving w n) ≡ None
May w (Drop n) = drop_refusal (receiving w n) ≡ None
May w (Grant r) = ((r ≡ token_res) ⊎ (r ≡ message_res) ⊎ (r ≡ ack_res)) × (grant_refusal (w.locks r) ≡ None)
May w (Die n) = is_live (w.state n) ≡ true

-- The effects.

-- a node that isn't up and quits is out, and lets go of `ack` too
abbrev pub quit_state : NodeState → NodeState
quit_state states.Up = states.Up
quit_state s = states.Out

abbrev pub quit_locks : NodeState → (ℕ → Lock) → ℕ → SenderPhase → ℕ → Lock
quit_locks states.Up locks n s = quitted locks n s
quit_locks state locks n s = with_at (quitted locks n s) ack_res (let_go (locks ack_res) n)

-- whose message the node takes
abbrev pub called_by : Rounds → ℕ → ℕ
called_by w n = unwrap_or (caller (w.locks ack_res) n) 0

abbrev pub sender_now : Rounds → ℕ → SenderPhase → Rounds
sender_now w n s = record w { sender = with_at w.sender n s }

abbrev pub receiver_now : Rounds → ℕ → ReceiverPhase → (ℕ → Lock) → Rounds
receiver_now w n r locks = record w { receiver = with_at w.receiver n r; locks = locks }

abbrev pub after : Rounds → Event → Rounds
after w (Join n) = record w { state = with_at w.state n states.Joining; sender = with_at w.sender n senders.TokenAsked; locks = token_asked w.locks n }
after w (ComeIn n) = record w { state = with_at w.state n states.Loaded; locks = with_at w.locks ack_res (holding (w.locks ack_res) n CR) }
after w (Leave n) = record w { state = with_at w.state n states.Out; locks = with_at w.locks ack_res (let_go (w.locks ack_res) n) }
after w (AskToken n) = record w { sender = with_at w.sender n senders.TokenAsked; locks = token_asked w.locks n }
after w (TokenGranted n) = sender_now w n senders.TokenHeld
after w (AskMessage n) = record w { sender = with_at w.sender n senders.MessageAsked; locks = message_asked w.locks n }
after w (MessageGranted n) = sender_now w n senders.MessageHeld
after w (Offer n) = sender_now w n senders.Offered
after w (Void n) = sender_now w n senders.MessageHeld
after w (Publish n block) = record w { sender = with_at w.sender n senders.Published; locks = published w.locks n block }
after w (AckGranted n) = sender_now w n senders.Granted
after w (Finish n) = record w { state = with_at w.state n states.Up; sender = with_at w.sender n senders.Idle; locks = finished w.locks n }
after w (Quit n) = record w { state = with_at w.state n (quit_state (w.state n)); sender = with_at w.sender n senders.Idle; locks = quit_locks (w.state n) w.locks n (w.sender n) }
after w (Take n) = record w { receiver = with_at w.receiver n receivers.Taken; from = with_at w.from n (called_by w n); gone = with_at w.gone n false; locks = message_taken w.locks n }
after w (Processed n) = receiver_now w n receivers.Waiting (message_processed w.locks n)
after w (PrGranted n) = receiver_now w n receivers.Ready w.locks
after w (Resume n) = receiver_now w n receivers.Idle (resumed w.locks n)
after w (Drop n) = receiver_now w n receivers.Idle (message_dropped w.locks n)
after w (Grant r) = record w { locks = with_at w.locks r (granted (w.locks r)) }
-- one step: its locks and requests go, its sender and its receiver are new, and the receivers of its message, which
-- is published and not finished, learn of it
after w (Die n) = record w {
  state = with_at w.state n states.Out;
  sender = with_at w.sender n senders.Idle;
  receiver = with_at w.receiver n receivers.Idle;
  from = with_at w.from n 0;
  gone = λ m. if m == n then false else w.gone m || (has_published (w.sender n) && not (is_idle (w.receiver m)) && (w.from m == n));
  locks = all_died w.locks n;
}

-- Runs.

-- what a call answers: the block and the sender of the message that is taken, and how a receiver's round ended
pub data Answer : Type 0 where
  Done : Answer
  Message : (sender : ℕ) (block : Block) → Answer
  Ended : (verdict : Verdict) → Answer

abbrev pub answer_to : Rounds → Event → Answer
answer_to w (Take n) = Message (called_by w n) (w.locks message_res).block
answer_to w (Resume n) = Ended (if w.gone n then Broken else Whole)
answer_to w e = Done

pub record Entry : Type 0 where
  pub event : Event
  pub answer : Answer

-- members are up, idle, and hold `ack` CR
abbrev pub opening_locks : (ℕ → Bool) → ℕ → Lock
opening_locks members = with_at new_locks ack_res (record new_lock { held = λ n. if nat_lt n 16 && members n then Some CR else None })

abbrev pub opening : (ℕ → Bool) → Rounds
opening members = record {
  state = λ n. if nat_lt n 16 && members n then states.Up else states.Out;
  sender = λ n. senders.Idle;
  receiver = λ n. receivers.Idle;
  from = λ n. 0;
  gone = λ n. false;
  locks = opening_locks members;
}

-- the state after the entries, the newest first
abbrev pub rounds_after : (ℕ → Bool) → List Entry → Rounds
rounds_after members [] = opening members
rounds_after members (entry ∷ past) = after (rounds_after members past) entry.event

pub record IsAccepted (w : Rounds) (entry : Entry) : Type 0 where
  pub may : May w entry.event
  pub answers : entry.answer ≡ answer_to w entry.event

-- each event was accepted in its turn
abbrev pub AreAccepted : (ℕ → Bool) → List Entry → Type 0
AreAccepted members [] = Unit {0}
AreAccepted members (entry ∷ past) = AreAccepted members past × IsAccepted (rounds_after members past) entry
