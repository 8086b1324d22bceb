-- What an event that may happen tells of the phases of its node, and of what it holds.
use Rattle.std.proofs.Common.{◌≡◌, ℕ, true, false, is_some, Some, None, arith}
use Rattle.dlm_modes.specs.declared.mode.Mode.TheVariants.{PR, EX}
use Rattle.dlm_space.specs.Locks.{Lock, caller}
use Rattle.msg_rounds.specs.Locks.{token_res, message_res, ack_res}
use Rattle.msg_rounds.specs.Phases.{Receiving, has_processed, may_quit}
use Rattle.msg_rounds.specs.Refusals.{ask_token_refusal, token_granted_refusal, ask_message_refusal, message_granted_refusal, offer_refusal, void_refusal, publish_refusal, ack_granted_refusal, finish_refusal, quit_refusal, take_refusal, processed_refusal, pr_granted_refusal, resume_refusal, drop_refusal}
use Rattle.msg_rounds.specs.declared.phases.SenderPhase.{SenderPhase}
use Rattle.msg_rounds.specs.declared.phases.SenderPhase.TheVariants as senders
use Rattle.msg_rounds.specs.declared.phases.ReceiverPhase.{ReceiverPhase}
use Rattle.msg_rounds.specs.declared.phases.ReceiverPhase.TheVariants as receivers

pub ask_token_guard : (s : SenderPhase) (r : ReceiverPhase) → ask_token_refusal s r ≡ None → (s ≡ senders.Idle) × (r ≡ receivers.Idle)
ask_token_guard s r e = grind arith

pub token_told_guard : (locks : ℕ → Lock) (n : ℕ) (s : SenderPhase) → token_granted_refusal locks n s ≡ None → (s ≡ senders.TokenAsked) × ((locks token_res).held n ≡ Some EX)
token_told_guard locks n s e = grind arith

pub ask_message_guard : (s : SenderPhase) (r : ReceiverPhase) → ask_message_refusal s r ≡ None → (s ≡ senders.TokenHeld) × (r ≡ receivers.Idle)
ask_message_guard s r e = grind arith

pub message_told_guard : (locks : ℕ → Lock) (n : ℕ) (s : SenderPhase) → message_granted_refusal locks n s ≡ None → (s ≡ senders.MessageAsked) × ((locks message_res).held n ≡ Some EX)
message_told_guard locks n s e = grind arith

pub offer_guard : (s : SenderPhase) → offer_refusal s ≡ None → s ≡ senders.MessageHeld
offer_guard s e = grind arith

pub void_guard : (s : SenderPhase) → void_refusal s ≡ None → s ≡ senders.Offered
void_guard s e = grind arith

pub publish_guard : (s : SenderPhase) → publish_refusal s ≡ None → s ≡ senders.Offered
publish_guard s e = grind arith

pub ack_told_guard : (locks : ℕ → Lock) (n : ℕ) (s : SenderPhase) → ack_granted_refusal locks n s ≡ None → (s ≡ senders.Published) × ((locks ack_res).held n ≡ Some EX)
ack_told_guard locks n s e = grind arith

pub finish_guard : (s : SenderPhase) → finish_refusal s ≡ None → s ≡ senders.Granted
finish_guard s e = grind arith

pub quit_guard : (s : SenderPhase) → quit_refusal s ≡ None → may_quit s ≡ true
quit_guard s e = grind arith

pub take_guard : (locks : ℕ → Lock) (n : ℕ) (r : Receiving) → take_refusal locks n r ≡ None → (r.phase ≡ receivers.Idle) × (is_some (caller (locks ack_res) n) ≡ true)
take_guard locks n r e = grind arith

pub processed_guard : (r : Receiving) → processed_refusal r ≡ None → (r.phase ≡ receivers.Taken) × (r.gone ≡ false)
processed_guard r e = grind arith

pub pr_told_guard : (locks : ℕ → Lock) (n : ℕ) (r : Receiving) → pr_granted_refusal locks n r ≡ None → (r.phase ≡ receivers.Waiting) × ((locks message_res).held n ≡ Some PR)
pr_told_guard locks n r e = grind arith

pub resume_guard : (locks : ℕ → Lock) (n : ℕ) (r : Receiving) → resume_refusal locks n r ≡ None → (has_processed r.phase ≡ true) × ((locks message_res).held n ≡ Some PR)
resume_guard locks n r e = grind arith

pub drop_guard : (r : Receiving) → drop_refusal r ≡ None → (r.phase ≡ receivers.Taken) × (r.gone ≡ true)
drop_guard r e = grind arith
