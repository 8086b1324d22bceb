-- What refuses each call of a round, its guards in order.
use Rattle.std.specs.Prelude.{ℕ, Bool, true, false, not, is_some, Option, Some}
use Rattle.dlm_modes.specs.Guards.{unless, or_then}
use Rattle.dlm_modes.specs.declared.mode.Mode.{Mode}
use Rattle.dlm_modes.specs.declared.mode.Mode.TheVariants.{PR, EX}
use Rattle.mdc_types.specs.declared.resources.Res.{Res}
use Rattle.mdc_types.specs.declared.resources.Res.TheVariants as resources
use Rattle.dlm_space.specs.Locks.{Lock, caller}
use Rattle.msg_rounds.specs.Locks.{token_res, message_res, ack_res}
use Rattle.msg_rounds.specs.Phases.{Receiving, sender_word, receiver_word, is_idle, may_quit}
use Rattle.msg_rounds.specs.declared.errors.RoundError.{RoundError}
use Rattle.msg_rounds.specs.declared.errors.RoundError.TheVariants.{NotPhase, ReceiverBusy, NotCalled, SenderGone, SenderLive, NotGranted}
use Rattle.msg_rounds.specs.declared.phases.SenderPhase.{SenderPhase}
use Rattle.msg_rounds.specs.declared.phases.SenderPhase.TheVariants as senders
use Rattle.msg_rounds.specs.declared.phases.ReceiverPhase.{ReceiverPhase}
use Rattle.msg_rounds.specs.declared.phases.ReceiverPhase.TheVariants as receivers

-- the sender is in the phase that the call asks
abbrev pub sender_is : Bool → SenderPhase → Option RoundError
sender_is right s = unless right (NotPhase (sender_word s))

abbrev pub receiver_is : Bool → ReceiverPhase → Option RoundError
receiver_is right r = unless right (NotPhase (receiver_word r))

-- the node isn't receiving
abbrev pub busy : ReceiverPhase → Option RoundError
busy r = unless (is_idle r) (ReceiverBusy (receiver_word r))

-- what is held is EX, or PR
abbrev pub is_ex : Option Mode → Bool
is_ex (Some EX) = true
is_ex held = false

abbrev pub is_pr : Option Mode → Bool
is_pr (Some PR) = true
is_pr held = false

-- phases

abbrev pub is_sender_idle : SenderPhase → Bool
is_sender_idle senders.Idle = true
is_sender_idle s = false

abbrev pub is_token_asked : SenderPhase → Bool
is_token_asked senders.TokenAsked = true
is_token_asked s = false

abbrev pub is_token_held : SenderPhase → Bool
is_token_held senders.TokenHeld = true
is_token_held s = false

abbrev pub is_message_asked : SenderPhase → Bool
is_message_asked senders.MessageAsked = true
is_message_asked s = false

abbrev pub is_message_held : SenderPhase → Bool
is_message_held senders.MessageHeld = true
is_message_held s = false

abbrev pub is_offered : SenderPhase → Bool
is_offered senders.Offered = true
is_offered s = false

abbrev pub is_published : SenderPhase → Bool
is_published senders.Published = true
is_published s = false

abbrev pub is_granted : SenderPhase → Bool
is_granted senders.Granted = true
is_granted s = false

abbrev pub is_taken : ReceiverPhase → Bool
is_taken receivers.Taken = true
is_taken r = false

abbrev pub is_waiting : ReceiverPhase → Bool
is_waiting receivers.Waiting = true
is_waiting r = false

-- of a sender's calls

abbrev pub ask_token_refusal : SenderPhase → ReceiverPhase → Option RoundError
ask_token_refusal s r = or_then (sender_is (is_sender_idle s) s) (busy r)

abbrev pub ask_message_refusal : SenderPhase → ReceiverPhase → Option RoundError
ask_message_refusal s r = or_then (sender_is (is_token_held s) s) (busy r)

-- the node has EX on the resource
abbrev pub granted_refusal : (ℕ → Lock) → ℕ → ℕ → Res → Option RoundError
granted_refusal locks n r res = unless (is_ex ((locks r).held n)) (NotGranted res)

abbrev pub token_granted_refusal : (ℕ → Lock) → ℕ → SenderPhase → Option RoundError
token_granted_refusal locks n s = or_then (sender_is (is_token_asked s) s) (granted_refusal locks n token_res resources.Token)

abbrev pub message_granted_refusal : (ℕ → Lock) → ℕ → SenderPhase → Option RoundError
message_granted_refusal locks n s = or_then (sender_is (is_message_asked s) s) (granted_refusal locks n message_res resources.Message)

abbrev pub ack_granted_refusal : (ℕ → Lock) → ℕ → SenderPhase → Option RoundError
ack_granted_refusal locks n s = or_then (sender_is (is_published s) s) (granted_refusal locks n ack_res resources.Ack)

abbrev pub offer_refusal : SenderPhase → Option RoundError
offer_refusal s = sender_is (is_message_held s) s

abbrev pub void_refusal : SenderPhase → Option RoundError
void_refusal s = sender_is (is_offered s) s

abbrev pub publish_refusal : SenderPhase → Option RoundError
publish_refusal s = sender_is (is_offered s) s

abbrev pub finish_refusal : SenderPhase → Option RoundError
finish_refusal s = sender_is (is_granted s) s

abbrev pub quit_refusal : SenderPhase → Option RoundError
quit_refusal s = sender_is (may_quit s) s

-- of a receiver's calls

-- the head of `ack` calls the node
abbrev pub take_refusal : (ℕ → Lock) → ℕ → Receiving → Option RoundError
take_refusal locks n r = or_then (receiver_is (is_idle r.phase) r.phase) (unless (is_some (caller (locks ack_res) n)) NotCalled)

abbrev pub processed_refusal : Receiving → Option RoundError
processed_refusal r = or_then (receiver_is (is_taken r.phase) r.phase) (unless (not r.gone) (SenderGone r.from))

-- the node has PR on `message`
abbrev pub pr_refusal : (ℕ → Lock) → ℕ → Option RoundError
pr_refusal locks n = unless (is_pr ((locks message_res).held n)) (NotGranted resources.Message)

abbrev pub pr_granted_refusal : (ℕ → Lock) → ℕ → Receiving → Option RoundError
pr_granted_refusal locks n r = or_then (receiver_is (is_waiting r.phase) r.phase) (pr_refusal locks n)

-- waiting will do, once PR is granted
abbrev pub may_resume : ReceiverPhase → Bool
may_resume receivers.Waiting = true
may_resume receivers.Ready = true
may_resume r = false

abbrev pub resume_refusal : (ℕ → Lock) → ℕ → Receiving → Option RoundError
resume_refusal locks n r = or_then (receiver_is (may_resume r.phase) r.phase) (pr_refusal locks n)

abbrev pub drop_refusal : Receiving → Option RoundError
drop_refusal r = or_then (receiver_is (is_taken r.phase) r.phase) (unless r.gone (SenderLive r.from))
