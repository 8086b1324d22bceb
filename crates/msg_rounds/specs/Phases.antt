-- Where a node stands in a message round, as its sender and as its receiver.
use Rattle.std.specs.Prelude.{ℕ, ◌==◌, Bool, true, false, ◌&&◌, ◌||◌, not, if◌then◌else◌, Option, Some, None}
use Rattle.mdc_types.specs.declared.refusals.Word.{Word}
use Rattle.mdc_types.specs.declared.refusals.Word.TheVariants as words
use Rattle.msg_rounds.specs.declared.phases.SenderPhase.{SenderPhase}
use Rattle.msg_rounds.specs.declared.phases.SenderPhase.TheVariants as senders
use Rattle.msg_rounds.specs.declared.phases.ReceiverPhase.{ReceiverPhase}
use Rattle.msg_rounds.specs.declared.phases.ReceiverPhase.TheVariants as receivers

-- a receiver: its phase, the sender of the message that it took last, and whether it was told that this sender died
-- before its round was over
pub record Receiving : Type 0 where
  pub phase : ReceiverPhase
  pub from : ℕ
  pub gone : Bool

abbrev pub new_receiving : Receiving
new_receiving = record { phase = receivers.Idle; from = 0; gone = false }

abbrev pub sender_word : SenderPhase → Word
sender_word senders.Idle = words.Idle
sender_word senders.TokenAsked = words.TokenAsked
sender_word senders.TokenHeld = words.TokenHeld
sender_word senders.MessageAsked = words.MessageAsked
sender_word senders.MessageHeld = words.MessageHeld
sender_word senders.Offered = words.Offered
sender_word senders.Published = words.Published
sender_word senders.Granted = words.Granted

abbrev pub receiver_word : ReceiverPhase → Word
receiver_word receivers.Idle = words.Idle
receiver_word receivers.Taken = words.Taken
receiver_word receivers.Waiting = words.Waiting
receiver_word receivers.Ready = words.Ready

abbrev pub is_idle : ReceiverPhase → Bool
is_idle receivers.Idle = true
is_idle r = false

-- the receiver has processed its message
abbrev pub has_processed : ReceiverPhase → Bool
has_processed receivers.Waiting = true
has_processed receivers.Ready = true
has_processed r = false

-- the sender has nothing of `message` yet, so that its node may be receiving
abbrev pub may_receive : SenderPhase → Bool
may_receive senders.Idle = true
may_receive senders.TokenAsked = true
may_receive senders.TokenHeld = true
may_receive s = false

-- the sender holds `message` and has published nothing
abbrev pub has_message : SenderPhase → Bool
has_message senders.MessageHeld = true
has_message senders.Offered = true
has_message s = false

-- the sender's message is published, and its round isn't over
abbrev pub has_published : SenderPhase → Bool
has_published senders.Published = true
has_published senders.Granted = true
has_published s = false

-- the sender may give its round up
abbrev pub may_quit : SenderPhase → Bool
may_quit senders.TokenHeld = true
may_quit senders.MessageHeld = true
may_quit senders.Offered = true
may_quit s = false

-- what becomes of a receiver

abbrev pub taken : ℕ → Receiving
taken sender = record { phase = receivers.Taken; from = sender; gone = false }

abbrev pub now_in : ReceiverPhase → Receiving → Receiving
now_in phase r = record r { phase = phase }

-- its message is that of the node, which has died
abbrev pub heard_death : ℕ → Receiving → Receiving
heard_death n r = record r { gone = r.gone || (not (is_idle r.phase) && (r.from == n)) }

-- the dead sender of its message
abbrev pub gone_sender : Receiving → Option ℕ
gone_sender r = if not (is_idle r.phase) && r.gone then Some r.from else None
