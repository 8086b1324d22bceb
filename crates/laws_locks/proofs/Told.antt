-- What a tested phase is, and the rounds' own guards.
use Rattle.std.proofs.Common.{◌≡◌, Bool, true, false, not, Option, Some, None, refl, arith}
use Rattle.mdc_types.specs.declared.events.Wish.{Wish}
use Rattle.mdc_types.specs.declared.events.Wish.TheVariants as wishes
use Rattle.mdc_types.specs.declared.roles.NodeState.{NodeState}
use Rattle.mdc_types.specs.declared.roles.NodeState.TheVariants as states
use Rattle.msg_rounds.specs.Phases.{is_idle, may_quit, may_receive, has_message}
use Rattle.msg_rounds.specs.Refusals.{is_sender_idle, is_token_held, is_message_held, is_offered, is_granted, is_taken, ask_token_refusal, ask_message_refusal, offer_refusal, publish_refusal, finish_refusal, quit_refusal}
use Rattle.msg_rounds.specs.declared.phases.SenderPhase.{SenderPhase}
use Rattle.msg_rounds.specs.declared.phases.SenderPhase.TheVariants as senders
use Rattle.msg_rounds.specs.declared.phases.ReceiverPhase.{ReceiverPhase}
use Rattle.msg_rounds.specs.declared.phases.ReceiverPhase.TheVariants as receivers
use Rattle.laws_rounds.specs.Machine as rounds
use Rattle.laws_rounds.specs.Invariants.{fits}
use Rattle.cluster_model.specs.State.{Offer}
use Rattle.cluster_model.specs.Guards.{is_out}
use Rattle.cluster_model.specs.Phases.{is_up, is_joining, is_in}
use Rattle.cluster_model.specs.Wishes.{loaded_offers}
use Rattle.laws_locks.specs.Rounded.{stands, is_meta, wish_fits, offering}

pub up_is : (s : NodeState) → is_up s ≡ true → s ≡ states.Up
up_is s e = grind arith

pub joining_is : (s : NodeState) → is_joining s ≡ true → s ≡ states.Joining
joining_is s e = grind arith

pub in_is : (s : NodeState) → is_in s ≡ true → rounds.is_in s ≡ true
in_is s e = grind arith

pub live_is : (s : NodeState) → is_out s ≡ false → rounds.is_live s ≡ true
live_is s e = grind arith

pub idle_is : (s : SenderPhase) → is_sender_idle s ≡ true → s ≡ senders.Idle
idle_is s e = grind arith

pub token_is : (s : SenderPhase) → is_token_held s ≡ true → s ≡ senders.TokenHeld
token_is s e = grind arith

pub message_is : (s : SenderPhase) → is_message_held s ≡ true → s ≡ senders.MessageHeld
message_is s e = grind arith

pub offered_is : (s : SenderPhase) → is_offered s ≡ true → s ≡ senders.Offered
offered_is s e = grind arith

pub granted_is : (s : SenderPhase) → is_granted s ≡ true → s ≡ senders.Granted
granted_is s e = grind arith

pub quiet_is : (r : ReceiverPhase) → is_idle r ≡ true → r ≡ receivers.Idle
quiet_is r e = grind arith

pub taken_is : (r : ReceiverPhase) → is_taken r ≡ true → r ≡ receivers.Taken
taken_is r e = grind arith

-- The rounds' guards.

pub may_ask_token : (s : SenderPhase) (r : ReceiverPhase) → is_sender_idle s ≡ true → is_idle r ≡ true → ask_token_refusal s r ≡ None
may_ask_token s r e f = grind arith

pub may_ask_message : (s : SenderPhase) (r : ReceiverPhase) → is_token_held s ≡ true → is_idle r ≡ true → ask_message_refusal s r ≡ None
may_ask_message s r e f = grind arith

pub may_offer : (s : SenderPhase) → is_message_held s ≡ true → offer_refusal s ≡ None
may_offer s e = grind arith

pub may_publish : (s : SenderPhase) → is_offered s ≡ true → publish_refusal s ≡ None
may_publish s e = grind arith

pub may_finish : (s : SenderPhase) → is_granted s ≡ true → finish_refusal s ≡ None
may_finish s e = grind arith

pub may_give_up : (s : SenderPhase) → may_quit s ≡ true → quit_refusal s ≡ None
may_give_up s e = grind arith

-- Which offers stand.

pub idle_offers : (s : SenderPhase) → is_sender_idle s ≡ true → stands s ≡ false
idle_offers s e = grind arith

pub token_offers : (s : SenderPhase) → is_token_held s ≡ true → stands s ≡ false
token_offers s e = grind arith

-- who has the message is in, so may offer
pub wish_offered : (s : NodeState) (sender : SenderPhase) (w : Wish) → fits s sender ≡ true → is_message_held sender ≡ true → loaded_offers s w ≡ None → wish_fits s w ≡ true
wish_offered states.Up sender w f m e = refl
wish_offered states.Loaded sender wishes.Meta f m e = refl
wish_offered states.Loaded sender w f m e = cc
wish_offered states.Joining sender w f m e = grind arith
wish_offered states.Out sender w f m e = grind arith

-- who isn't out of the mirror while nobody offers there
pub out_offers : (s : NodeState) (sender : SenderPhase) → fits s sender ≡ true → s ≡ states.Out → sender ≡ senders.Idle
out_offers s sender f e = grind arith

pub not_live : (live : Bool) (s : NodeState) → live ≡ not (is_out s) → not live ≡ true → s ≡ states.Out
not_live live s e f = grind arith

-- the offer of who is granted
pub no_offer : (s : NodeState) (sender : SenderPhase) (o : Option Offer) → offering s sender o ≡ true → stands sender ≡ true → o ≡ None → ⊥
no_offer s sender o i e n = grind arith

pub some_offer : (s : NodeState) (sender : SenderPhase) (o : Offer) → offering s sender (Some o) ≡ true → stands sender ≡ true → wish_fits s o.wish ≡ true
some_offer s sender o i e = grind arith

pub up_offers : (s : NodeState) (w : Wish) → wish_fits s w ≡ true → is_meta w ≡ false → s ≡ states.Up
up_offers s w i e = grind arith

-- who gives its first round up has nothing of the message, or isn't receiving
pub quits_with : (s : SenderPhase) → may_quit s ≡ true → has_message s ≡ false → may_receive s ≡ true
quits_with s e f = grind arith
