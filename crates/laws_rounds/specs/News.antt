-- Rounds where a node is told of a grant at once, as in a larger machine whose grant is one step.
use Rattle.std.specs.Prelude.{◌≡◌, ℕ, zero, suc, ◌+◌, ◌*◌, ◌<◌, ◌≤◌, ◌==◌, Bool, ◌&&◌, if◌then◌else◌, List, Option, Some, None}
use Rattle.dlm_modes.specs.declared.mode.Mode.TheVariants.{CR}
use Rattle.dlm_space.specs.Queues.{head}
use Rattle.dlm_space.specs.declared.ask.Ask.{Ask}
use Rattle.msg_rounds.specs.Locks.{token_res, message_res, ack_res}
use Rattle.msg_rounds.specs.Phases.{is_idle}
use Rattle.msg_rounds.specs.Refusals.{is_ex}
use Rattle.msg_rounds.specs.declared.phases.SenderPhase.{SenderPhase}
use Rattle.msg_rounds.specs.declared.phases.SenderPhase.TheVariants as senders
use Rattle.msg_rounds.specs.declared.phases.ReceiverPhase.{ReceiverPhase}
use Rattle.msg_rounds.specs.declared.phases.ReceiverPhase.TheVariants as receivers
use Rattle.laws_rounds.specs.Machine.{Rounds, Event, TokenGranted, MessageGranted, AckGranted, PrGranted, Grant, Entry, May, after, rounds_after, AreAccepted}
use Rattle.laws_rounds.specs.Going.{Ends, IsOpen, another_published, is_cr, live_below}

-- what the asker is told when the resource is granted to it
abbrev pub news_at : ℕ → Ask → Event
news_at r a =
    if r == token_res then TokenGranted a.node else if r == ack_res then AckGranted a.node else if is_ex (Some a.mode) then MessageGranted a.node else PrGranted a.node

-- who stands at the head of the queue on the resource
abbrev pub heads : Rounds → ℕ → Option Ask
heads w r = head (w.locks r).conversions (w.locks r).requests

-- the grant, and then the news of it
abbrev pub after_grant : Rounds → ℕ → Ask → Rounds
after_grant w r a = after (after w (Grant r)) (news_at r a)

-- no grant waits for its news: who asks isn't granted yet
pub record AllTold (w : Rounds) : Type 0 where
  pub token : (n : ℕ) → w.sender n ≡ senders.TokenAsked → (w.locks token_res).held n ≡ None
  pub message : (n : ℕ) → w.sender n ≡ senders.MessageAsked → (w.locks message_res).held n ≡ None
  pub ack : (n : ℕ) → w.sender n ≡ senders.Published → (w.locks ack_res).held n ≡ Some CR
  pub pr : (n : ℕ) → w.receiver n ≡ receivers.Waiting → (w.locks message_res).held n ≡ Some CR

-- what is then ahead of a node, by its phases alone: of a sender its grant of `ack` and its finish, of a receiver
-- take, processed, its grant of `message` and resume

abbrev pub told_sender_rank : SenderPhase → ℕ
told_sender_rank senders.Published = 2
told_sender_rank senders.Granted = 1
told_sender_rank s = 0

abbrev pub told_receiver_rank : ReceiverPhase → ℕ
told_receiver_rank receivers.Taken = 3
told_receiver_rank receivers.Waiting = 2
told_receiver_rank receivers.Ready = 1
told_receiver_rank receivers.Idle = 0

-- an idle receiver whose `ack` CR stands in the way of another's message adds 4
abbrev pub told_rank_of : Rounds → ℕ → ℕ
told_rank_of w n =
    told_sender_rank (w.sender n) + told_receiver_rank (w.receiver n) + (if is_idle (w.receiver n) && is_cr ((w.locks ack_res).held n) && another_published w n then 4 else 0)

unfoldable pub told_rank_below : Rounds → ℕ → ℕ
told_rank_below w zero = 0
told_rank_below w (suc k) = told_rank_below w k + told_rank_of w k

abbrev pub told_rank : Rounds → ℕ
told_rank w = told_rank_below w 16

-- an event that brings a round nearer to its end, but for the news of `ack`, which comes with the grant
abbrev pub EndsTold : Rounds → Event → Type 0
EndsTold w (AckGranted n) = ⊥
EndsTold w e = Ends w e

-- the rounds after the event, and where it is a grant after the news of it
abbrev pub ToldAfter : Rounds → Event → Rounds → Type 0
ToldAfter w (Grant r) v = (a : Ask) × ((heads w r ≡ Some a) × (v ≡ after_grant w r a))
ToldAfter w e v = v ≡ after w e

pub record GoesOnTold (w : Rounds) : Type 0 where
  pub unstuck : IsOpen w → (e : Event) × (EndsTold w e × May w e)
  pub falls : (e : Event) (v : Rounds) → EndsTold w e → May w e → ToldAfter w e v → told_rank v < told_rank w
  pub bounded : told_rank w ≤ 8 * live_below w 16

-- the news of a grant may always come at once, and where it does no other is waited for
pub record TellsGrants (w : Rounds) : Type 0 where
  pub may : (r : ℕ) (a : Ask) → May w (Grant r) → heads w r ≡ Some a → May (after w (Grant r)) (news_at r a)
  pub told : AllTold w → (e : Event) (v : Rounds) → May w e → ToldAfter w e v → AllTold v

abbrev pub RoundsAreTold : Type 0
RoundsAreTold = (members : ℕ → Bool) (past : List Entry) → AreAccepted members past → TellsGrants (rounds_after members past)

abbrev pub ToldRoundsGoOn : Type 0
ToldRoundsGoOn = (members : ℕ → Bool) (past : List Entry) → AreAccepted members past → AllTold (rounds_after members past) → GoesOnTold (rounds_after members past)
