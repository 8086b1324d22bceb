-- That a round can go on: something can be done while one is open, and each such event brings its end nearer.
use Rattle.std.specs.Prelude.{◌≡◌, ◌≢◌, ◌⊎◌, ℕ, zero, suc, ◌+◌, ◌*◌, ◌<◌, ◌≤◌, ◌==◌, Bool, true, false, not, ◌&&◌, is_some, if◌then◌else◌, List, [], Option, Some}
use Rattle.dlm_modes.specs.First.{first_such}
use Rattle.dlm_modes.specs.declared.mode.Mode.{Mode}
use Rattle.dlm_modes.specs.declared.mode.Mode.TheVariants.{CR, PR, EX}
use Rattle.msg_rounds.specs.Locks.{message_res, ack_res}
use Rattle.msg_rounds.specs.Phases.{is_idle, has_published}
use Rattle.msg_rounds.specs.Refusals.{is_published}
use Rattle.msg_rounds.specs.declared.phases.SenderPhase.{SenderPhase}
use Rattle.msg_rounds.specs.declared.phases.SenderPhase.TheVariants as senders
use Rattle.msg_rounds.specs.declared.phases.ReceiverPhase.{ReceiverPhase}
use Rattle.msg_rounds.specs.declared.phases.ReceiverPhase.TheVariants as receivers
use Rattle.laws_rounds.specs.Machine.{Rounds, Event, AckGranted, Finish, Take, Processed, Resume, Drop, Grant, Entry, May, is_live, after, rounds_after, AreAccepted}

-- an event that brings a round nearer to its end: a grant of `ack`, or of a conversion on `message`, and the sender's
-- and receivers' calls of an open round
abbrev pub Ends : Rounds → Event → Type 0
Ends w (Grant r) = (r ≡ ack_res) ⊎ ((r ≡ message_res) × ((w.locks message_res).conversions ≢ []))
Ends w (AckGranted n) = Unit {0}
Ends w (Finish n) = Unit {0}
Ends w (Take n) = Unit {0}
Ends w (Processed n) = Unit {0}
Ends w (Resume n) = Unit {0}
Ends w (Drop n) = Unit {0}
Ends w e = ⊥

-- a message is published and its round isn't finished, or some receiver isn't idle
abbrev pub IsOpen : Rounds → Type 0
IsOpen w = (n : ℕ) × ((has_published (w.sender n) ≡ true) ⊎ (is_idle (w.receiver n) ≡ false))

-- what is ahead of a sender: its grant of `ack`, being told of it, and its finish
abbrev pub sender_rank : SenderPhase → Option Mode → ℕ
sender_rank senders.Published (Some EX) = 2
sender_rank senders.Published held = 3
sender_rank senders.Granted held = 1
sender_rank s held = 0

-- what is ahead of a receiver: take, processed, its grant of `message`, and resume
abbrev pub receiver_rank : ReceiverPhase → Option Mode → ℕ
receiver_rank receivers.Taken held = 3
receiver_rank receivers.Waiting (Some PR) = 1
receiver_rank receivers.Waiting held = 2
receiver_rank receivers.Ready held = 1
receiver_rank receivers.Idle held = 0

-- some node but this one has published, and waits for `ack`
abbrev pub another_published : Rounds → ℕ → Bool
another_published w n = is_some (first_such (λ m. not (m == n) && is_published (w.sender m)) 0 16)

abbrev pub is_cr : Option Mode → Bool
is_cr (Some CR) = true
is_cr held = false

-- an idle receiver whose `ack` CR stands in the way of another's message
abbrev pub called_rank : Rounds → ℕ → ℕ
called_rank w n = if is_idle (w.receiver n) && is_cr ((w.locks ack_res).held n) && another_published w n then 4 else 0

abbrev pub rank_of : Rounds → ℕ → ℕ
rank_of w n = sender_rank (w.sender n) ((w.locks ack_res).held n) + receiver_rank (w.receiver n) ((w.locks message_res).held n) + called_rank w n

-- over the nodes below k
unfoldable pub rank_below : Rounds → ℕ → ℕ
rank_below w zero = 0
rank_below w (suc k) = rank_below w k + rank_of w k

abbrev pub rank : Rounds → ℕ
rank w = rank_below w 16

unfoldable pub live_below : Rounds → ℕ → ℕ
live_below w zero = 0
live_below w (suc k) = live_below w k + (if is_live (w.state k) then 1 else 0)

pub record GoesOn (w : Rounds) : Type 0 where
  pub unstuck : IsOpen w → (e : Event) × (Ends w e × May w e)
  pub falls : (e : Event) → Ends w e → May w e → rank (after w e) < rank w
  pub bounded : rank w ≤ 8 * live_below w 16

abbrev pub RoundsGoOn : Type 0
RoundsGoOn = (members : ℕ → Bool) (past : List Entry) → AreAccepted members past → GoesOn (rounds_after members past)
