-- How a larger machine follows the rounds, so that what is said of them holds of it too.
--
-- Its state has for each node a state, a sender's phase and a receiver, and the locks of all resources. Of these
-- `rounds_of` keeps what rounds are about: the three locks, with nothing on the others. Each of its steps is a list of
-- rounds' events, mostly one or none:
--   a grant of one of the three locks is `Grant`, and then the news of it (`TokenGranted`, `MessageGranted`,
--   `PrGranted` or `AckGranted`); what it does to the locks is the grant alone;
--   a finish after which the node lets go of all is `Finish`, then `Leave`;
--   leaving, and giving a first round up, let go of all locks, and that is `Leave`, and `Quit`, since of the other
--   two locks, or of `message`, the node has nothing;
--   a death is one event; and so is each call of a sender or a receiver.
-- A step that changes other resources alone, as bitmaps, `no-new-dev` and `resync`, is no event: the three locks stay.
--
-- So for each step one shows that its events may happen (`May` reads the three locks alone), and that they lead to the
-- rounds of the new state. Then the list of events is accepted, and `Sound` and `Going` speak of the state itself,
-- since the three locks in `rounds_of` are the state's own.
use Rattle.std.specs.Prelude.{◌≡◌, ℕ, ◌==◌, Bool, ◌||◌, if◌then◌else◌, List}
use Rattle.dlm_space.specs.Locks.{Lock, new_lock}
use Rattle.mdc_types.specs.declared.roles.NodeState.{NodeState}
use Rattle.msg_rounds.specs.Locks.{token_res, message_res, ack_res}
use Rattle.msg_rounds.specs.Phases.{Receiving, heard_death, has_published, new_receiving}
use Rattle.msg_rounds.specs.declared.phases.SenderPhase.{SenderPhase}
use Rattle.laws_rounds.specs.Machine.{Rounds, Event, Entry, answer_to, rounds_after, AreAccepted}

abbrev pub is_of_rounds : ℕ → Bool
is_of_rounds r = (r == token_res) || (r == message_res) || (r == ack_res)

-- the three locks, and nothing on the others
abbrev pub three_of : (ℕ → Lock) → ℕ → Lock
three_of locks r = if is_of_rounds r then locks r else new_lock

-- the three locks are the same
abbrev pub SameThree : (ℕ → Lock) → (ℕ → Lock) → Type 0
SameThree now locks = three_of now ≡ three_of locks

abbrev pub rounds_of : (ℕ → NodeState) → (ℕ → SenderPhase) → (ℕ → Receiving) → (ℕ → Lock) → Rounds
rounds_of state sender receiver locks = record {
  state = state;
  sender = sender;
  receiver = λ n. (receiver n).phase;
  from = λ n. (receiver n).from;
  gone = λ n. (receiver n).gone;
  locks = three_of locks;
}

-- the receivers after a death: the dead node's is new, and the others hear of it where its message was published
abbrev pub heard_by_all : (ℕ → SenderPhase) → (ℕ → Receiving) → ℕ → ℕ → Receiving
heard_by_all sender receiver n m =
    if m == n then new_receiving else if has_published (sender n) then heard_death n (receiver m) else receiver m

-- the event, with what it answers
abbrev pub entry_of : Rounds → Event → Entry
entry_of w e = record { event = e; answer = answer_to w e }

-- the entries are accepted, and lead to these rounds
pub record Reaches (members : ℕ → Bool) (past : List Entry) (w : Rounds) : Type 0 where
  pub accepted : AreAccepted members past
  pub leads : rounds_after members past ≡ w
