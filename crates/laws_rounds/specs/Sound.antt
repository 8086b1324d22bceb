-- What is said of message rounds, over every list of accepted events.
use Rattle.std.specs.Prelude.{◌≡◌, ◌≢◌, ◌⊎◌, ℕ, ◌<◌, ◌≤◌, Bool, true, false, if◌then◌else◌, List, [], ◌∷◌, Some, None}
use Rattle.std.specs.Option.{option_map}
use Rattle.dlm_modes.specs.declared.mode.Mode.TheVariants.{CR, EX}
use Rattle.dlm_space.specs.Locks.{Lock}
use Rattle.mdc_types.specs.declared.roles.NodeState.TheVariants as states
use Rattle.msg_rounds.specs.Holds.{HasJust, NodeHolds, MayTake, MayResume}
use Rattle.msg_rounds.specs.Locks.{token_res, message_res, ack_res}
use Rattle.msg_rounds.specs.Phases.{is_idle, may_receive, has_published}
use Rattle.msg_rounds.specs.Refusals.{take_refusal, resume_refusal}
use Rattle.msg_rounds.specs.declared.phases.ReceiverPhase.TheVariants as receivers
use Rattle.msg_rounds.specs.declared.phases.SenderPhase.TheVariants as senders
use Rattle.msg_rounds.specs.declared.phases.Verdict.{Verdict}
use Rattle.msg_rounds.specs.declared.phases.Verdict.TheVariants.{Whole, Broken}
use Rattle.laws_rounds.specs.Machine.{Rounds, Event, ComeIn, Finish, Take, Resume, Answer, Message, Ended, Entry, May, is_up, is_in, receiving, rounds_after, AreAccepted}
use Rattle.laws_rounds.specs.Traces.{Fate, Open, SenderDied, Taking, Processing, fate_in, said_in, published_in, taken_in, deeds_in, up_in, addressed_in}

-- the number stands first in the list
abbrev pub Tops : List ℕ → ℕ → Type 0
Tops [] k = ⊥
Tops (j ∷ rest) k = j ≡ k

-- each number is greater than all after it
abbrev pub Falls : List ℕ → Type 0
Falls [] = Unit {0}
Falls (k ∷ []) = Unit {0}
Falls (k ∷ j ∷ rest) = (j < k) × Falls (j ∷ rest)

abbrev pub verdict_of : Fate → Verdict
verdict_of SenderDied = Broken
verdict_of fate = Whole

-- who takes gets the last message
abbrev pub IsTaken : Answer → List Entry → Type 0
IsTaken (Message sender block) past = said_in past ≡ Some (record { sender = sender; block = block })
IsTaken answer past = ⊥

-- who resumes is told whole, and broken exactly where the sender died after its publish and before its finish. The
-- message is the one that it took last, and that is the last one
abbrev pub IsEnded : Answer → List Entry → ℕ → Type 0
IsEnded (Ended verdict) past n = (verdict ≡ verdict_of (fate_in past)) × (Tops (taken_in past n) (published_in past))
IsEnded answer past n = ⊥

-- who finishes is the sender of the last message, and each node that was up at its publish and is up now, but the
-- sender, has since taken it once and then processed it once
abbrev pub IsFinished : (ℕ → Bool) → List Entry → ℕ → Type 0
IsFinished members past n =
    (fate_in past ≡ Open n)
    × ((m : ℕ) → addressed_in members past m ≡ true → up_in members past m ≡ true → deeds_in past m ≡ Processing ∷ Taking ∷ [])

abbrev pub IsRightAt : (ℕ → Bool) → List Entry → Event → Answer → Type 0
IsRightAt members past (Take n) answer = IsTaken answer past
IsRightAt members past (Finish n) answer = IsFinished members past n
IsRightAt members past (Resume n) answer = IsEnded answer past n
IsRightAt members past e answer = Unit {0}

abbrev pub AreRight : (ℕ → Bool) → List Entry → Type 0
AreRight members [] = Unit {0}
AreRight members (entry ∷ past) = AreRight members past × IsRightAt members past entry.event entry.answer

-- what coming in needs: nothing is held or asked on `ack`, and CR can be taken there at once
pub record MayComeIn (locks : ℕ → Lock) (n : ℕ) : Type 0 where
  pub free : HasJust (locks ack_res) n None [] []
  pub takeable : (m : ℕ) → m ≢ n → (locks ack_res).held m ≢ Some EX

-- what a node's state tells of its phases and of `ack`
pub record StateHolds (w : Rounds) (n : ℕ) : Type 0 where
  -- who is out sends nothing, and who isn't up receives nothing
  pub out : w.state n ≡ states.Out → w.sender n ≡ senders.Idle
  pub still : is_up (w.state n) ≡ false → w.receiver n ≡ receivers.Idle
  -- who is out or joins has nothing on `ack`
  pub absent : is_in (w.state n) ≡ false → HasJust (w.locks ack_res) n None [] []
  -- who joins holds `token`, or asks it, and who is loaded holds it
  pub joining : w.state n ≡ states.Joining → HasJust (w.locks token_res) n (Some EX) [] [] ⊎ HasJust (w.locks token_res) n None (EX ∷ []) []
  pub loaded : w.state n ≡ states.Loaded → HasJust (w.locks token_res) n (Some EX) [] []
  pub beyond : 16 ≤ n → w.state n ≡ states.Out
  -- who is loaded or up, has nothing of `message` yet and receives nothing holds CR there
  pub calm : is_in (w.state n) ≡ true → may_receive (w.sender n) ≡ true → is_idle (w.receiver n) ≡ true → HasJust (w.locks ack_res) n (Some CR) [] []

-- what the entries tell of a node's sender
pub record SenderSound (w : Rounds) (past : List Entry) (n : ℕ) : Type 0 where
  -- who sends doesn't receive
  pub sending : may_receive (w.sender n) ≡ false → w.receiver n ≡ receivers.Idle
  -- a sender is published or granted exactly where the last message is its own and open
  pub published : has_published (w.sender n) ≡ true → fate_in past ≡ Open n
  pub is_open : fate_in past ≡ Open n → has_published (w.sender n) ≡ true
  -- and then that message is the block of `message`, which is valid
  pub said : has_published (w.sender n) ≡ true → said_in past ≡ Some (record { sender = n; block = (w.locks message_res).block })
  pub valid : has_published (w.sender n) ≡ true → (w.locks message_res).valid ≡ true

-- what they tell of its receiver, where it isn't idle: it has the last message, knows from whom that is, and was told
-- where the sender died before its finish
pub record ReceiverSound (w : Rounds) (past : List Entry) (n : ℕ) : Type 0 where
  pub last : is_idle (w.receiver n) ≡ false → Tops (taken_in past n) (published_in past)
  pub from : is_idle (w.receiver n) ≡ false → option_map (λ s. s.sender) (said_in past) ≡ Some (w.from n)
  pub told : is_idle (w.receiver n) ≡ false → (if w.gone n then Broken else Whole) ≡ verdict_of (fate_in past)

-- what holds of the rounds at any place
pub record SoundAt (w : Rounds) (members : ℕ → Bool) (past : List Entry) : Type 0 where
  -- what the calls of a sender and a receiver ask of the locks holds wherever they are made
  pub holds : (n : ℕ) → NodeHolds w.locks n (w.sender n) (w.receiver n)
  pub may_take : (n : ℕ) → take_refusal w.locks n (receiving w n) ≡ None → MayTake w.locks n
  pub may_resume : (n : ℕ) → resume_refusal w.locks n (receiving w n) ≡ None → MayResume w.locks n
  pub may_come_in : (n : ℕ) → May w (ComeIn n) → MayComeIn w.locks n
  pub states_hold : (n : ℕ) → StateHolds w n
  -- who is up, and what the senders and receivers stand for
  pub up : (n : ℕ) → up_in members past n ≡ is_up (w.state n)
  pub senders : (n : ℕ) → SenderSound w past n
  pub receivers : (n : ℕ) → ReceiverSound w past n

pub record RoundSound (members : ℕ → Bool) (past : List Entry) : Type 0 where
  pub right : AreRight members past
  -- no node takes a message twice, and each takes them in the order of their publishes
  pub order : (n : ℕ) → Falls (taken_in past n)
  pub place : SoundAt (rounds_after members past) members past

abbrev pub RoundsAreSound : Type 0
RoundsAreSound = (members : ℕ → Bool) (past : List Entry) → AreAccepted members past → RoundSound members past
