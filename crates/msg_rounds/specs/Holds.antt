-- What the phases of a node say of the locks that it holds and asks on `token`, `message` and `ack`.
-- A lock that is asked may be granted already: the phase moves on when its node is told.
use Rattle.std.specs.Prelude.{◌≡◌, ◌≢◌, ℕ, Bool, true, false, is_none, List, [], ◌∷◌, Option, Some, None}
use Rattle.dlm_modes.specs.declared.mode.Mode.{Mode}
use Rattle.dlm_modes.specs.declared.mode.Mode.TheVariants.{CR, CW, PR, EX}
use Rattle.dlm_space.specs.Queues.{asks_of}
use Rattle.dlm_space.specs.Locks.{Lock}
use Rattle.msg_rounds.specs.Locks.{token_res, message_res, ack_res}
use Rattle.msg_rounds.specs.Phases.{is_idle, may_receive}
use Rattle.msg_rounds.specs.declared.phases.SenderPhase.{SenderPhase}
use Rattle.msg_rounds.specs.declared.phases.SenderPhase.TheVariants as senders
use Rattle.msg_rounds.specs.declared.phases.ReceiverPhase.{ReceiverPhase}
use Rattle.msg_rounds.specs.declared.phases.ReceiverPhase.TheVariants as receivers

-- the node holds this on `token`: EX from token-held on
abbrev pub holds_token : SenderPhase → Option Mode → Bool
holds_token senders.Idle held = is_none held
holds_token senders.TokenAsked None = true
holds_token s (Some EX) = true
holds_token s held = false

abbrev pub token_request : SenderPhase → Option Mode → List Mode
token_request senders.TokenAsked None = EX ∷ []
token_request s held = []

-- what a sender that may not receive holds on `message`: EX up to its publish, then CW
abbrev pub sends_by_message : SenderPhase → Option Mode → Bool
sends_by_message senders.MessageAsked None = true
sends_by_message senders.MessageAsked (Some EX) = true
sends_by_message senders.MessageHeld (Some EX) = true
sends_by_message senders.Offered (Some EX) = true
sends_by_message senders.Published (Some CW) = true
sends_by_message senders.Granted (Some CW) = true
sends_by_message s held = false

abbrev pub message_request : SenderPhase → Option Mode → List Mode
message_request senders.MessageAsked None = EX ∷ []
message_request s held = []

-- what a receiver holds on `message`: CR when it takes, PR when it has processed and is told
abbrev pub receives_by_message : ReceiverPhase → Option Mode → Bool
receives_by_message receivers.Idle held = is_none held
receives_by_message receivers.Taken (Some CR) = true
receives_by_message receivers.Waiting (Some CR) = true
receives_by_message receivers.Waiting (Some PR) = true
receives_by_message receivers.Ready (Some PR) = true
receives_by_message r held = false

abbrev pub message_conversion : ReceiverPhase → Option Mode → List Mode
message_conversion receivers.Waiting (Some CR) = PR ∷ []
message_conversion r held = []

-- what a sender in the round holds on `ack`: CR up to its publish, then EX when all have processed
abbrev pub sends_by_ack : SenderPhase → Option Mode → Bool
sends_by_ack senders.Published (Some CR) = true
sends_by_ack senders.Published (Some EX) = true
sends_by_ack senders.Published held = false
sends_by_ack senders.Granted (Some EX) = true
sends_by_ack senders.Granted held = false
sends_by_ack s (Some CR) = true
sends_by_ack s held = false

abbrev pub ack_conversion : SenderPhase → Option Mode → List Mode
ack_conversion senders.Published (Some CR) = EX ∷ []
ack_conversion s held = []

-- what a receiver holds on `ack`: CR, and nothing from its `processed` to its `resume`
abbrev pub receives_by_ack : ReceiverPhase → Option Mode → Bool
receives_by_ack receivers.Waiting held = is_none held
receives_by_ack receivers.Ready held = is_none held
receives_by_ack r (Some CR) = true
receives_by_ack r held = false

-- what the node holds and asks of a lock
abbrev pub HasJust : Lock → ℕ → Option Mode → List Mode → List Mode → Type 0
HasJust lock n held requests conversions = (lock.held n ≡ held) × (asks_of n lock.requests ≡ requests) × (asks_of n lock.conversions ≡ conversions)

-- the locks that a sender's phase names
pub record SenderHolds (locks : ℕ → Lock) (n : ℕ) (s : SenderPhase) : Type 0 where
  pub token : holds_token s ((locks token_res).held n) ≡ true
  pub token_requests : asks_of n (locks token_res).requests ≡ token_request s ((locks token_res).held n)
  pub token_conversions : asks_of n (locks token_res).conversions ≡ []
  pub message : may_receive s ≡ false → sends_by_message s ((locks message_res).held n) ≡ true
  pub message_requests : may_receive s ≡ false → asks_of n (locks message_res).requests ≡ message_request s ((locks message_res).held n)
  pub message_conversions : may_receive s ≡ false → asks_of n (locks message_res).conversions ≡ []
  pub ack : may_receive s ≡ false → sends_by_ack s ((locks ack_res).held n) ≡ true
  pub ack_requests : may_receive s ≡ false → asks_of n (locks ack_res).requests ≡ []
  pub ack_conversions : may_receive s ≡ false → asks_of n (locks ack_res).conversions ≡ ack_conversion s ((locks ack_res).held n)

-- the locks that a receiver's phase names
pub record ReceiverHolds (locks : ℕ → Lock) (n : ℕ) (r : ReceiverPhase) : Type 0 where
  pub message : is_idle r ≡ false → receives_by_message r ((locks message_res).held n) ≡ true
  pub message_requests : is_idle r ≡ false → asks_of n (locks message_res).requests ≡ []
  pub message_conversions : is_idle r ≡ false → asks_of n (locks message_res).conversions ≡ message_conversion r ((locks message_res).held n)
  pub ack : is_idle r ≡ false → receives_by_ack r ((locks ack_res).held n) ≡ true
  pub ack_requests : is_idle r ≡ false → asks_of n (locks ack_res).requests ≡ []
  pub ack_conversions : is_idle r ≡ false → asks_of n (locks ack_res).conversions ≡ []

-- the locks that both phases of a node name. A node that neither sends nor receives has nothing on `message`
pub record NodeHolds (locks : ℕ → Lock) (n : ℕ) (s : SenderPhase) (r : ReceiverPhase) : Type 0 where
  pub sender : SenderHolds locks n s
  pub receiver : ReceiverHolds locks n r
  pub calm : may_receive s ≡ true → is_idle r ≡ true → HasJust (locks message_res) n None [] []

-- what `take` needs besides, where `ack` calls the node: the message can be read at once
pub record MayTake (locks : ℕ → Lock) (n : ℕ) : Type 0 where
  pub free : HasJust (locks message_res) n None [] []
  pub readable : (m : ℕ) → m ≢ n → (locks message_res).held m ≢ Some EX
  pub valid : (locks message_res).valid ≡ true

-- what `resume` needs besides, where the node has PR on `message`: `ack` can be taken at once
pub record MayResume (locks : ℕ → Lock) (n : ℕ) : Type 0 where
  pub takeable : (m : ℕ) → m ≢ n → (locks ack_res).held m ≢ Some EX
