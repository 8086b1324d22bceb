-- What the invariant tells of an open round.
use Rattle.std.proofs.Common.{◌≡◌, ◌⊎◌, inl, inr, ℕ, Bool, true, false, Option, Some, List, [], ◌∷◌, refl, arith}
use Rattle.dlm_modes.specs.declared.mode.Mode.{Mode}
use Rattle.dlm_modes.specs.declared.mode.Mode.TheVariants.{CR, PR, EX}
use Rattle.dlm_space.specs.Queues.{asks_of}
use Rattle.dlm_space.specs.Orderly.{agree}
use Rattle.dlm_space.specs.Locks.{disagrees}
use Rattle.dlm_space.specs.declared.ask.Ask.{Ask}
use Rattle.mdc_types.specs.declared.roles.NodeState.{NodeState}
use Rattle.mdc_types.specs.declared.roles.NodeState.TheVariants as states
use Rattle.msg_rounds.specs.Holds.{holds_token, message_conversion, ack_conversion}
use Rattle.msg_rounds.specs.Phases.{has_processed, may_receive, has_published}
use Rattle.msg_rounds.specs.declared.phases.SenderPhase.{SenderPhase}
use Rattle.msg_rounds.specs.declared.phases.SenderPhase.TheVariants as senders
use Rattle.msg_rounds.specs.declared.phases.ReceiverPhase.{ReceiverPhase}
use Rattle.msg_rounds.specs.declared.phases.ReceiverPhase.TheVariants as receivers
use Rattle.laws_rounds.specs.Machine.{Rounds, Entry, is_in}
use Rattle.laws_rounds.specs.Invariants.{Inv, message_fits, ack_fits, fits}

-- who asks stands in the queue
pub asked_in : (n : ℕ) (mode : Mode) (queue : List Ask) → asks_of n queue ≡ mode ∷ [] → (a : Ask) × (rest : List Ask) × (queue ≡ a ∷ rest)
asked_in n mode [] is = cc
asked_in n mode (a ∷ rest) is = (a, rest, refl)

-- the head of a queue asks
pub head_asks : (a : Ask) (rest : List Ask) → asks_of a.node (a ∷ rest) ≡ a.mode ∷ asks_of a.node rest
head_asks a rest = grind arith

pub ack_asker : (s : SenderPhase) (held : Option Mode) (mode : Mode) (modes : List Mode) → mode ∷ modes ≡ ack_conversion s held → (s ≡ senders.Published) × (held ≡ Some CR) × (mode ≡ EX)
ack_asker s held mode modes is = grind arith

pub message_asker : (r : ReceiverPhase) (held : Option Mode) (mode : Mode) (modes : List Mode) → mode ∷ modes ≡ message_conversion r held → (r ≡ receivers.Waiting) × (held ≡ Some CR) × (mode ≡ PR)
message_asker r held mode modes is = grind arith

pub published_holds : (state : NodeState) (s : SenderPhase) (held : Option Mode) → fits state s ≡ true → s ≡ senders.Published → ack_fits (is_in state) s receivers.Idle held ≡ true → (held ≡ Some CR) ⊎ (held ≡ Some EX)
published_holds state s held f is h = grind arith

-- two senders that have published are one
pub published_once : (past : List Entry) (members : ℕ → Bool) (w : Rounds) (n m : ℕ) → Inv w members past → has_published (w.sender n) ≡ true → has_published (w.sender m) ≡ true → n ≡ m
published_once past members w n m i p q = grind (arith, i.told.fate_open n p, i.told.fate_open m q)

-- who stands in the way of a published message
pub in_the_way : (state : NodeState) (s : SenderPhase) (r : ReceiverPhase) (held : Option Mode) → ack_fits (is_in state) s r held ≡ true → has_published s ≡ false → disagrees EX held ≡ true → (is_in state ≡ true) × (has_processed r ≡ false) × (held ≡ Some CR)
in_the_way state s r held h p d = grind arith

-- a node that comes in holds `token`, as the sender does
pub comes_alone : (state : NodeState) (s : SenderPhase) (here there : Option Mode) → fits state s ≡ true → is_in state ≡ true → holds_token s here ≡ true → there ≡ Some EX → agree there here ≡ true → state ≡ states.Up
comes_alone state s here there f i h t a = grind arith

pub published_token : (s : SenderPhase) (held : Option Mode) → has_published s ≡ true → holds_token s held ≡ true → held ≡ Some EX
published_token s held p h = grind arith

pub idle_or_taken : (r : ReceiverPhase) → has_processed r ≡ false → (r ≡ receivers.Idle) ⊎ (r ≡ receivers.Taken)
idle_or_taken receivers.Idle e = inl refl
idle_or_taken receivers.Taken e = inr refl
idle_or_taken receivers.Waiting e = cc
idle_or_taken receivers.Ready e = cc

-- what a node that waits holds on `message`
pub waiting_holds : (s : SenderPhase) (r : ReceiverPhase) (held : Option Mode) → message_fits s r held ≡ true → may_receive s ≡ true → r ≡ receivers.Waiting → (held ≡ Some CR) ⊎ (held ≡ Some PR)
waiting_holds s r held h m is = grind arith

pub ready_holds : (s : SenderPhase) (r : ReceiverPhase) (held : Option Mode) → message_fits s r held ≡ true → may_receive s ≡ true → r ≡ receivers.Ready → held ≡ Some PR
ready_holds s r held h m is = grind arith

-- what disagrees with PR and agrees with CR is the CW of a published message
pub cw_of_published : (s : SenderPhase) (r : ReceiverPhase) (held : Option Mode) → message_fits s r held ≡ true → disagrees PR held ≡ true → agree (Some CR) held ≡ true → has_published s ≡ true
cw_of_published s r held h d a = grind arith
