-- What holds of the rounds at each place of a run, and is kept by each event.
use Rattle.std.specs.Prelude.{◌≡◌, ◌≢◌, ℕ, ◌≤◌, ◌==◌, Bool, true, false, is_none, if◌then◌else◌, List, [], ◌∷◌, Option, Some, None}
use Rattle.dlm_modes.specs.declared.mode.Mode.{Mode}
use Rattle.dlm_space.specs.Queues.{asks_of}
use Rattle.dlm_space.specs.Orderly.{agree}
use Rattle.mdc_types.specs.declared.roles.NodeState.{NodeState}
use Rattle.mdc_types.specs.declared.roles.NodeState.TheVariants as states
use Rattle.msg_rounds.specs.Holds.{holds_token, token_request, sends_by_message, message_request, receives_by_message, message_conversion, sends_by_ack, ack_conversion}
use Rattle.msg_rounds.specs.Locks.{token_res, message_res, ack_res}
use Rattle.msg_rounds.specs.Phases.{is_idle, has_processed, may_receive, has_published}
use Rattle.msg_rounds.specs.declared.phases.SenderPhase.{SenderPhase}
use Rattle.msg_rounds.specs.declared.phases.SenderPhase.TheVariants as senders
use Rattle.msg_rounds.specs.declared.phases.ReceiverPhase.{ReceiverPhase}
use Rattle.msg_rounds.specs.declared.phases.ReceiverPhase.TheVariants as receivers
use Rattle.laws_rounds.specs.Machine.{Rounds, Entry, is_up, is_in}
use Rattle.laws_rounds.specs.Sound.{Tops}
use Rattle.laws_rounds.specs.Traces.{Said, Fate, NotYet, Open, Finished, SenderDied, Deed, Taking, Processing, fate_in, said_in, published_in, taken_in, deeds_in, up_in, addressed_in}

abbrev pub IsApart : (ℕ → Option Mode) → Type 0
IsApart held = (n m : ℕ) → n ≢ m → agree (held n) (held m) ≡ true

-- any two holders agree
pub record Apart (w : Rounds) : Type 0 where
  pub token : IsApart (w.locks token_res).held
  pub message : IsApart (w.locks message_res).held
  pub ack : IsApart (w.locks ack_res).held

abbrev pub message_fits : SenderPhase → ReceiverPhase → Option Mode → Bool
message_fits s r held = if may_receive s then receives_by_message r held else sends_by_message s held

abbrev pub ack_fits : Bool → SenderPhase → ReceiverPhase → Option Mode → Bool
ack_fits false s r held = is_none held
ack_fits true s r held = if has_processed r then is_none held else sends_by_ack s held

-- what each node holds, by its phases
pub record Held (w : Rounds) : Type 0 where
  pub token : (n : ℕ) → holds_token (w.sender n) ((w.locks token_res).held n) ≡ true
  pub message : (n : ℕ) → message_fits (w.sender n) (w.receiver n) ((w.locks message_res).held n) ≡ true
  pub ack : (n : ℕ) → ack_fits (is_in (w.state n)) (w.sender n) (w.receiver n) ((w.locks ack_res).held n) ≡ true

-- what each node asks, by its phases and what it holds
pub record Queues (w : Rounds) : Type 0 where
  pub token_requests : (n : ℕ) → asks_of n (w.locks token_res).requests ≡ token_request (w.sender n) ((w.locks token_res).held n)
  pub token_conversions : (w.locks token_res).conversions ≡ []
  pub message_requests : (n : ℕ) → asks_of n (w.locks message_res).requests ≡ message_request (w.sender n) ((w.locks message_res).held n)
  pub message_conversions : (n : ℕ) → asks_of n (w.locks message_res).conversions ≡ message_conversion (w.receiver n) ((w.locks message_res).held n)
  pub ack_requests : (w.locks ack_res).requests ≡ []
  pub ack_conversions : (n : ℕ) → asks_of n (w.locks ack_res).conversions ≡ ack_conversion (w.sender n) ((w.locks ack_res).held n)

-- what a sender may be doing in a state
abbrev pub fits : NodeState → SenderPhase → Bool
fits states.Out senders.Idle = true
fits states.Out s = false
fits states.Joining senders.TokenAsked = true
fits states.Joining senders.TokenHeld = true
fits states.Joining s = false
fits states.Loaded senders.Idle = false
fits states.Loaded senders.TokenAsked = false
fits states.Loaded s = true
fits states.Up s = true

pub record Members (w : Rounds) : Type 0 where
  pub fitting : (n : ℕ) → fits (w.state n) (w.sender n) ≡ true
  pub idle : (n : ℕ) → is_up (w.state n) ≡ false → w.receiver n ≡ receivers.Idle
  -- who sends doesn't receive
  pub sending : (n : ℕ) → may_receive (w.sender n) ≡ false → w.receiver n ≡ receivers.Idle
  pub below : (n : ℕ) → 16 ≤ n → w.state n ≡ states.Out

abbrev pub is_published_fate : Fate → Bool
is_published_fate NotYet = false
is_published_fate fate = true

abbrev pub is_finished_fate : Fate → Bool
is_finished_fate Finished = true
is_finished_fate fate = false

abbrev pub is_dead_fate : Fate → Bool
is_dead_fate SenderDied = true
is_dead_fate fate = false

abbrev pub sender_said : Option Said → ℕ → Bool
sender_said None n = false
sender_said (Some said) n = said.sender == n

-- what a receiver in this phase has done with the message
abbrev pub deeds_of : ReceiverPhase → List Deed
deeds_of receivers.Idle = []
deeds_of receivers.Taken = Taking ∷ []
deeds_of r = Processing ∷ Taking ∷ []

-- the rounds, by what the entries tell
pub record Told (w : Rounds) (members : ℕ → Bool) (past : List Entry) : Type 0 where
  pub fate_open : (n : ℕ) → has_published (w.sender n) ≡ true → fate_in past ≡ Open n
  pub open_fate : (n : ℕ) → fate_in past ≡ Open n → has_published (w.sender n) ≡ true
  pub block : (n : ℕ) → has_published (w.sender n) ≡ true → said_in past ≡ Some (record { sender = n; block = (w.locks message_res).block })
  pub valid : (n : ℕ) → has_published (w.sender n) ≡ true → (w.locks message_res).valid ≡ true
  pub some_round : (m : ℕ) → is_idle (w.receiver m) ≡ false → is_published_fate (fate_in past) ≡ true
  pub from : (m : ℕ) → is_idle (w.receiver m) ≡ false → sender_said (said_in past) (w.from m) ≡ true
  pub gone : (m : ℕ) → is_idle (w.receiver m) ≡ false → w.gone m ≡ is_dead_fate (fate_in past)
  pub last : (m : ℕ) → is_idle (w.receiver m) ≡ false → Tops (taken_in past m) (published_in past)
  pub taken : (m : ℕ) → w.receiver m ≡ receivers.Taken → is_finished_fate (fate_in past) ≡ false
  pub up : (m : ℕ) → up_in members past m ≡ is_up (w.state m)
  pub addressed : (n m : ℕ) → has_published (w.sender n) ≡ true → m ≢ n → w.state m ≡ states.Up → addressed_in members past m ≡ true
  pub deeds : (n m : ℕ) → has_published (w.sender n) ≡ true → m ≢ n → w.state m ≡ states.Up → deeds_in past m ≡ deeds_of (w.receiver m)

pub record Inv (w : Rounds) (members : ℕ → Bool) (past : List Entry) : Type 0 where
  pub apart : Apart w
  pub held : Held w
  pub queues : Queues w
  pub members_are : Members w
  pub told : Told w members past
