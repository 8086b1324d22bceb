-- The events whose effect looks something up, with what they find.
use Rattle.std.specs.Prelude.{ℕ, Bool, true, false, if◌then◌else◌, List, Some}
use Rattle.dlm_modes.specs.Points.{with_at}
use Rattle.dlm_modes.specs.declared.mode.Mode.TheVariants.{PR, EX}
use Rattle.dlm_space.specs.declared.ask.Ask.{Ask}
use Rattle.dlm_space.specs.Locks.{Lock, let_go}
use Rattle.mdc_types.specs.declared.roles.NodeState.{NodeState}
use Rattle.mdc_types.specs.declared.roles.NodeState.TheVariants as states
use Rattle.msg_rounds.specs.Locks.{token_res, message_res, ack_res, message_taken}
use Rattle.msg_rounds.specs.declared.phases.SenderPhase.{SenderPhase}
use Rattle.msg_rounds.specs.declared.phases.SenderPhase.TheVariants as senders
use Rattle.msg_rounds.specs.declared.phases.ReceiverPhase.TheVariants as receivers
use Rattle.laws_rounds.specs.Machine.{Rounds, quit_state}

-- a node that doesn't hold `token` and was not told that it does
abbrev pub lacks_token : SenderPhase → Bool
lacks_token senders.Idle = true
lacks_token senders.TokenAsked = true
lacks_token s = false

abbrev pub take_from : Rounds → ℕ → ℕ → Rounds
take_from w n p = record w { receiver = with_at w.receiver n receivers.Taken; from = with_at w.from n p; gone = with_at w.gone n false; locks = message_taken w.locks n }

abbrev pub quit_locks_with : NodeState → (ℕ → Lock) → ℕ → Bool → ℕ → Lock
quit_locks_with states.Up locks n has = with_at (if has then with_at locks message_res (let_go (locks message_res) n) else locks) token_res (let_go (locks token_res) n)
quit_locks_with state locks n has = with_at (with_at (if has then with_at locks message_res (let_go (locks message_res) n) else locks) token_res (let_go (locks token_res) n)) ack_res (let_go (locks ack_res) n)

abbrev pub quit_with : Rounds → ℕ → NodeState → Bool → Rounds
quit_with w n state has = record w { state = with_at w.state n (quit_state state); sender = with_at w.sender n senders.Idle; locks = quit_locks_with state w.locks n has }

abbrev pub token_served : Rounds → ℕ → List Ask → Rounds
token_served w p rest = record w { locks = with_at w.locks token_res (record (w.locks token_res) { held = with_at (w.locks token_res).held p (Some EX); requests = rest }) }

abbrev pub message_converted : Rounds → ℕ → List Ask → Rounds
message_converted w p rest = record w { locks = with_at w.locks message_res (record (w.locks message_res) { held = with_at (w.locks message_res).held p (Some PR); conversions = rest }) }

abbrev pub message_served : Rounds → ℕ → List Ask → Rounds
message_served w p rest = record w { locks = with_at w.locks message_res (record (w.locks message_res) { held = with_at (w.locks message_res).held p (Some EX); requests = rest }) }

abbrev pub ack_converted : Rounds → ℕ → List Ask → Rounds
ack_converted w p rest = record w { locks = with_at w.locks ack_res (record (w.locks ack_res) { held = with_at (w.locks ack_res).held p (Some EX); conversions = rest }) }
