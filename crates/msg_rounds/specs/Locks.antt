-- What the calls of a round do to the lock space. Each touches `token`, `message` and `ack` alone.
use Rattle.std.specs.Prelude.{ℕ, if◌then◌else◌, Some}
use Rattle.dlm_modes.specs.Points.{with_at}
use Rattle.dlm_modes.specs.declared.block.Block.{Block}
use Rattle.dlm_modes.specs.declared.mode.Mode.TheVariants.{CR, CW, PR, EX}
use Rattle.mdc_types.specs.Resources.{number_of}
use Rattle.mdc_types.specs.declared.resources.Res.TheVariants as resources
use Rattle.dlm_space.specs.Locks.{Lock, holding, with_value, asked, queued, let_go}
use Rattle.msg_rounds.specs.Phases.{has_message}
use Rattle.msg_rounds.specs.declared.phases.SenderPhase.{SenderPhase}

abbrev pub token_res : ℕ
token_res = number_of resources.Token

abbrev pub message_res : ℕ
message_res = number_of resources.Message

abbrev pub ack_res : ℕ
ack_res = number_of resources.Ack

-- a request for EX waits
abbrev pub token_asked : (ℕ → Lock) → ℕ → ℕ → Lock
token_asked locks n = with_at locks token_res (asked (locks token_res) n EX)

abbrev pub message_asked : (ℕ → Lock) → ℕ → ℕ → Lock
message_asked locks n = with_at locks message_res (asked (locks message_res) n EX)

-- `message` goes from EX to CW and the block is written there; EX is asked on `ack`
abbrev pub published : (ℕ → Lock) → ℕ → Block → ℕ → Lock
published locks n block = with_at (with_at locks message_res (holding (with_value (locks message_res) (Some block)) n CW)) ack_res (queued (locks ack_res) n EX)

-- `ack` goes from EX to CR; `message` and `token` are let go
abbrev pub finished : (ℕ → Lock) → ℕ → ℕ → Lock
finished locks n = with_at (with_at (with_at locks ack_res (holding (locks ack_res) n CR)) message_res (let_go (locks message_res) n)) token_res (let_go (locks token_res) n)

-- `message`, where it is held, and `token` are let go
abbrev pub quitted : (ℕ → Lock) → ℕ → SenderPhase → ℕ → Lock
quitted locks n s = with_at (if has_message s then with_at locks message_res (let_go (locks message_res) n) else locks) token_res (let_go (locks token_res) n)

-- CR on `message` at once
abbrev pub message_taken : (ℕ → Lock) → ℕ → ℕ → Lock
message_taken locks n = with_at locks message_res (holding (locks message_res) n CR)

-- `ack` is let go, and PR is asked on `message`
abbrev pub message_processed : (ℕ → Lock) → ℕ → ℕ → Lock
message_processed locks n = with_at (with_at locks ack_res (let_go (locks ack_res) n)) message_res (queued (locks message_res) n PR)

-- CR on `ack` at once, and `message` is let go
abbrev pub resumed : (ℕ → Lock) → ℕ → ℕ → Lock
resumed locks n = with_at (with_at locks ack_res (holding (locks ack_res) n CR)) message_res (let_go (locks message_res) n)

-- `message` is let go
abbrev pub message_dropped : (ℕ → Lock) → ℕ → ℕ → Lock
message_dropped locks n = with_at locks message_res (let_go (locks message_res) n)
