-- The receiver of a message: `take`, `resume`, `drop`.
use Rattle.std.specs.Prelude.{ℕ, Bool, true, false, not, ◌&&◌, is_some, List, []}
use Rattle.std.specs.Prelude.{◌∷◌, Option, Some, None, unwrap_or, if◌then◌else◌}
use Rattle.dlm_modes.specs.Guards.{unless}
use Rattle.dlm_modes.specs.Points.{with_at}
use Rattle.mdc_types.specs.declared.outcomes.Outcome.{Outcome}
use Rattle.mdc_types.specs.declared.outcomes.Outcome.TheVariants.{Message, Whole, Broken}
use Rattle.mdc_types.specs.declared.refusals.Refusal.{Refusal}
use Rattle.mdc_types.specs.declared.refusals.Refusal.TheVariants.{NotCalled}
use Rattle.mdc_types.specs.declared.refusals.Refusal.TheVariants.{SenderLive, NotGranted}
use Rattle.mdc_types.specs.declared.resources.Res.TheVariants as resources
use Rattle.dlm_space.specs.Locks.{caller}
use Rattle.cluster_msgs.specs.Messages.{kind_of}
use Rattle.cluster_msgs.specs.Reading.{message_in}
use Rattle.cluster_msgs.specs.declared.msg.Body.{Body}
use Rattle.cluster_msgs.specs.declared.msg.Body.TheVariants as bodies
use Rattle.cluster_msgs.specs.declared.msg.Msg.{Msg}
use Rattle.msg_rounds.specs.Locks.{message_res, ack_res, message_taken, resumed}
use Rattle.msg_rounds.specs.Locks.{message_dropped}
use Rattle.msg_rounds.specs.Phases.{is_idle, taken, now_in}
use Rattle.msg_rounds.specs.Refusals.{is_taken, is_pr, may_resume}
use Rattle.msg_rounds.specs.declared.phases.ReceiverPhase.{ReceiverPhase}
use Rattle.msg_rounds.specs.declared.phases.ReceiverPhase.TheVariants as receivers
use Rattle.leg_failure.specs.Views.{acknowledged}
use Rattle.cluster_model.specs.State.{Core}
use Rattle.cluster_model.specs.Guards.{of_live}
use Rattle.cluster_model.specs.Phases.{needs_up, receiver_is}

abbrev pub receiver_now : Core → ℕ → ReceiverPhase → Core
receiver_now core n r =
    record core { receiver = with_at core.receiver n (now_in r (core.receiver n)) }

-- the receiver is idle, and its message forgotten
abbrev pub receiver_idle : Core → ℕ → Core
receiver_idle core n =
    record (receiver_now core n receivers.Idle) { heard = with_at core.heard n None }

-- `take n`: the message of the node that calls on `ack` is read

abbrev pub take_guards : Core → ℕ → List (Option Refusal)
take_guards core n = of_live core n (
    needs_up core n
    ∷ receiver_is core n (is_idle (core.receiver n).phase)
    ∷ unless (is_some (caller (core.locks ack_res) n)) NotCalled
    ∷ [])

abbrev pub called_by : Core → ℕ → ℕ
called_by core n = unwrap_or (caller (core.locks ack_res) n) 0

abbrev pub published_message : Core → Option Msg
published_message core = message_in (core.locks message_res).block.bytes

abbrev pub take : Core → ℕ → Core
take core n = record core {
  receiver = with_at core.receiver n (taken (called_by core n));
  heard = with_at core.heard n (published_message core);
  locks = message_taken core.locks n;
}

abbrev pub kind_in : Option Msg → ℕ
kind_in None = 0
kind_in (Some m) = kind_of m.body

abbrev pub take_outcome : Core → ℕ → Outcome
take_outcome core n = Message (kind_in (published_message core)) (called_by core n)

-- `resume n`: the round is over for the receiver

abbrev pub resume_guards : Core → ℕ → List (Option Refusal)
resume_guards core n = of_live core n (
    receiver_is core n (may_resume (core.receiver n).phase)
    ∷ unless (is_pr ((core.locks message_res).held n)) (NotGranted resources.Message)
    ∷ [])

abbrev pub is_state_body : Body → Bool
is_state_body (bodies.Metadata events roles size) = true
is_state_body (bodies.Capacity events roles size) = true
is_state_body body = false

abbrev pub told_state : Option Msg → Bool
told_state None = false
told_state (Some m) = is_state_body m.body

-- a whole round of the superblock's is one that the node knows as whole
abbrev pub view_resumed : Core → ℕ → Core
view_resumed core n =
    if not (core.receiver n).gone && told_state (core.heard n)
    then record core { view = with_at core.view n (acknowledged (core.view n)) }
    else core

abbrev pub resume : Core → ℕ → Core
resume core n = record (receiver_idle (view_resumed core n) n) { locks = resumed core.locks n }

abbrev pub resume_outcome : Core → ℕ → Outcome
resume_outcome core n = if (core.receiver n).gone then Broken else Whole

-- `drop n`: the message of a dead sender

abbrev pub drop_guards : Core → ℕ → List (Option Refusal)
drop_guards core n = of_live core n (
    receiver_is core n (is_taken (core.receiver n).phase)
    ∷ unless (core.receiver n).gone (SenderLive (core.receiver n).from)
    ∷ [])

abbrev pub drop_message : Core → ℕ → Core
drop_message core n = record (receiver_idle core n) { locks = message_dropped core.locks n }
