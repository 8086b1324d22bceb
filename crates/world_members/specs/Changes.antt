-- The single changes of which the rows of members and receivers are made.
use Rattle.std.specs.Prelude.{ℕ, ◌==◌, ◌&&◌, if◌then◌else◌, Bool, true, [], Option, None}
use Rattle.dlm_modes.specs.Points.{with_at}
use Rattle.dlm_modes.specs.declared.mode.Mode.TheVariants.{CR, PW}
use Rattle.mdc_types.specs.declared.numbers.Range.{Range}
use Rattle.mdc_types.specs.declared.roles.NodeState.{NodeState}
use Rattle.cluster_msgs.specs.declared.msg.Msg.{Msg}
use Rattle.dlm_space.specs.Locks.{holding, let_go, all_let_go, all_died}
use Rattle.disk_addition.specs.declared.addition.Addition.TheVariants.{Nothing}
use Rattle.leg_failure.specs.Views.{acknowledged}
use Rattle.msg_rounds.specs.Locks.{ack_res, token_asked, message_taken, message_processed, resumed}
use Rattle.msg_rounds.specs.Locks.{message_dropped}
use Rattle.msg_rounds.specs.Phases.{new_receiving, taken}
use Rattle.msg_rounds.specs.declared.phases.ReceiverPhase.TheVariants as receivers
use Rattle.msg_rounds.specs.declared.phases.SenderPhase.TheVariants as senders
use Rattle.node_member.specs.Members.{joined, left, died}
use Rattle.suspend_ranges.specs.Suspended.{entry_of}
use Rattle.cluster_model.specs.State.{Core, Untried}
use Rattle.cluster_model.specs.Changes.{no_new_dev}
use Rattle.cluster_model.specs.Leaving.{told_of_death}
use Rattle.cluster_model.specs.Processing.{device_lock_kept}
use Rattle.cluster_model.specs.Receiving.{receiver_now}

-- Nodes.

abbrev pub in_state : Core → ℕ → NodeState → Core
in_state core n s = record core { state = with_at core.state n s }

abbrev pub heads_home : Core → ℕ → Core
heads_home core n = record core { head = λ m l. if m == n then 0 else core.head m l }

-- the node has tried no leg
abbrev pub tries_over : Core → ℕ → Core
tries_over core n = record core { tried = with_at core.tried n (λ l. Untried) }

abbrev pub member_joined : Core → ℕ → Core
member_joined core n = record core { members = joined core.members n }

abbrev pub member_left : Core → ℕ → Core
member_left core n = record core { members = left core.members n true }

abbrev pub member_died : Core → ℕ → Core
member_died core n = record core { members = died core.members n }

-- Locks.

-- PW on the node's own bitmap is taken
abbrev pub slot_taken : Core → ℕ → Core
slot_taken core n = record core { locks = with_at core.locks n (holding (core.locks n) n PW) }

abbrev pub token_awaited : Core → ℕ → Core
token_awaited core n = record core {
  sender = with_at core.sender n senders.TokenAsked;
  locks = token_asked core.locks n;
}

-- CR on `ack` and on `no-new-dev` is taken
abbrev pub locks_entered : Core → ℕ → Core
locks_entered core n = record core {
  locks =
      with_at (with_at core.locks ack_res (holding (core.locks ack_res) n CR))
      no_new_dev (holding (core.locks no_new_dev) n CR);
}

abbrev pub locks_left : Core → ℕ → Core
locks_left core n = record core { locks = all_let_go core.locks n }

abbrev pub locks_lost : Core → ℕ → Core
locks_lost core n = record core { locks = all_died core.locks n }

abbrev pub device_kept : Core → ℕ → Core
device_kept core n = record core { locks = device_lock_kept core.locks n }

abbrev pub device_left : Core → ℕ → Core
device_left core n =
    record core { locks = with_at core.locks no_new_dev (let_go (core.locks no_new_dev) n) }

-- What is suspended.

-- these ranges are suspended at the node
abbrev pub suspends_at : Core → ℕ → (ℕ → Option Range) → Core
suspends_at core n ranges = record core { suspended = with_at core.suspended n ranges }

-- the owner's range is suspended at the node
abbrev pub range_taken : Core → ℕ → ℕ → Range → Core
range_taken core n o r = record core {
  suspended = λ m owner. if (m == n) && (owner == o) then entry_of r else core.suspended m owner;
}

-- the owner's range is dropped everywhere
abbrev pub range_dropped : Core → ℕ → Core
range_dropped core o = record core {
  suspended = λ m owner. if owner == o then None else core.suspended m owner;
}

-- Receivers, and what is in flight.

-- the receivers learn of the node's death
abbrev pub receivers_told : Core → ℕ → Core
receivers_told core n = record core {
  receiver = λ m. if m == n then new_receiving else told_of_death core n (core.receiver m);
}

abbrev pub requests_ended : Core → ℕ → Core
requests_ended core n = record core {
  writes = with_at core.writes n [];
  reads = with_at core.reads n [];
}

abbrev pub hears : Core → ℕ → Option Msg → Core
hears core n heard = record core { heard = with_at core.heard n heard }

abbrev pub message_read : Core → ℕ → ℕ → Core
message_read core n from = record core {
  receiver = with_at core.receiver n (taken from);
  locks = message_taken core.locks n;
}

abbrev pub round_awaited : Core → ℕ → Core
round_awaited core n =
    record (receiver_now core n receivers.Waiting) { locks = message_processed core.locks n }

abbrev pub round_over : Core → ℕ → Core
round_over core n = record (receiver_now core n receivers.Idle) { locks = resumed core.locks n }

abbrev pub round_dropped : Core → ℕ → Core
round_dropped core n =
    record (receiver_now core n receivers.Idle) { locks = message_dropped core.locks n }

abbrev pub view_known : Core → ℕ → Core
view_known core n = record core { view = with_at core.view n (acknowledged (core.view n)) }

abbrev pub view_resumed_if : Core → ℕ → Bool → Core
view_resumed_if core n b = if b then view_known core n else core

-- no device is on its way at the node
abbrev pub addition_over : Core → ℕ → Core
addition_over core n =
    record core { adding = with_at core.adding n (record (core.adding n) { addition = Nothing }) }
