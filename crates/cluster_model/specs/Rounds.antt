-- The sender of a message round, before it publishes: `token`, `message`, `quit`, `lockdev`.
use Rattle.std.specs.Prelude.{ℕ, Bool, true, false, ◌||◌, List, [], ◌∷◌, Option}
use Rattle.dlm_modes.specs.Points.{with_at}
use Rattle.dlm_modes.specs.declared.mode.Mode.TheVariants.{EX}
use Rattle.mdc_types.specs.declared.refusals.Refusal.{Refusal}
use Rattle.mdc_types.specs.declared.refusals.Refusal.TheVariants.{Blocked}
use Rattle.mdc_types.specs.declared.roles.NodeState.{NodeState}
use Rattle.mdc_types.specs.declared.roles.NodeState.TheVariants as states
use Rattle.dlm_space.specs.Locks.{holding, blocker, all_let_go}
use Rattle.msg_rounds.specs.Locks.{token_asked, message_asked, quitted}
use Rattle.msg_rounds.specs.Refusals.{is_sender_idle, is_token_held, is_message_held}
use Rattle.msg_rounds.specs.Phases.{may_quit}
use Rattle.msg_rounds.specs.declared.phases.SenderPhase.TheVariants as senders
use Rattle.node_member.specs.Members.{left}
use Rattle.disk_addition.specs.declared.addition.Addition.{Addition}
use Rattle.disk_addition.specs.declared.addition.Addition.TheVariants.{Announced}
use Rattle.cluster_model.specs.State.{Core}
use Rattle.cluster_model.specs.Guards.{refused_by, of_live}
use Rattle.cluster_model.specs.Phases.{is_in, state_is, needs_up, sender_is, receiver_busy}
use Rattle.cluster_model.specs.Phases.{addition_is}
use Rattle.cluster_model.specs.Changes.{no_new_dev, sender_now, sender_idle, device_unlocked}
use Rattle.cluster_model.specs.Changes.{node_out}

-- `token n`, `message n`

abbrev pub token_guards : Core → ℕ → List (Option Refusal)
token_guards core n = of_live core n
    (needs_up core n ∷ sender_is core n (is_sender_idle (core.sender n)) ∷ receiver_busy core n
    ∷ [])

abbrev pub ask_token : Core → ℕ → Core
ask_token core n =
    record (sender_now core n senders.TokenAsked) { locks = token_asked core.locks n }

abbrev pub message_guards : Core → ℕ → List (Option Refusal)
message_guards core n = of_live core n
    (state_is core n is_in ∷ sender_is core n (is_token_held (core.sender n))
    ∷ receiver_busy core n ∷ [])

abbrev pub ask_message : Core → ℕ → Core
ask_message core n =
    record (sender_now core n senders.MessageAsked) { locks = message_asked core.locks n }

-- `quit n`: the round is given up

abbrev pub quit_guards : Core → ℕ → List (Option Refusal)
quit_guards core n = of_live core n (sender_is core n (may_quit (core.sender n)) ∷ [])

-- a node that isn't up yet is out, and its slot isn't pending
abbrev pub quit_from : Core → ℕ → NodeState → Core
quit_from core n states.Up = record (sender_idle core n) {
  locks = device_unlocked (quitted core.locks n (core.sender n)) n;
}
quit_from core n s = record (node_out (sender_idle core n) n) {
  members = left core.members n true;
  locks = all_let_go core.locks n;
}

abbrev pub quit : Core → ℕ → Core
quit core n = quit_from core n (core.state n)

-- `lockdev n`: EX on `no-new-dev` is taken at once, by a conversion where the node holds it

abbrev pub is_announced : Addition → Bool
is_announced (Announced l) = true
is_announced a = false

abbrev pub lockdev_guards : Core → ℕ → List (Option Refusal)
lockdev_guards core n = of_live core n (
    needs_up core n
    ∷ sender_is core n (is_token_held (core.sender n) || is_message_held (core.sender n))
    ∷ addition_is core n (is_announced (core.adding n).addition)
    ∷ refused_by Blocked (blocker (core.locks no_new_dev) n EX)
    ∷ [])

abbrev pub lock_device : Core → ℕ → Core
lock_device core n =
    record core { locks = with_at core.locks no_new_dev (holding (core.locks no_new_dev) n EX) }
