-- Paths and grants: `cut`, `mend`, `grant`.
use Rattle.std.specs.Prelude.{ℕ, ◌==◌, Bool, ◌&&◌, List, [], ◌∷◌, Option, Some, None}
use Rattle.std.specs.Prelude.{if◌then◌else◌}
use Rattle.dlm_modes.specs.Points.{with_at}
use Rattle.dlm_modes.specs.declared.mode.Mode.{Mode}
use Rattle.dlm_modes.specs.declared.mode.Mode.TheVariants.{PR}
use Rattle.mdc_types.specs.Resources.{number_of}
use Rattle.mdc_types.specs.declared.refusals.Refusal.{Refusal}
use Rattle.mdc_types.specs.declared.refusals.Refusal.TheVariants.{NothingAsked, NotGrantable}
use Rattle.mdc_types.specs.declared.resources.Res.{Res}
use Rattle.mdc_types.specs.declared.resources.Res.TheVariants as resources
use Rattle.dlm_space.specs.Queues.{head}
use Rattle.dlm_space.specs.Locks.{Lock, blocker, granted, mode_of}
use Rattle.dlm_space.specs.declared.ask.Ask.{Ask}
use Rattle.msg_rounds.specs.Phases.{now_in}
use Rattle.msg_rounds.specs.declared.phases.ReceiverPhase.TheVariants as receivers
use Rattle.msg_rounds.specs.declared.phases.SenderPhase.TheVariants as senders
use Rattle.cluster_model.specs.State.{Core, Held}
use Rattle.cluster_model.specs.Guards.{refused_by, found_or, no_node, no_leg}
use Rattle.cluster_model.specs.Changes.{sender_now, with_copy}

-- `cut n l`, `mend n l`

abbrev pub path_guards : Core → ℕ → ℕ → List (Option Refusal)
path_guards core n l = no_node core n ∷ no_leg core l ∷ []

abbrev pub path_is : Core → ℕ → ℕ → Bool → Core
path_is core n l b = record core { cut = λ m k. if (m == n) && (k == l) then b else core.cut m k }

-- `grant res`

-- who waits for the resource first. A bitmap and `no-new-dev` are never waited for
abbrev pub asker : Core → Res → Option Ask
asker core (resources.Bitmap n) = None
asker core resources.NoNewDev = None
asker core res =
    head (core.locks (number_of res)).conversions (core.locks (number_of res)).requests

abbrev pub holder_against : Lock → Option Ask → Option ℕ
holder_against lock None = None
holder_against lock (Some a) = blocker lock a.node a.mode

abbrev pub not_grantable : Lock → Option Ask → Option Refusal
not_grantable lock a = refused_by (λ m. NotGrantable m (mode_of lock m)) (holder_against lock a)

abbrev pub grant_guards : Core → Res → List (Option Refusal)
grant_guards core res =
    found_or (asker core res) (NothingAsked res)
    ∷ not_grantable (core.locks (number_of res)) (asker core res) ∷ []

-- PR on `message` is a receiver's, and EX the sender's
abbrev pub message_held : Core → ℕ → Mode → Core
message_held core n PR =
    record core { receiver = with_at core.receiver n (now_in receivers.Ready (core.receiver n)) }
message_held core n mode = sender_now core n senders.MessageHeld

-- the asker goes on
abbrev pub goes_on : Core → Res → Ask → Core
goes_on core resources.Token a = sender_now core a.node senders.TokenHeld
goes_on core resources.Message a = message_held core a.node a.mode
goes_on core resources.Ack a = sender_now core a.node senders.Granted
goes_on core resources.Resync a = with_copy core a.node (record (core.copy a.node) { turn = Held })
goes_on core res a = core

abbrev pub grant_to : Core → Res → Option Ask → Core
grant_to core res None = core
grant_to core res (Some a) = record (goes_on core res a) {
  locks = with_at core.locks (number_of res) (granted (core.locks (number_of res)));
}

abbrev pub grant : Core → Res → Core
grant core res = grant_to core res (asker core res)
