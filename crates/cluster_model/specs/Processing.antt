-- What a receiver does with a message: `processed`.
use Rattle.std.specs.Prelude.{ℕ, ◌==◌, not, ◌&&◌, is_none, List, []}
use Rattle.std.specs.Prelude.{◌∷◌, Option, Some, None, if◌then◌else◌}
use Rattle.dlm_modes.specs.Guards.{unless}
use Rattle.dlm_modes.specs.Points.{with_at}
use Rattle.dlm_modes.specs.declared.mode.Mode.TheVariants.{CR}
use Rattle.mdc_types.specs.Roles.{role_of}
use Rattle.mdc_types.specs.declared.refusals.Refusal.{Refusal}
use Rattle.mdc_types.specs.declared.refusals.Refusal.TheVariants.{SenderGone}
use Rattle.mdc_types.specs.declared.roles.Roles.{Roles}
use Rattle.dlm_space.specs.Locks.{Lock, holding, let_go}
use Rattle.cluster_msgs.specs.declared.msg.Body.{Body}
use Rattle.cluster_msgs.specs.declared.msg.Body.TheVariants as bodies
use Rattle.cluster_msgs.specs.declared.msg.Msg.{Msg}
use Rattle.msg_rounds.specs.Locks.{message_processed}
use Rattle.msg_rounds.specs.Refusals.{is_taken}
use Rattle.msg_rounds.specs.declared.phases.ReceiverPhase.TheVariants as receivers
use Rattle.leg_failure.specs.Views.{taken as view_taken}
use Rattle.disk_addition.specs.declared.addition.Addition.TheVariants.{Nothing}
use Rattle.suspend_ranges.specs.Suspended.{entry_of}
use Rattle.cluster_model.specs.State.{Core}
use Rattle.cluster_model.specs.Guards.{of_live, draining_in}
use Rattle.cluster_model.specs.Phases.{receiver_is}
use Rattle.cluster_model.specs.Changes.{no_new_dev, with_view}
use Rattle.cluster_model.specs.Receiving.{receiver_now}

-- `processed n`: what the message says is done here

abbrev pub draining_body : Core → ℕ → Body → List (Option Refusal)
draining_body core n (bodies.Resyncing r) = draining_in core n r.lo r.hi ∷ []
draining_body core n body = []

abbrev pub draining_by : Core → ℕ → Option Msg → List (Option Refusal)
draining_by core n None = []
draining_by core n (Some m) = draining_body core n m.body

abbrev pub processed_guards : Core → ℕ → List (Option Refusal)
processed_guards core n = of_live core n (
    receiver_is core n (is_taken (core.receiver n).phase)
    ∷ unless (not (core.receiver n).gone) (SenderGone (core.receiver n).from)
    ∷ draining_by core n (core.heard n))

-- CR on `no-new-dev`, where the node has nothing there
abbrev pub device_lock_kept : (ℕ → Lock) → ℕ → ℕ → Lock
device_lock_kept locks n =
    if is_none ((locks no_new_dev).held n)
    then with_at locks no_new_dev (holding (locks no_new_dev) n CR)
    else locks

-- the node takes the roles and the size
abbrev pub take_roles : Core → ℕ → Roles → ℕ → Core
take_roles core n roles size =
    record (with_view core n (view_taken (core.view n) (role_of roles) size)) {
      adding = with_at core.adding n (record (core.adding n) { addition = Nothing });
      locks = device_lock_kept core.locks n;
    }

-- who sees the new device lets go of `no-new-dev`
abbrev pub see_device : Core → ℕ → ℕ → Core
see_device core n l = record core {
  locks =
      if core.cut n l then device_lock_kept core.locks n
      else with_at core.locks no_new_dev (let_go (core.locks no_new_dev) n);
}

abbrev pub do_body : Core → ℕ → ℕ → Body → Core
do_body core n sender (bodies.Metadata events roles size) = take_roles core n roles size
do_body core n sender (bodies.Capacity events roles size) = take_roles core n roles size
do_body core n sender (bodies.Resyncing r) = record core {
  suspended =
      λ m owner. if (m == n) && (owner == sender) then entry_of r else core.suspended m owner;
}
do_body core n sender (bodies.NewDisk l uuid) = see_device core n l
do_body core n sender (bodies.Remove l) = core
do_body core n sender (bodies.ReAdd l) = core
do_body core n sender bodies.NeedsSync = core

abbrev pub do_message : Core → ℕ → Option Msg → Core
do_message core n None = core
do_message core n (Some m) = do_body core n (core.receiver n).from m.body

abbrev pub processed : Core → ℕ → Core
processed core n =
    let did = do_message core n (core.heard n) in
    record (receiver_now did n receivers.Waiting) { locks = message_processed did.locks n }
