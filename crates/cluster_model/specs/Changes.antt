-- Changes of the state that several rows make.
use Rattle.std.specs.Prelude.{ℕ, ◌==◌, false, None, option_map, if◌then◌else◌, Option, Some, ◌&&◌}
use Rattle.dlm_modes.specs.Points.{with_at}
use Rattle.dlm_modes.specs.declared.mode.Mode.TheVariants.{CR, EX}
use Rattle.mdc_types.specs.Resources.{number_of}
use Rattle.mdc_types.specs.Roles.{is_rebuilding}
use Rattle.mdc_types.specs.declared.resources.Res.TheVariants as resources
use Rattle.mdc_types.specs.declared.roles.Role.TheVariants.{Spare}
use Rattle.mdc_types.specs.declared.roles.NodeState.TheVariants as states
use Rattle.dlm_space.specs.Locks.{Lock, holding}
use Rattle.msg_rounds.specs.Refusals.{is_ex}
use Rattle.msg_rounds.specs.declared.phases.SenderPhase.{SenderPhase}
use Rattle.msg_rounds.specs.declared.phases.SenderPhase.TheVariants as senders
use Rattle.leg_failure.specs.Views.{NodeView, new_view, fresh_targets}
use Rattle.node_bitmaps.specs.Bitmap.{forgotten, with_new_legs}
use Rattle.resync_worker.specs.Copying.{covering_only, restarted}
use Rattle.disk_addition.specs.declared.addition.Addition.TheVariants.{Nothing}
use Rattle.slot_gathering.specs.Gatherings.{none_gathered}
use Rattle.cluster_model.specs.State.{Core, Copy, Adding, Untried, NotAsked}

abbrev pub no_new_dev : ℕ
no_new_dev = number_of resources.NoNewDev

abbrev pub resync_res : ℕ
resync_res = number_of resources.Resync

-- a node that isn't in has no roles and no size
abbrev pub no_view : NodeView
no_view = new_view (λ l. Spare) 0 (λ l. false)

abbrev pub no_copy : Copy
no_copy = record { turn = NotAsked; pass = None; window = None }

abbrev pub not_adding : Adding
not_adding = record { addition = Nothing; gathering = none_gathered }

-- The sender.

abbrev pub sender_now : Core → ℕ → SenderPhase → Core
sender_now core n s = record core { sender = with_at core.sender n s }

-- the sender's round is over, or was given up
abbrev pub sender_idle : Core → ℕ → Core
sender_idle core n = record core {
  sender = with_at core.sender n senders.Idle;
  offer = with_at core.offer n None;
}

-- an offer that isn't published yet is void: the sender is back at message-held
abbrev pub voided : Core → ℕ → SenderPhase → Core
voided core n senders.Offered = record core {
  sender = with_at core.sender n senders.MessageHeld;
  offer = with_at core.offer n None;
}
voided core n s = core

-- EX on `no-new-dev` goes to CR
abbrev pub device_unlocked : (ℕ → Lock) → ℕ → ℕ → Lock
device_unlocked locks n =
    if is_ex ((locks no_new_dev).held n)
    then with_at locks no_new_dev (holding (locks no_new_dev) n CR)
    else locks

-- the node's last transfer of data with the leg was of that sector
abbrev pub headed : Core → ℕ → ℕ → Option ℕ → Core
headed core n l None = core
headed core n l (Some s) =
    record core { head = λ m k. if (m == n) && (k == l) then s else core.head m k }

-- The view.

-- a leg that the view doesn't call rebuilding leaves the pass
abbrev pub covering : Copy → NodeView → Copy
covering c v =
    record c { pass = option_map (λ p. covering_only p (λ l. is_rebuilding (v.role l))) c.pass }

-- the node has other roles: nothing is known of legs that become targets
abbrev pub with_view : Core → ℕ → NodeView → Core
with_view core n v = record core {
  view = with_at core.view n v;
  bitmap = with_at core.bitmap n (with_new_legs (core.bitmap n) (fresh_targets (core.view n) v));
  copy = with_at core.copy n (covering (core.copy n) v);
}

abbrev pub with_copy : Core → ℕ → Copy → Core
with_copy core n c = record core { copy = with_at core.copy n c }

-- the window closes, and the buffer is dropped
abbrev pub window_closed : Copy → Copy
window_closed c = record c { pass = option_map restarted c.pass; window = None }

-- the node isn't in any more: it is out, and keeps nothing but its marks
abbrev pub node_out : Core → ℕ → Core
node_out core n = record core {
  state = with_at core.state n states.Out;
  view = with_at core.view n no_view;
  offer = with_at core.offer n None;
  heard = with_at core.heard n None;
  tried = with_at core.tried n (λ l. Untried);
  bitmap = with_at core.bitmap n (forgotten (core.bitmap n));
  suspended = λ m owner. if m == n then None else core.suspended m owner;
  copy = with_at core.copy n no_copy;
  recovery = with_at core.recovery n None;
  adding = with_at core.adding n not_adding;
}
