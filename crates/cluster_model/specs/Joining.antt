-- How a node comes in: `join`, `load`, `up`.
use Rattle.std.specs.Prelude.{ℕ, ◌==◌, nat_le, max, Bool, true, false, not, ◌&&◌, List, [], ◌∷◌}
use Rattle.std.specs.Prelude.{Option, Some, None, is_some, if◌then◌else◌}
use Rattle.dlm_modes.specs.First.{first_such}
use Rattle.dlm_modes.specs.Guards.{unless}
use Rattle.dlm_modes.specs.Points.{with_at}
use Rattle.dlm_modes.specs.declared.mode.Mode.TheVariants.{CR, PW}
use Rattle.mdc_types.specs.Roles.{role_of, is_working, is_written}
use Rattle.mdc_types.specs.declared.numbers.Range.{Range}
use Rattle.mdc_types.specs.declared.refusals.Refusal.{Refusal}
use Rattle.mdc_types.specs.declared.refusals.Refusal.TheVariants.{SlotLive, SlotPending, NotLoaded}
use Rattle.mdc_types.specs.declared.refusals.Refusal.TheVariants.{Stale, Missing}
use Rattle.mdc_types.specs.declared.roles.Roles.{Roles}
use Rattle.mdc_types.specs.declared.roles.NodeState.TheVariants as states
use Rattle.dlm_space.specs.Locks.{holding}
use Rattle.cluster_msgs.specs.Reading.{range_in}
use Rattle.md_superblock.specs.Arrays.{Says}
use Rattle.msg_rounds.specs.Locks.{ack_res, token_asked}
use Rattle.msg_rounds.specs.Refusals.{is_token_held}
use Rattle.msg_rounds.specs.declared.phases.SenderPhase.TheVariants as senders
use Rattle.node_member.specs.Members.{joined}
use Rattle.leg_failure.specs.Views.{NodeView, new_view}
use Rattle.suspend_ranges.specs.Suspended.{entry_of}
use Rattle.cluster_model.specs.State.{Core, Tried, Untried, Loaded}
use Rattle.cluster_model.specs.Guards.{refused_by, no_node, not_fenced, of_live, no_leg}
use Rattle.cluster_model.specs.Phases.{is_up, is_joining, state_is, sender_is}
use Rattle.cluster_model.specs.Changes.{no_new_dev, no_view, with_view}

-- `join n`

abbrev pub join_guards : Core → ℕ → List (Option Refusal)
join_guards core n =
    no_node core n ∷ not_fenced core n ∷ unless (not (core.members.live n)) (SlotLive n)
    ∷ unless (not (core.members.pending n)) (SlotPending n) ∷ []

-- PW on its bitmap is taken, and the token is asked. Its heads stand at sector 0
abbrev pub join : Core → ℕ → Core
join core n = record core {
  state = with_at core.state n states.Joining;
  members = joined core.members n;
  head = λ m l. if m == n then 0 else core.head m l;
  sender = with_at core.sender n senders.TokenAsked;
  locks = token_asked (with_at core.locks n (holding (core.locks n) n PW)) n;
}

-- `load n l`: reads the superblock of the leg

abbrev pub load_guards : Core → ℕ → ℕ → List (Option Refusal)
load_guards core n l = of_live core n
    (no_leg core l ∷ state_is core n is_joining ∷ sender_is core n (is_token_held (core.sender n))
    ∷ [])

-- the last try of a leg counts
abbrev pub loaded : Core → ℕ → ℕ → Tried → Core
loaded core n l tried = record core {
  tried = λ m k. if (m == n) && (k == l) then tried else core.tried m k;
}

-- `up n`: the newest superblock is taken, of several the one on the least leg

abbrev pub is_untried : Tried → Bool
is_untried Untried = true
is_untried t = false

abbrev pub says_of : Tried → Option Says
says_of (Loaded says) = Some says
says_of t = None

abbrev pub events_of : Tried → ℕ
events_of (Loaded says) = says.events
events_of t = 0

-- the greatest events number that was read, and 0 where none was
abbrev pub greatest : (ℕ → Tried) → ℕ
greatest tried =
    let e : ℕ → ℕ = λ l. events_of (tried l) in
    max (e 0) (max (e 1) (max (e 2) (max (e 3) (max (e 4) (max (e 5) (max (e 6) (e 7)))))))

-- the leg has a superblock of that number
abbrev pub is_newest : (ℕ → Tried) → ℕ → Bool
is_newest tried l = is_some (says_of (tried l)) && (events_of (tried l) == greatest tried)

abbrev pub says_at : (ℕ → Tried) → Option ℕ → Option Says
says_at tried None = None
says_at tried (Some l) = says_of (tried l)

abbrev pub newest : (ℕ → Tried) → Option Says
newest tried = says_at tried (first_such (is_newest tried) 0 8)

-- a leg that works by these roles, and was read
abbrev pub was_read : (ℕ → Tried) → Roles → ℕ → Bool
was_read tried roles l = is_working (role_of roles l) && is_some (says_of (tried l))

-- where no leg that works by the newest superblock was read: the first that works
abbrev pub missing_leg : (ℕ → Tried) → Option Says → Option ℕ
missing_leg tried None = None
missing_leg tried (Some says) =
    if is_some (first_such (was_read tried says.roles) 0 8) then None
    else first_such (λ l. is_working (role_of says.roles l)) 0 8

abbrev pub up_guards : Core → ℕ → List (Option Refusal)
up_guards core n = of_live core n (
    state_is core n is_joining
    ∷ sender_is core n (is_token_held (core.sender n))
    ∷ refused_by NotLoaded (first_such (λ l. is_untried (core.tried n l)) 0 core.array.sizes.legs)
    ∷ unless (nat_le core.members.completed (greatest (core.tried n)))
    (Stale (greatest (core.tried n)) core.members.completed)
    ∷ refused_by Missing (missing_leg (core.tried n) (newest (core.tried n)))
    ∷ [])

-- its legs that weren't read are lost
abbrev pub view_from : (ℕ → Tried) → Option Says → NodeView
view_from tried None = no_view
view_from tried (Some says) =
    new_view (role_of says.roles) says.size
    (λ l. is_written (role_of says.roles l) && not (is_some (says_of (tried l))))

-- the range that the valid block of a member's bitmap lock tells
abbrev pub told_range : Option Range → Option Range
told_range None = None
told_range (Some r) = entry_of r

abbrev pub range_of_member : Core → ℕ → Option Range
range_of_member core m =
    if is_up (core.state m) && (core.locks m).valid
    then told_range (range_in (core.locks m).block.bytes)
    else None

-- CR on `ack` and on `no-new-dev` is taken, and the members' ranges are suspended
abbrev pub up : Core → ℕ → Core
up core n = record (with_view core n (view_from (core.tried n) (newest (core.tried n)))) {
  state = with_at core.state n states.Loaded;
  tried = with_at core.tried n (λ l. Untried);
  suspended = λ m owner. if m == n then range_of_member core owner else core.suspended m owner;
  locks =
      with_at (with_at core.locks ack_res (holding (core.locks ack_res) n CR))
      no_new_dev (holding (core.locks no_new_dev) n CR);
}
