-- The part of the state that says who may be read: the phases, the views and the offers of the
-- nodes, and what the superblocks say. Beside it what was agreed on last, and two ghosts.
use Rattle.std.specs.Prelude.{ℕ, Bool, true, false, not, ◌&&◌, ◌||◌, ◌==◌, if◌then◌else◌, Option, Some, None, option_map, List, [], ◌∷◌, unwrap_or}
use Rattle.dlm_modes.specs.First.{first_such}
use Rattle.dlm_modes.specs.Points.{with_at}
use Rattle.mdc_types.specs.Roles.{role_of, is_working, is_faulty}
use Rattle.mdc_types.specs.declared.events.Event.{Event}
use Rattle.mdc_types.specs.declared.events.Event.TheVariants as events
use Rattle.mdc_types.specs.declared.events.Wish.{Wish}
use Rattle.mdc_types.specs.declared.events.Wish.TheVariants as wishes
use Rattle.mdc_types.specs.declared.outcomes.Entry.{Entry}
use Rattle.mdc_types.specs.declared.roles.Role.{Role}
use Rattle.mdc_types.specs.declared.roles.Role.TheVariants.{Spare}
use Rattle.mdc_types.specs.declared.roles.NodeState.{NodeState}
use Rattle.mdc_types.specs.declared.roles.NodeState.TheVariants as states
use Rattle.cluster_msgs.specs.declared.msg.Body.{Body}
use Rattle.cluster_msgs.specs.declared.msg.Body.TheVariants as bodies
use Rattle.cluster_msgs.specs.declared.msg.Msg.{Msg}
use Rattle.md_superblock.specs.Arrays.{Array, Says}
use Rattle.msg_rounds.specs.Phases.{Receiving, has_processed, has_published}
use Rattle.msg_rounds.specs.declared.phases.SenderPhase.{SenderPhase}
use Rattle.leg_failure.specs.Views.{NodeView}
use Rattle.cluster_model.specs.State.{State, Core, Legs, Offer, Tried, Adding, Copy}
use Rattle.cluster_model.specs.Phases.{is_metadata, offers}
use Rattle.cluster_model.specs.Gathering.{is_again_of}
use Rattle.cluster_model.specs.Joining.{is_newest}
use Rattle.cluster_model.specs.Opening.{Origin}
use Rattle.disk_addition.specs.Additions.{after}
use Rattle.disk_addition.specs.declared.addition.Addition.{Addition}
use Rattle.disk_addition.specs.declared.addition.Addition.TheVariants.{Nothing}
use Rattle.resync_worker.specs.Copying.{Passing}
use Rattle.cluster_model.specs.Receiving.{told_state}
use Rattle.cluster_model.specs.Stored.{super_on}
use Rattle.cluster_model.specs.Superblocks.{says_of_offer}
use Rattle.laws_locks.specs.Following.{core_after}
use Rattle.laws_roles.specs.Agreed.{Agreed}

-- What stands in options, with a value where there is none.

abbrev pub changes_super : Option Offer → Bool
changes_super x = offers is_metadata x

abbrev pub offered_role : Option Offer → ℕ → Role
offered_role None l = Spare
offered_role (Some o) l = o.role l

abbrev pub offered_size : Option Offer → ℕ
offered_size None = 0
offered_size (Some o) = o.size

abbrev pub offered_events : Option Offer → ℕ
offered_events None = 0
offered_events (Some o) = o.events

abbrev pub offered_says : Option Offer → Option Says
offered_says x = option_map says_of_offer x

abbrev pub is_written_to : Option Offer → ℕ → Bool
is_written_to None l = false
is_written_to (Some o) l = o.written l

-- a superblock's events number is at least 1
abbrev pub number : Option Says → ℕ
number None = 0
number (Some says) = says.events

abbrev pub said_role : Option Says → ℕ → Role
said_role None l = Spare
said_role (Some says) l = role_of says.roles l

abbrev pub said_size : Option Says → ℕ
said_size None = 0
said_size (Some says) = says.size

abbrev pub body_role : Body → ℕ → Role
body_role (bodies.Metadata events roles size) l = role_of roles l
body_role (bodies.Capacity events roles size) l = role_of roles l
body_role body l = Spare

abbrev pub body_size : Body → ℕ
body_size (bodies.Metadata events roles size) = size
body_size (bodies.Capacity events roles size) = size
body_size body = 0

abbrev pub heard_role : Option Msg → ℕ → Role
heard_role None l = Spare
heard_role (Some m) l = body_role m.body l

abbrev pub heard_size : Option Msg → ℕ
heard_size None = 0
heard_size (Some m) = body_size m.body

-- the legs that a pass covers
abbrev pub covered_by : Option Passing → ℕ → Bool
covered_by None l = false
covered_by (Some p) l = p.covered l

abbrev pub covers : Copy → ℕ → Bool
covers c l = covered_by c.pass l

abbrev pub is_loaded : NodeState → Bool
is_loaded states.Loaded = true
is_loaded s = false

abbrev pub is_nothing : Addition → Bool
is_nothing Nothing = true
is_nothing a = false

-- The ghosts.

-- the leg becomes one that works
abbrev pub promotes : Wish → ℕ → Bool
promotes (wishes.Work l) k = k == l
promotes wish k = false

-- what else a wish is for: it needs that nothing is unacked; it is about a spare, or a faulty leg; a
-- leg is to rebuild
abbrev pub needs_known : Wish → Bool
needs_known wishes.Meta = false
needs_known wishes.Unclean = false
needs_known wish = true

abbrev pub wants_spare : Wish → ℕ → Bool
wants_spare (wishes.NewDisk l) k = k == l
wants_spare wish k = false

abbrev pub wants_faulty : Wish → ℕ → Bool
wants_faulty (wishes.Remove l) k = k == l
wants_faulty (wishes.ReAdd l) k = k == l
wants_faulty wish k = false

abbrev pub rebuilds : Wish → ℕ → Bool
rebuilds (wishes.Rebuild l) k = k == l
rebuilds wish k = false

-- the offered wish is such a one about leg l
abbrev pub wished : (Wish → ℕ → Bool) → Option Offer → ℕ → Bool
wished test None l = false
wished test (Some o) l = test o.wish l

-- what was agreed on last; a good leg is one that some view, current superblock or offer may call
-- working; the home leg has a current superblock; a leg missed something that is agreed to be faulty
-- or rebuilds since it was added again; and by node: the leg whose superblock it took when it came in
pub record Ghost : Type 0 where
  pub agreed : Agreed
  pub good : ℕ → Bool
  pub home : ℕ
  pub missed : ℕ → Bool
  pub source : ℕ → ℕ

abbrev pub first_working : (ℕ → Role) → ℕ
first_working role = unwrap_or (first_such (λ l. is_working (role l)) 0 8) 0

-- the leg of the newest superblock that was read
abbrev pub source_of : (ℕ → Tried) → ℕ
source_of tried = unwrap_or (first_such (is_newest tried) 0 8) 0

abbrev pub with_source : Ghost → ℕ → ℕ → Ghost
with_source g n l = record g { source = with_at g.source n l }

abbrev pub with_finish : Ghost → Offer → Addition → Ghost
with_finish g o a = record {
  agreed = record { role = o.role; size = o.size };
  good = λ l. is_working (o.role l);
  home = first_working o.role;
  missed = λ l. is_faulty (o.role l) || is_again_of (after a o.wish) l;
  source = g.source;
}

abbrev pub finished_by : Ghost → Option Offer → Addition → Ghost
finished_by g None a = g
finished_by g (Some o) a = if is_metadata o.wish then with_finish g o a else g

-- a leg that is to work is good from the offer on
abbrev pub with_promoted : Ghost → Wish → Ghost
with_promoted g wish = record g { good = λ l. g.good l || promotes wish l }

abbrev pub with_wish : Ghost → Wish → Ghost
with_wish g wish = if is_metadata wish then with_promoted g wish else g

abbrev pub ghost_after : Core → Event → Ghost → Ghost
ghost_after core (events.FinishRound n) g = finished_by g (core.offer n) (core.adding n).addition
ghost_after core (events.Up n) g = with_source g n (source_of (core.tried n))
ghost_after core (events.Offer n wish) g = with_wish g wish
ghost_after core e g = g

-- at the opening, whose newest superblock is on this leg
abbrev pub ghost_at : Origin → ℕ → Ghost
ghost_at o home = record {
  agreed = record { role = role_of o.roles; size = o.sizes.sectors };
  good = λ l. is_working (role_of o.roles l);
  home = home;
  missed = λ l. is_faulty (role_of o.roles l);
  source = λ n. 0;
}

abbrev pub ghost_in : Origin → ℕ → List Entry → Ghost
ghost_in o home [] = ghost_at o home
ghost_in o home (x ∷ past) = ghost_after (core_after o past) x.event (ghost_in o home past)

-- The part.

pub record Part : Type 0 where
  pub state : ℕ → NodeState
  pub view : ℕ → NodeView
  pub sender : ℕ → SenderPhase
  pub offer : ℕ → Option Offer
  pub receiver : ℕ → Receiving
  pub heard : ℕ → Option Msg
  pub tried : ℕ → ℕ → Tried
  pub adding : ℕ → Adding
  pub copy : ℕ → Copy
  pub drawn : ℕ
  pub completed : ℕ
  pub super : ℕ → Option Says
  pub ghost : Ghost

abbrev pub part_of : Core → (ℕ → Option Says) → Ghost → Part
part_of core super ghost = record {
  state = core.state;
  view = core.view;
  sender = core.sender;
  offer = core.offer;
  receiver = core.receiver;
  heard = core.heard;
  tried = core.tried;
  adding = core.adding;
  copy = core.copy;
  drawn = core.members.drawn;
  completed = core.members.completed;
  super = super;
  ghost = ghost;
}

abbrev pub supers : Array → Legs → ℕ → Option Says
supers array legs k = super_on array legs k

abbrev pub part_at : State → Ghost → Part
part_at state ghost = part_of state.core (supers state.core.array state.legs) ghost

-- the receiver has processed a message of the superblock whose round is whole, and wasn't told yet
abbrev pub waits : Receiving → Option Msg → SenderPhase → Bool
waits r heard sender =
    has_processed r.phase && not r.gone && told_state heard && not (has_published sender)

abbrev pub is_late : Part → ℕ → Bool
is_late w n = waits (w.receiver n) (w.heard n) (w.sender (w.receiver n).from)
