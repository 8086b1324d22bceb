-- What is kept of the state without the legs, as plain data, and the machine's core that it
-- stands for: one table for each attribute, by node.
use Rattle.std.specs.Prelude.{◌≡◌, ℕ, not, List, [], get_or, length, Option, Some, None}
use Rattle.std.specs.Prelude.{Result, Ok, Err}
use Rattle.std.specs.Option.{option_map}
use Rattle.mdc_types.specs.Bits.{has_bit}
use Rattle.mdc_types.specs.Roles.{role_of}
use Rattle.mdc_types.specs.declared.refusals.Refusal.{Refusal}
use Rattle.mdc_types.specs.declared.roles.Role.TheVariants.{Spare}
use Rattle.mdc_types.specs.declared.roles.NodeState.{NodeState}
use Rattle.mdc_types.specs.declared.roles.NodeState.TheVariants.{Out}
use Rattle.mdc_types.specs.declared.numbers.Range.{Range}
use Rattle.dlm_space.specs.Parts.{Part, locks_of}
use Rattle.leg_store.specs.Paths.{Paths, path_open}
use Rattle.leg_failure.specs.Views as views
use Rattle.md_superblock.specs.Arrays.{array_of, said}
use Rattle.md_superblock.specs.declared.identity.Identity.{Identity}
use Rattle.msg_rounds.specs.Phases.{Receiving, new_receiving}
use Rattle.msg_rounds.specs.declared.phases.SenderPhase.{SenderPhase}
use Rattle.msg_rounds.specs.declared.phases.SenderPhase.TheVariants.{Idle}
use Rattle.cluster_msgs.specs.declared.msg.Msg.{Msg}
use Rattle.node_member.specs.Parts as members
use Rattle.suspend_ranges.specs.Suspended.{ranges_of}
use Rattle.node_requests.specs.Requests.{AllRequests, writes_of, reads_of}
use Rattle.node_requests.specs.Requests.{writes_made_of, reads_made_of}
use Rattle.node_bits.specs.Bitmaps.{Maps, bitmaps_of}
use Rattle.node_copies.specs.Copies.{Copyings, copies_of}
use Rattle.node_copies.specs.Recoveries.{Progresses, recoveries_of}
use Rattle.node_copies.specs.Additions.{Addings, adding_of}
use Rattle.cluster_model.specs.State as machine
use Rattle.cluster_model.specs.State.{Core}
use Rattle.world_state.specs.declared.attempt.Attempt.{Attempt}
use Rattle.world_state.specs.declared.attempt.Attempt.TheVariants.{Untried, Unread, Loaded}
use Rattle.world_state.specs.declared.offer.Offer.{Offer}

-- the state without the legs, as it lies in memory: each list is by node
pub record Kept : Type 0 where
  pub identity : Identity
  pub states : List NodeState
  pub views : List views.Parts
  -- by node and leg
  pub heads : List (List ℕ)
  pub requests : AllRequests
  pub space : List Part
  pub senders : List SenderPhase
  pub offers : List (Option Offer)
  pub receivers : List Receiving
  pub heard : List (Option Msg)
  -- by node and leg
  pub tried : List (List Attempt)
  pub members : members.Parts
  pub paths : Paths
  pub bitmaps : Maps
  -- by node and owner
  pub suspended : List (List (Option Range))
  pub copies : Copyings
  pub recoveries : Progresses
  pub additions : Addings

-- the view of a node that isn't there
abbrev pub no_parts : views.Parts
no_parts = record {
  roles = record { legs = [] };
  sure = record { legs = [] };
  lost = 0;
  size = 0;
  sure_size = 0;
}

abbrev pub tried_of : Attempt → machine.Tried
tried_of Untried = machine.Untried
tried_of Unread = machine.Unread
tried_of (Loaded state) = machine.Loaded (said state)

abbrev pub offer_of : Offer → machine.Offer
offer_of o = record {
  wish = o.wish;
  role = role_of o.roles;
  size = o.size;
  events = o.events;
  written = has_bit o.written;
}

abbrev pub core_of : Kept → Core
core_of k = record {
  array = array_of k.identity;
  state = λ n. get_or k.states n Out;
  view = λ n. views.view_of (get_or k.views n no_parts);
  head = λ n l. get_or (get_or k.heads n []) l 0;
  writes = writes_of k.requests;
  reads = reads_of k.requests;
  writes_made = writes_made_of k.requests;
  reads_made = reads_made_of k.requests;
  locks = locks_of k.space;
  sender = λ n. get_or k.senders n Idle;
  offer = λ n. option_map offer_of (get_or k.offers n None);
  receiver = λ n. get_or k.receivers n new_receiving;
  heard = λ n. get_or k.heard n None;
  tried = λ n l. tried_of (get_or (get_or k.tried n []) l Untried);
  members = members.members_of k.members;
  cut = λ n l. not (path_open k.paths n l);
  bitmap = bitmaps_of k.bitmaps;
  suspended = λ n. ranges_of (get_or k.suspended n []);
  copy = copies_of k.copies;
  recovery = recoveries_of k.recoveries;
  adding = adding_of k.additions;
}

-- a result that says which guard refuses, if one does
abbrev pub Judges : {T : Type 0} → Result T Refusal → Option Refusal → Type 0
Judges (Ok t) guard = guard ≡ None
Judges (Err r) guard = guard ≡ Some r

-- there are sixteen nodes, and the tables' sizes are the array's
pub record IsWhole (k : Kept) : Type 0 where
  pub views : length k.views ≡ 16
  pub senders : length k.senders ≡ 16
  pub receivers : length k.receivers ≡ 16
  pub suspended : length k.suspended ≡ 16
  pub tried : length k.tried ≡ 16
  pub bitmaps : k.bitmaps.sizes ≡ k.identity.geometry
  pub copies : k.copies.sizes ≡ k.identity.geometry
  pub recoveries : k.recoveries.sizes ≡ k.identity.geometry
  pub additions : k.additions.sizes ≡ k.identity.geometry
