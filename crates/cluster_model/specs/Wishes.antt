-- What a round may be for: `offer`.
use Rattle.std.specs.Prelude.{ℕ, ◌+◌, ◌^◌, ◌%◌, ◌==◌, nat_lt, nat_le, Bool, false, not, ◌&&◌, ◌||◌}
use Rattle.std.specs.Prelude.{if◌then◌else◌, is_some, is_none, List, [], ◌∷◌, Option, Some, None}
use Rattle.dlm_modes.specs.First.{first_such}
use Rattle.dlm_modes.specs.Guards.{unless}
use Rattle.dlm_modes.specs.Points.{with_at}
use Rattle.mdc_types.specs.Roles.{is_faulty}
use Rattle.mdc_types.specs.Geometry.{Sizes}
use Rattle.mdc_types.specs.declared.events.Wish.{Wish}
use Rattle.mdc_types.specs.declared.events.Wish.TheVariants as wishes
use Rattle.mdc_types.specs.declared.numbers.Range.{Range}
use Rattle.mdc_types.specs.declared.outcomes.Outcome.{Outcome}
use Rattle.mdc_types.specs.declared.outcomes.Outcome.TheVariants.{Done, Events}
use Rattle.mdc_types.specs.declared.refusals.Refusal.{Refusal}
use Rattle.mdc_types.specs.declared.refusals.Refusal.TheVariants.{NotPhase, NotNeeded, NoSector}
use Rattle.mdc_types.specs.declared.refusals.Refusal.TheVariants.{PathCut, Pending, Degraded}
use Rattle.mdc_types.specs.declared.refusals.Refusal.TheVariants.{NotCopied, NoSize, NoEvents}
use Rattle.mdc_types.specs.declared.refusals.Part.TheVariants as parts
use Rattle.mdc_types.specs.declared.refusals.Word.TheVariants as words
use Rattle.mdc_types.specs.declared.roles.Role.{Role}
use Rattle.mdc_types.specs.declared.roles.Role.TheVariants.{Working, Rebuilding, Spare}
use Rattle.mdc_types.specs.declared.roles.NodeState.{NodeState}
use Rattle.mdc_types.specs.declared.roles.NodeState.TheVariants as states
use Rattle.msg_rounds.specs.Refusals.{is_message_held, is_ex}
use Rattle.msg_rounds.specs.declared.phases.SenderPhase.TheVariants as senders
use Rattle.node_member.specs.Members.{drawn_one, first_pending}
use Rattle.leg_failure.specs.Views.{NodeView, proposed_role, unacked_leg}
use Rattle.resync_worker.specs.Copying.{Passing, first_todo}
use Rattle.resync_worker.specs.Sectors.{is_edge}
use Rattle.disk_addition.specs.Wishes.{wish_refusal}
use Rattle.cluster_model.specs.State.{Core, Offer, sizes}
use Rattle.cluster_model.specs.Guards.{refused_by, of_live, no_leg, unacked, draining, draining_in}
use Rattle.cluster_model.specs.Guards.{reading}
use Rattle.cluster_model.specs.Phases.{is_up, is_metadata, is_none as is_none_word, has_pass}
use Rattle.cluster_model.specs.Phases.{sender_is, copy_is}
use Rattle.cluster_model.specs.Changes.{no_new_dev, sender_now}
use Rattle.cluster_model.specs.Rounds.{is_announced}

-- The guards of each wish, in the order of its line.

-- a loaded node may only offer `meta`
abbrev pub loaded_offers : NodeState → Wish → Option Refusal
loaded_offers states.Loaded wishes.Meta = None
loaded_offers states.Loaded wish = Some (NotPhase parts.State words.Loaded)
loaded_offers s wish = None

abbrev pub no_events : Core → Option Refusal
no_events core = unless (nat_lt core.members.drawn (2 ^ 63)) (NoEvents core.members.drawn)

-- the node is loaded, or has something to tell
abbrev pub meta_needed : Core → ℕ → Bool
meta_needed core n =
    not (is_up (core.state n)) || is_some (unacked_leg (core.view n))
    || is_announced (core.adding n).addition

abbrev pub holds_device_lock : Core → ℕ → Bool
holds_device_lock core n = is_ex ((core.locks no_new_dev).held n)

-- what the wish asks of the addition and of its leg's role
abbrev pub unsuited : Core → ℕ → Wish → Option Refusal
unsuited core n wish =
    wish_refusal (core.adding n).addition (core.view n).role (holds_device_lock core n) wish

abbrev pub path_cut : Core → ℕ → ℕ → Option Refusal
path_cut core n l = unless (not (core.cut n l)) (PathCut l)

-- the first other leg that is faulty
abbrev pub other_faulty : NodeView → ℕ → Option ℕ
other_faulty v l = first_such (λ j. is_faulty (v.role j) && not (j == l)) 0 8

-- the pass covers the leg and has nothing left to copy
abbrev pub has_copied : Sizes → Option Passing → ℕ → Bool
has_copied g None l = false
has_copied g (Some p) l = p.covered l && is_none (first_todo g p) && is_none p.buffer

-- the empty range; or one within the room whose ends are ends of chunks
abbrev pub is_window : Sizes → Range → Bool
is_window g r =
    ((r.lo == 0) && (r.hi == 0))
    || (nat_lt r.lo r.hi && nat_le r.hi g.room && (r.lo % g.chunk == 0) && is_edge g r.hi)

-- over the node's size and within the room
abbrev pub may_grow : Core → ℕ → ℕ → Bool
may_grow core n z = nat_lt (core.view n).sure_size z && nat_le z core.array.sizes.room

abbrev pub wish_guards : Core → ℕ → Wish → List (Option Refusal)
wish_guards core n wishes.Meta = unless (meta_needed core n) NotNeeded ∷ no_events core ∷ []
wish_guards core n (wishes.Spare l) =
    unacked core n ∷ no_leg core l ∷ unsuited core n (wishes.Spare l) ∷ no_events core ∷ []
wish_guards core n (wishes.Rebuild l) =
    unacked core n ∷ no_leg core l ∷ unsuited core n (wishes.Rebuild l) ∷ no_events core ∷ []
wish_guards core n (wishes.Work l) =
    unacked core n ∷ no_leg core l ∷ refused_by Pending (first_pending core.members)
    ∷ unsuited core n (wishes.Work l) ∷ refused_by Degraded (other_faulty (core.view n) l)
    ∷ unless (has_copied (sizes core) (core.copy n).pass l) (NotCopied l) ∷ no_events core ∷ []
wish_guards core n (wishes.Range r) =
    unacked core n ∷ copy_is core n has_pass ∷ unless (is_window (sizes core) r) (NoSector r.lo)
    ∷ draining_in core n r.lo r.hi ∷ []
wish_guards core n (wishes.NewDisk l) =
    unacked core n ∷ no_leg core l ∷ unsuited core n (wishes.NewDisk l) ∷ path_cut core n l ∷ []
wish_guards core n (wishes.Remove l) =
    unacked core n ∷ no_leg core l ∷ unsuited core n (wishes.Remove l) ∷ []
wish_guards core n (wishes.ReAdd l) =
    unacked core n ∷ no_leg core l ∷ unsuited core n (wishes.ReAdd l) ∷ path_cut core n l ∷ []
wish_guards core n wishes.Unclean =
    copy_is core n is_none_word ∷ draining core n ∷ reading core n ∷ []
wish_guards core n (wishes.Grow z) =
    unacked core n ∷ unless (may_grow core n z) (NoSize z) ∷ no_events core ∷ []

-- `offer n wish`

abbrev pub offer_guards : Core → ℕ → Wish → List (Option Refusal)
offer_guards core n wish = of_live core n
    (loaded_offers (core.state n) wish ∷ sender_is core n (is_message_held (core.sender n))
    ∷ wish_guards core n wish)

-- the named change of the roles
abbrev pub with_change : Wish → (ℕ → Role) → ℕ → Role
with_change (wishes.Spare l) role = with_at role l Spare
with_change (wishes.Rebuild l) role = with_at role l Rebuilding
with_change (wishes.Work l) role = with_at role l Working
with_change wish role = role

abbrev pub proposed_size : Wish → ℕ → ℕ
proposed_size (wishes.Grow z) size = z
proposed_size wish size = size

abbrev pub offer_of : Core → ℕ → Wish → Offer
offer_of core n wish = record {
  wish = wish;
  role = with_change wish (proposed_role (core.view n));
  size = proposed_size wish (core.view n).size;
  events = core.members.drawn + 1;
  written = λ l. false;
}

abbrev pub offered : Core → ℕ → Wish → Core
offered core n wish = record (sender_now core n senders.Offered) {
  offer = with_at core.offer n (Some (offer_of core n wish));
  members = if is_metadata wish then drawn_one core.members else core.members;
}

abbrev pub offer_outcome : Core → Wish → Outcome
offer_outcome core wish = if is_metadata wish then Events (core.members.drawn + 1) else Done
