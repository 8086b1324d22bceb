-- Along each run.
use Rattle.std.proofs.Common.{◌≡◌, ℕ, ◌<◌, ◌≤◌, ◌&&◌, ◌==◌, not, Bool, true, false, List, [], ◌∷◌, length, if◌then◌else◌, Some, None, refl, sym, ap, subst, ◌∙◌, arith}
use Rattle.std.specs.Prelude.{nat_lt, replicate}
use Rattle.std.proofs.lemmas.Bool.{ltb-true}
use Rattle.dlm_modes.proofs.FirstLaws.{first_such_has}
use Rattle.mdc_types.specs.Geometry.{Sizes, chunks_of}
use Rattle.mdc_types.specs.Roles.{role_of, is_working}
use Rattle.mdc_types.specs.declared.events.Event.{Event}
use Rattle.mdc_types.specs.declared.outcomes.Outcome.{Outcome}
use Rattle.mdc_types.specs.declared.outcomes.Outcome.TheVariants as outcomes
use Rattle.mdc_types.specs.declared.outcomes.Entry.{Entry}
use Rattle.mdc_types.specs.declared.roles.NodeState.TheVariants as states
use Rattle.msg_rounds.specs.Phases.{is_idle, has_published}
use Rattle.dlm_modes.specs.declared.block.Block.{Block}
use Rattle.dlm_modes.specs.declared.mode.Mode.TheVariants.{CR}
use Rattle.dlm_space.specs.Locks.{zero_block}
use Rattle.msg_rounds.specs.Locks.{ack_res}
use Rattle.mdc_types.specs.declared.numbers.Range.{Range}
use Rattle.cluster_msgs.specs.Reading.{range_in}
use Rattle.cluster_msgs.specs.Ranges.{IsRange, spelled_range}
use Rattle.cluster_msgs.proofs.Said.{says_the_range}
use Rattle.cluster_model.specs.Joining.{told_range}
use Rattle.leg_failure.specs.Views.{works, new_view}
use Rattle.leg_failure.proofs.LegsLeftLaws.{roles_are_found}
use Rattle.cluster_msgs.specs.Messages.{IsMsg}
use Rattle.cluster_msgs.specs.Reading.{message_in}
use Rattle.cluster_model.specs.State.{State, Core, Legs, Offer, sizes}
use Rattle.cluster_model.specs.Changes.{no_view, no_new_dev}
use Rattle.cluster_model.specs.Phases.{is_in, is_metadata}
use Rattle.cluster_model.specs.Opening.{Origin, IsOrigin, core_at, is_member, locks_at, held_by_members, bitmap_lock}
use Rattle.cluster_model.specs.Contents.{Opens}
use Rattle.cluster_model.specs.Publishing.{message_of}
use Rattle.cluster_model.specs.Receiving.{published_message}
use Rattle.cluster_model.specs.Run.{Run, Step, Moves}
use Rattle.cluster_model.specs.After.{after}
use Rattle.laws_locks.specs.Rounded.{Rounded}
use Rattle.laws_locks.proofs.Runs.{run_is, rounded_after}
use Rattle.laws_sound.specs.Legs.{ViewFits, LegsFit}
use Rattle.laws_sound.specs.Copies.{RangeFits}
use Rattle.laws_sound.specs.Laws.{InRange, RunsAreInRange, KeepsALeg, RunsKeepALeg, MessagesRead, MessagesAreRead, OffersWritten, OffersAreWritten, TransfersAreOnLegs}
use Rattle.laws_sound.proofs.Views.{out_fits}
use Rattle.laws_sound.proofs.Messages.{works_there, is_msg, is_read}
use Rattle.laws_sound.proofs.Change.{Change, Changes, still, more}
use Rattle.laws_sound.proofs.LegSteps.{legs_step}
use Rattle.laws_sound.proofs.Flights.{flight_step}
use Rattle.laws_sound.proofs.CopySteps.{room_step, no_copy_fits}
use Rattle.laws_sound.proofs.RequestSteps.{none_fits}
use Rattle.laws_sound.proofs.RoundFacts.{standing, is_taken_now, node_below, has_stood}
use Rattle.laws_sound.proofs.Failing.{not_last, transfer_leg}
use Rattle.laws_sound.proofs.Places.{transfer_place}
use Rattle.mdc_types.proofs.RolesLaws.{role_of-eight}
use Rattle.md_superblock.specs.Superblock.{IsSuper}
use Rattle.md_superblock.specs.Arrays.{version_of, super_for}
use Rattle.cluster_model.specs.Superblocks.{says_of_offer}
use Rattle.laws_sound.proofs.AfterChange.{LosesNoLast, after_change}

one_step : (core new : Core) → Change core new → InRange core → InRange new
one_step core new c i = record {
  legs = legs_step core new c i.legs;
  flight = flight_step core new c i.legs i.flight;
  room = room_step core new c i.legs i.flight i.room;
}

all_steps : (core new : Core) → Changes core new → InRange core → InRange new
all_steps core new still i = i
all_steps core new (more {mid = mid} cs c) i = one_step mid new c (all_steps core mid cs i)

no_last : (old : State) (e : Event) (o : Outcome) (new : Legs) → Moves old e o new → LosesNoLast old.core e o
no_last old e (outcomes.Lost l) new m = λ t is. not_last old e l new t m is
no_last old e o new m = tt

step_in_range : (old : State) (e : Event) (o : Outcome) (new : State) → Step old e o new → Rounded old.core → Rounded new.core → InRange old.core → InRange new.core
step_in_range old e o new s before later i =
    let same : after old.core e o ≡ new.core = sym s.core in
    subst InRange same (all_steps old.core (after old.core e o)
    (after_change old.core e o before (subst Rounded s.core later).offering.offers i.legs i.flight (no_last old e o new.legs s.moves) s.accepted) i)

-- The opening.

member_leg : (o : Origin) → IsOrigin o → (l : ℕ) × (l < 8) × (works (new_view (role_of o.roles) o.sizes.sectors (λ k. false)) l ≡ true)
member_leg o i =
    let has = (roles_are_found (role_of o.roles)).1 i.leg in
    (has.0, has.1, working_here (is_working (role_of o.roles has.0)) has.2)
  where
    working_here : (b : Bool) → b ≡ true → (b && not false) ≡ true
    working_here true e = refl
    working_here false e = cc

opening_view : (o : Origin) → IsOrigin o → (b : Bool) → ViewFits o.sizes (if b then states.Up else states.Out) (if b then new_view (role_of o.roles) o.sizes.sectors (λ l. false) else no_view)
opening_view o i true = record {
  roles = i.legs;
  sure_roles = i.legs;
  lost = λ l e. cc;
  size = i.sizes.sectors.1;
  sure_size = i.sizes.sectors.1;
  sectors = λ e. (i.sizes.sectors.0, i.sizes.sectors.0);
  leg = λ e. member_leg o i;
}
opening_view o i false = out_fits o.sizes

last_of : (a b c : Bool) → (a && b && c) ≡ true → c ≡ true
last_of a b c e = grind arith

-- a new block tells the empty range
zero_told : (g : Sizes) (q : Range) → told_range (range_in zero_block.bytes) ≡ Some q → RangeFits g q
unfolding zero_block spelled_range
zero_told g q e =
    let is : IsRange (record { lo = 0; hi = 0 }) = record { hi = omega arith; order = λ lt. absurd (omega arith); empty = λ z. refl } in
    let read : range_in (replicate 64 0) ≡ Some (record { lo = 0; hi = 0 }) = (says_the_range (replicate 64 0) (record { lo = 0; hi = 0 })).1 (record { range = is; bytes_are = zeros }) in
    let none : None ≡ Some q = sym (ap told_range read) ∙ e in
    cc
  where
    zeros : replicate 64 0 ≡ spelled_range (record { lo = 0; hi = 0 })
    zeros = refl

opening_told : (o : Origin) (m : ℕ) (q : Range) → m < 16 → told_range (range_in (locks_at o m).block.bytes) ≡ Some q → RangeFits o.sizes q
opening_told o m q lt e = by (m == ack_res) (m == no_new_dev) e
  where
    by : (a b : Bool) → told_range (range_in (if a then held_by_members o CR else if b then held_by_members o CR else bitmap_lock o m).block.bytes) ≡ Some q → RangeFits o.sizes q
    by true b e = zero_told o.sizes q e
    by false true e = zero_told o.sizes q e
    by false false e = zero_told o.sizes q e

opening_in_range : (o : Origin) → IsOrigin o → length o.uuid ≡ 16 → InRange (core_at o)
opening_in_range o i uuid = record {
  legs = record {
    sizes_fit = i.sizes;
    name = i.name;
    uuid = uuid;
    events = record { some_completed = (i.events.0, omega arith); few_drawn = i.events.1 };
    views = λ n. opening_view o i (is_member o n);
    offers = λ n x e. cc;
    tried = λ n l says e. cc;
    heard = λ n e. cc;
  };
  flight = record {
    requests = λ n. none_fits o.sizes 0 0;
    bitmaps = λ n. record {
      set = λ c e. ltb-true c (chunks_of o.sizes) (last_of (is_member o n) o.warm (nat_lt c (chunks_of o.sizes)) e);
      need = λ c e. cc;
      counts = λ c. refl;
    };
    resting = λ n e. (refl, refl);
    leaving = λ n e. (refl, refl);
  };
  room = record {
    copies = λ n. no_copy_fits o.sizes;
    suspended = λ n m r e. cc;
    told = λ m r lt e. opening_told o m r lt e;
    gatherings = λ n. record { next = omega arith; gathered = λ c e. cc };
    recoveries = λ n r e. cc;
    heirs = λ d h e. cc;
  };
}

-- Runs.

pub rounded : (o : Origin) (start end : State) (past : List Entry) → Opens o start → Run start past end → Rounded end.core
rounded o start end past opens run =
    let r = run_is o start opens.core past end run in
    subst Rounded (sym r.leads) (rounded_after o opens.origin past r.accepted)

in_range : (o : Origin) (start : State) (past : List Entry) (end : State) → Opens o start → length o.uuid ≡ 16 → Run start past end → InRange end.core
in_range o start [] end opens uuid run = subst (λ (s : State). InRange s.core) (sym run) (subst InRange (sym opens.core) (opening_in_range o opens.origin uuid))
in_range o start (x ∷ past) end opens uuid run =
    step_in_range run.0 x.event x.outcome end run.2 (rounded o start run.0 past opens run.1) (rounded o start end (x ∷ past) opens run) (in_range o start past run.0 opens uuid run.1)

pub runs_are_in_range : RunsAreInRange
runs_are_in_range o start end past opens run =
    let uuid : length o.uuid ≡ 16 = opens.origin.lengths.1 in in_range o start past end opens uuid run

-- Legs.

offer_up : (core : Core) (n : ℕ) (o : Offer) → Rounded core → core.offer n ≡ Some o → is_in (core.state n) ≡ true
offer_up core n o r is = (standing (core.state n) (core.sender n) (core.offer n) (r.offering.offers n) (has_stood (core.state n) (core.sender n) (core.offer n) o (r.offering.offers n) is)).up

keeps_a_leg : (core : Core) → Rounded core → LegsFit core → KeepsALeg core
keeps_a_leg core r i = record {
  leg = λ n up. let has = (i.views n).leg up in first_such_has (works (core.view n)) 0 8 has.0 (omega arith) (omega (arith, has.1)) has.2;
  offered = λ n o is. let has = (i.views n).leg (offer_up core n o r is) in
      first_such_has (λ l. is_working (o.role l)) 0 8 has.0 (omega arith) (omega (arith, has.1)) ((i.offers n o is).working has.0 has.2);
  working = λ n l o is w. (i.offers n o is).working l w;
}

pub runs_keep_a_leg : RunsKeepALeg
runs_keep_a_leg o start end past opens run =
    let uuid : length o.uuid ≡ 16 = opens.origin.lengths.1 in keeps_a_leg end.core (rounded o start end past opens run) (in_range o start past end opens uuid run).legs

-- Messages.

offer_is_msg : (core : Core) (n : ℕ) (o : Offer) → Rounded core → LegsFit core → core.offer n ≡ Some o → IsMsg (message_of core n o)
offer_is_msg core n o r i is =
    let up = offer_up core n o r is in
    is_msg core n core.members.drawn (core.view n) o (node_below core n r.numbered up) i.sizes_fit i.uuid i.events.few_drawn (i.offers n o is) ((i.views n).leg up)

said : (core : Core) (n : ℕ) (o : Offer) → Rounded core → LegsFit core → has_published (core.sender n) ≡ true → core.offer n ≡ Some o → published_message core ≡ Some (message_of core n o)
said core n o r i out is = ap (λ (b : Block). message_in b.bytes) (r.offering.block n o out is) ∙ is_read core n o (offer_is_msg core n o r i is)

messages_read : (core : Core) → Rounded core → LegsFit core → MessagesRead core
messages_read core r i = record {
  offered = λ n o is. offer_is_msg core n o r i is;
  published = λ n o out is. said core n o r i out is;
  heard = i.heard;
  taken = λ n o t gone is.
      let phase = is_taken_now (core.receiver n).phase t in
      i.heard n (ap is_idle phase) ∙ said core (core.receiver n).from o r i (r.phased.calls n phase gone) is;
}

pub messages_are_read : MessagesAreRead
messages_are_read o start end past opens run =
    let uuid : length o.uuid ≡ 16 = opens.origin.lengths.1 in messages_read end.core (rounded o start end past opens run) (in_range o start past end opens uuid run).legs

-- Superblocks and transfers.

says_version : (b : Bool) → (1 ≤ version_of b) × (version_of b ≤ 2)
says_version true = (omega arith, omega arith)
says_version false = (omega arith, omega arith)

offer_is_super : (core : Core) (n l : ℕ) (o : Offer) → Rounded core → LegsFit core → core.offer n ≡ Some o → is_metadata o.wish ≡ true → l < (sizes core).legs → IsSuper (super_for core.array l (says_of_offer o))
offer_is_super core n l o r i is meta lt =
    let f = i.offers n o is in
    let has = (i.views n).leg (offer_up core n o r is) in
    let e = f.events meta in
    record {
      name = i.name;
      size = f.size;
      room = i.sizes_fit.room;
      raid_disks = i.sizes_fit.legs;
      version = says_version core.array.sizes.second;
      device = lt;
      events = (e.0, omega (arith, e.1, i.events.few_drawn));
      spares = λ k le below. role_of-eight o.role k below ∙ f.roles k le;
      working = works_there (sizes core) core.members.drawn (core.view n) o f has;
    }

offers_written : (core : Core) → Rounded core → LegsFit core → OffersWritten core
offers_written core r i n l o is meta lt = offer_is_super core n l o r i is meta lt

pub offers_are_written : OffersAreWritten
offers_are_written o start end past opens run =
    let uuid : length o.uuid ≡ 16 = opens.origin.lengths.1 in offers_written end.core (rounded o start end past opens run) (in_range o start past end opens uuid run).legs

pub transfers_are_on_legs : TransfersAreOnLegs
transfers_are_on_legs o start end past opens run =
    let uuid : length o.uuid ≡ 16 = opens.origin.lengths.1 in
    let i = in_range o start past end opens uuid run in
    λ e t ok is. record { leg = transfer_leg end.core e t i.legs ok is; place = transfer_place end.core e t i ok is }
