-- Each change keeps what nodes know of the legs in range, and leaves a leg.
use Rattle.std.proofs.Common.{◌≡◌, ◌⊎◌, inl, inr, ℕ, ◌<◌, ◌≤◌, ◌^◌, ◌==◌, ◌&&◌, Bool, true, false, if◌then◌else◌, length, Option, Some, None, refl, sym, ap, subst, ◌∙◌, arith}
use Rattle.std.proofs.lemmas.Bool.{leb-true, cases_lt}
use Rattle.std.proofs.lemmas.Bool.Decides.{nat_tests}
use Rattle.dlm_modes.specs.Points.{with_at}
use Rattle.dlm_modes.specs.declared.block.Block.{Block}
use Rattle.mdc_types.specs.Geometry.{Sizes, IsGeometry}
use Rattle.mdc_types.specs.Names.{is_name}
use Rattle.mdc_types.specs.Roles.{role_of, is_working, eight}
use Rattle.mdc_types.proofs.RolesLaws.{role_of-eight, role_of-eight_past}
use Rattle.mdc_types.specs.declared.events.Wish.{Wish}
use Rattle.mdc_types.specs.declared.events.Wish.TheVariants as wishes
use Rattle.mdc_types.specs.declared.roles.Roles.{Roles}
use Rattle.mdc_types.specs.declared.roles.NodeState.TheVariants as states
use Rattle.md_superblock.specs.Arrays.{Says}
use Rattle.msg_rounds.specs.Locks.{message_res}
use Rattle.msg_rounds.specs.declared.phases.ReceiverPhase.TheVariants as receivers
use Rattle.msg_rounds.specs.Phases.{Receiving, is_idle, has_published, heard_death, now_in, taken, new_receiving}
use Rattle.node_member.specs.Members.{Members, drawn_one}
use Rattle.leg_failure.specs.Views.{NodeView, works, lost_one, acknowledged, finished, taken as view_taken}
use Rattle.cluster_msgs.specs.Reading.{message_in}
use Rattle.cluster_msgs.specs.declared.msg.Body.TheVariants as bodies
use Rattle.cluster_msgs.specs.declared.msg.Msg.{Msg}
use Rattle.cluster_model.specs.State.{Core, Offer, Tried, Untried, Loaded, sizes}
use Rattle.cluster_model.specs.Phases.{is_metadata}
use Rattle.cluster_model.specs.Changes.{no_view}
use Rattle.cluster_model.specs.Leaving.{told_of_death}
use Rattle.cluster_model.specs.Joining.{newest, view_from}
use Rattle.cluster_model.specs.Publishing.{body_of, message_of, range_told}
use Rattle.cluster_model.specs.Superblocks.{written_on}
use Rattle.cluster_model.specs.Wishes.{offer_of}
use Rattle.laws_sound.specs.Legs.{SpareBeyond, ViewFits, OfferFits, SaysFit, EventsFit, OffersFit, TriedFit, HeardFits, LegsFit}
use Rattle.laws_sound.proofs.Points.{at_one, at_two, some_at, none_at}
use Rattle.laws_sound.proofs.Change.{Change, SameNumbers, Hears, block_in, quiet, dies, tells, readies, turns, joins, loads, comes, leaves, offers, writes_super, publishes, shuts, opens, announces, finishes, idles, takes, hears_roles, hears_range, hears, resumes_whole, resumes, ends_pass, recovers, recovered, loses, voids}
use Rattle.laws_sound.proofs.Views.{lost_fits, out_fits, join_fits, ack_fits, take_fits, finish_fits, come_fits}
use Rattle.laws_sound.proofs.Messages.{is_msg, is_read}
use Rattle.laws_sound.proofs.Offering.{draws, new_offer}

pub same_array : (core new : Core) → Change core new → new.array ≡ core.array
same_array core new (quiet head cut locks b) = refl
same_array core new c = refl

-- Events numbers.

same_events : (new old : Members) → SameNumbers new old → EventsFit old.drawn old.completed → EventsFit new.drawn new.completed
same_events new old same i = subst (λ d. EventsFit d new.completed) (sym same.drawn) (subst (EventsFit old.drawn) (sym same.completed) i)

drawn_more : (b : Bool) (m : Members) → (b ≡ true → m.drawn < 2 ^ 63) → EventsFit m.drawn m.completed → EventsFit (if b then drawn_one m else m).drawn (if b then drawn_one m else m).completed
drawn_more true m lt i = record { some_completed = (i.some_completed.0, omega (arith, i.some_completed.1)); few_drawn = omega (arith, lt refl) }
drawn_more false m lt i = i

events_step : (core new : Core) → Change core new → LegsFit core → EventsFit new.members.drawn new.members.completed
events_step core new (leaves n members locks sender same b p r z) i = same_events members core.members same i.events
events_step core new (offers n wish none up e) i = drawn_more (is_metadata wish) core.members (draws core n wish e) i.events
events_step core new (finishes n o locks is meta up b) i = record { some_completed = (i.offers n o is).events meta; few_drawn = i.events.few_drawn }
events_step core new c i = i.events

-- Views.

says_state : (core : Core) (o : Offer) (w : Wish) (events size : ℕ) (roles : Roles) → (body_of core o w ≡ bodies.Metadata events roles size) ⊎ (body_of core o w ≡ bodies.Capacity events roles size) → (roles ≡ eight o.role) × (size ≡ o.size)
says_state core o (wishes.Range r) events size roles (inl e) = cc
says_state core o (wishes.Range r) events size roles (inr e) = cc
says_state core o (wishes.NewDisk l) events size roles (inl e) = cc
says_state core o (wishes.NewDisk l) events size roles (inr e) = cc
says_state core o (wishes.Remove l) events size roles (inl e) = cc
says_state core o (wishes.Remove l) events size roles (inr e) = cc
says_state core o (wishes.ReAdd l) events size roles (inl e) = cc
says_state core o (wishes.ReAdd l) events size roles (inr e) = cc
says_state core o wishes.Unclean events size roles (inl e) = cc
says_state core o wishes.Unclean events size roles (inr e) = cc
says_state core o (wishes.Grow z) events size roles (inl e) = cc
says_state core o (wishes.Grow z) events size roles (inr e) = (cc, cc)
says_state core o w events size roles (inl e) = (cc, cc)
says_state core o w events size roles (inr e) = cc

-- the message that was heard is that of the sender's offer
pub heard_is : (core : Core) (n : ℕ) (m : Msg) (from : ℕ) (o : Offer) → LegsFit core → Hears core n m from o → m ≡ message_of core from o
heard_is core n m from o i h =
    let is = is_msg core from core.members.drawn (core.view from) o h.node i.sizes_fit i.uuid i.events.few_drawn (i.offers from o h.offer) ((i.views from).leg h.up) in
    let read : message_in (block_in core.locks).bytes ≡ Some (message_of core from o) = ap (λ (b : Block). message_in b.bytes) h.block ∙ is_read core from o is in
    let both : Some m ≡ Some (message_of core from o) = sym h.heard ∙ i.heard n h.busy ∙ read in
    cc

eight_spare : (g : Sizes) (role : _) → SpareBeyond g role → SpareBeyond g (role_of (eight role))
eight_spare g role spare l le = elim (cases_lt l 8) [
  | inl lt ↦ role_of-eight role l lt ∙ spare l le
  | inr past ↦ role_of-eight_past role l past
]

hear_fits : (core : Core) (n events size : ℕ) (roles : Roles) (m : Msg) (from : ℕ) (o : Offer) → LegsFit core → Hears core n m from o → (m.body ≡ bodies.Metadata events roles size) ⊎ (m.body ≡ bodies.Capacity events roles size)
    → ViewFits (sizes core) (core.state n) (view_taken (core.view n) (role_of roles) size)
hear_fits core n events size roles m from o i h said =
    let same = heard_is core n m from o i h in
    let is = says_state core o o.wish events size roles (subst (λ x. (x.body ≡ bodies.Metadata events roles size) ⊎ (x.body ≡ bodies.Capacity events roles size)) same said) in
    let f = i.offers from o h.offer in
    let has = (i.views from).leg h.up in
    rw (is.0, is.1) (take_fits (sizes core) (core.state n) (core.view n) (role_of (eight o.role)) o.size (i.views n) (eight_spare (sizes core) o.role f.roles) f.size
    (has.0, has.1, ap is_working (role_of-eight o.role has.0 has.1) ∙ f.working has.0 has.2))

views_step : (core new : Core) → Change core new → LegsFit core → (m : ℕ) → ViewFits (sizes new) (new.state m) (new.view m)
views_step core new (dies n) i = at_two (λ m. ViewFits (sizes core)) core.state core.view n states.Out no_view i.views (out_fits (sizes core))
views_step core new (leaves n members locks sender same b p r z) i = at_two (λ m. ViewFits (sizes core)) core.state core.view n states.Out no_view i.views (out_fits (sizes core))
views_step core new (joins n head locks b out) i = at_one (λ m s. ViewFits (sizes core) s (core.view m)) core.state n states.Joining i.views (join_fits (sizes core) (core.state n) (core.view n) (i.views n))
views_step core new (comes n joining none beyond fresh found) i = at_two (λ m. ViewFits (sizes core)) core.state core.view n states.Loaded (view_from (core.tried n) (newest (core.tried n))) i.views
    (come_fits (sizes core) (core.tried n) (i.tried n) (omega (arith, i.events.some_completed.0, leb-true _ _ fresh)) found)
views_step core new (finishes n o locks is meta up b) i = at_two (λ m. ViewFits (sizes core)) core.state core.view n states.Up (finished (core.view n) o.role o.size) i.views
    (finish_fits (sizes core) core.members.drawn (core.state n) (core.view n) o (i.views n) (i.offers n o is) up)
views_step core new (hears_roles n locks events size roles m from o b h said) i = at_one (λ k v. ViewFits (sizes core) (core.state k) v) core.view n (view_taken (core.view n) (role_of roles) size) i.views
    (hear_fits core n events size roles m from o i h said)
views_step core new (resumes_whole n locks b) i = at_one (λ k v. ViewFits (sizes core) (core.state k) v) core.view n (acknowledged (core.view n)) i.views (ack_fits (sizes core) (core.state n) (core.view n) (i.views n))
views_step core new (loses n l sender offer p sub last lt) i = at_one (λ k v. ViewFits (sizes core) (core.state k) v) core.view n (lost_one (core.view n) l) i.views (lost_fits (sizes core) (core.state n) (core.view n) l (i.views n) last lt)
views_step core new c i = i.views

-- Offers.

more_drawn : (g : Sizes) (a b : ℕ) (v : NodeView) (o : Offer) → a ≤ b → OfferFits g a v o → OfferFits g b v o
more_drawn g a b v o le f = record { wish = f.wish; roles = f.roles; size = f.size; events = λ e. ((f.events e).0, omega (arith, (f.events e).1, le)); working = f.working }

fewer_work : (g : Sizes) (drawn : ℕ) (v w : NodeView) (o : Offer) → ((l : ℕ) → works w l ≡ true → works v l ≡ true) → OfferFits g drawn v o → OfferFits g drawn w o
fewer_work g drawn v w o fewer f = record { wish = f.wish; roles = f.roles; size = f.size; events = f.events; working = λ l e. f.working l (fewer l e) }

lost_fewer : (v : NodeView) (l k : ℕ) → works (lost_one v l) k ≡ true → works v k ≡ true
lost_fewer v l k e = grind (arith, nat_tests)

written_fits : (g : Sizes) (drawn : ℕ) (v : NodeView) (o : Offer) (l : ℕ) → OfferFits g drawn v o → OfferFits g drawn v (written_on l o)
written_fits g drawn v o l f = record { wish = f.wish; roles = f.roles; size = f.size; events = f.events; working = f.working }

still_more : (b : Bool) (m : Members) → m.drawn ≤ (if b then drawn_one m else m).drawn
still_more true m = omega arith
still_more false m = omega arith

none_some : {A : Type 0} (x : Option A) (a : A) → x ≡ None → x ≡ Some a → ⊥
none_some None a e is = cc
none_some (Some b) a e is = cc

module _ (core : Core) (i : LegsFit core) where
  -- the node has no offer, whatever its view
  gone : (n : ℕ) (v : NodeView) → OffersFit (sizes core) core.members.drawn (with_at core.view n v) (with_at core.offer n None)
  gone n v = at_two (λ m v x. (o : Offer) → x ≡ Some o → OfferFits (sizes core) core.members.drawn v o) core.view core.offer n v None i.offers (λ o e. cc)

  gone_twice : (n : ℕ) (v : NodeView) → OffersFit (sizes core) core.members.drawn (with_at core.view n v) (with_at (with_at core.offer n None) n None)
  gone_twice n v = at_two (λ m v x. (o : Offer) → x ≡ Some o → OfferFits (sizes core) core.members.drawn v o) core.view (with_at core.offer n None) n v None
      (none_at (λ m o. OfferFits (sizes core) core.members.drawn (core.view m) o) core.offer n i.offers) (λ o e. cc)

  done : (n : ℕ) → OffersFit (sizes core) core.members.drawn core.view (with_at core.offer n None)
  done n = none_at (λ m o. OfferFits (sizes core) core.members.drawn (core.view m) o) core.offer n i.offers

  silent : (n : ℕ) (v : NodeView) → core.offer n ≡ None → OffersFit (sizes core) core.members.drawn (with_at core.view n v) core.offer
  silent n v none = at_one (λ m v. (o : Offer) → core.offer m ≡ Some o → OfferFits (sizes core) core.members.drawn v o) core.view n v i.offers (λ o e. absurd (none_some (core.offer n) o none e))

offers_step : (core new : Core) → Change core new → LegsFit core → OffersFit (sizes new) new.members.drawn new.view new.offer
offers_step core new (dies n) i = gone_twice core i n no_view
offers_step core new (leaves n members locks sender same b p r z) i = subst (λ d. OffersFit (sizes core) d (with_at core.view n no_view) (with_at core.offer n None)) (sym same.drawn) (gone core i n no_view)
offers_step core new (comes n joining none beyond fresh found) i = silent core i n (view_from (core.tried n) (newest (core.tried n))) none
offers_step core new (offers n wish none up e) i =
    let drawn : ℕ = (if is_metadata wish then drawn_one core.members else core.members).drawn in
    some_at (λ m o. OfferFits (sizes core) drawn (core.view m) o) core.offer n (Some (offer_of core n wish))
    (λ m o is. more_drawn (sizes core) core.members.drawn drawn (core.view m) o (still_more (is_metadata wish) core.members) (i.offers m o is))
    (λ o is. let same : offer_of core n wish ≡ o = cc in subst (OfferFits (sizes core) drawn (core.view n)) same (new_offer core n wish e up (i.views n)))
offers_step core new (writes_super n l o is) i = some_at (λ m o. OfferFits (sizes core) core.members.drawn (core.view m) o) core.offer n (Some (written_on l o)) i.offers
    (λ x e. let same : written_on l o ≡ x = cc in subst (OfferFits (sizes core) core.members.drawn (core.view n)) same (written_fits (sizes core) core.members.drawn (core.view n) o l (i.offers n o is)))
offers_step core new (opens n o r locks is w b) i = done core i n
offers_step core new (announces n wish locks b) i = done core i n
offers_step core new (idles n locks b) i = done core i n
offers_step core new (voids n) i = done core i n
offers_step core new (finishes n o locks is meta up b) i = gone core i n (finished (core.view n) o.role o.size)
offers_step core new (hears_roles n locks events size roles m from o b h said) i = silent core i n (view_taken (core.view n) (role_of roles) size) h.silent
offers_step core new (resumes_whole n locks b) i = at_one (λ m v. (o : Offer) → core.offer m ≡ Some o → OfferFits (sizes core) core.members.drawn v o) core.view n (acknowledged (core.view n)) i.offers
    (λ o is. fewer_work (sizes core) core.members.drawn (core.view n) (acknowledged (core.view n)) o (λ l e. e) (i.offers n o is))
offers_step core new (loses n l sender offer p sub last lt) i = at_one (λ m v. (o : Offer) → offer m ≡ Some o → OfferFits (sizes core) core.members.drawn v o) core.view n (lost_one (core.view n) l) (λ m o is. i.offers m o (sub m o is))
    (λ o is. fewer_work (sizes core) core.members.drawn (core.view n) (lost_one (core.view n) l) o (lost_fewer (core.view n) l) (i.offers n o (sub n o is)))
offers_step core new c i = i.offers

-- What joiners read.

untried : (g : Sizes) (tried : ℕ → ℕ → Tried) (n : ℕ) → TriedFit g tried → TriedFit g (with_at tried n (λ l. Untried))
untried g tried n i = at_one (λ m f. (l : ℕ) (says : Says) → f l ≡ Loaded says → SaysFit g says) tried n (λ l. Untried) i (λ l says e. cc)

tried_at : (g : Sizes) (tried : ℕ → ℕ → Tried) (n l : ℕ) (t : Tried) → TriedFit g tried → ((says : Says) → t ≡ Loaded says → SaysFit g says) → TriedFit g (λ m k. if (m == n) && (k == l) then t else tried m k)
tried_at g tried n l t i f m k says e = by ((m == n) && (k == l)) e
  where
    by : (b : Bool) → (if b then t else tried m k) ≡ Loaded says → SaysFit g says
    by true e = f says e
    by false e = i m k says e

tried_step : (core new : Core) → Change core new → LegsFit core → TriedFit (sizes new) new.tried
tried_step core new (dies n) i = untried (sizes core) core.tried n i.tried
tried_step core new (leaves n members locks sender same b p r z) i = untried (sizes core) core.tried n i.tried
tried_step core new (comes n joining none beyond fresh found) i = untried (sizes core) core.tried n i.tried
tried_step core new (loads n l t f) i = tried_at (sizes core) core.tried n l t i.tried f
tried_step core new c i = i.tried

-- What receivers heard.

module _ (receiver : ℕ → Receiving) (heard : ℕ → Option Msg) where
  same_block : (new old : Block) → new ≡ old → HeardFits receiver heard old → HeardFits receiver heard new
  same_block new old e i = subst (HeardFits receiver heard) (sym e) i

  -- a busy receiver stays so
  busy_still : (n : ℕ) (r : Receiving) (block : Block) → (is_idle r.phase ≡ false → is_idle (receiver n).phase ≡ false) → HeardFits receiver heard block → HeardFits (with_at receiver n r) heard block
  busy_still n r block e i = at_one (λ m (x : Receiving). is_idle x.phase ≡ false → heard m ≡ message_in block.bytes) receiver n r i (λ busy. i n (e busy))

  -- it is idle, and has forgotten its message
  forgets : (n : ℕ) (r : Receiving) (block : Block) → is_idle r.phase ≡ true → HeardFits receiver heard block → HeardFits (with_at receiver n r) (with_at heard n None) block
  forgets n r block idle i = at_two (λ m (x : Receiving) y. is_idle x.phase ≡ false → y ≡ message_in block.bytes) receiver heard n r None i (λ busy. cc)

  forgets_idle : (n : ℕ) (block : Block) → is_idle (receiver n).phase ≡ true → HeardFits receiver heard block → HeardFits receiver (with_at heard n None) block
  forgets_idle n block idle i = at_one (λ m y. is_idle (receiver m).phase ≡ false → y ≡ message_in block.bytes) heard n None i (λ busy. cc)

  -- nobody listens
  all_idle : (block : Block) → ((m : ℕ) → is_idle (receiver m).phase ≡ true) → HeardFits receiver heard block
  all_idle block idle m busy = let e = idle m in cc

  hears_now : (n from : ℕ) (block : Block) → HeardFits receiver heard block → HeardFits (with_at receiver n (taken from)) (with_at heard n (message_in block.bytes)) block
  hears_now n from block i = at_two (λ m (x : Receiving) y. is_idle x.phase ≡ false → y ≡ message_in block.bytes) receiver heard n (taken from) (message_in block.bytes) i (λ busy. refl)

-- a death is heard, and no phase changes
dead_still : (b : Bool) (n : ℕ) (r : Receiving) → is_idle (if b then heard_death n r else r).phase ≡ is_idle r.phase
dead_still true n r = refl
dead_still false n r = refl

dies_heard : (core : Core) (n : ℕ) → LegsFit core → HeardFits (λ m. if m == n then new_receiving else told_of_death core n (core.receiver m)) (with_at core.heard n None) (block_in core.locks)
dies_heard core n i m = by (m == n)
  where
    by : (b : Bool) → is_idle (if b then new_receiving else told_of_death core n (core.receiver m)).phase ≡ false → (if b then None else core.heard m) ≡ message_in (block_in core.locks).bytes
    by true busy = cc
    by false busy = i.heard m (sym (dead_still (has_published (core.sender n)) n (core.receiver m)) ∙ busy)

heard_step : (core new : Core) → Change core new → LegsFit core → HeardFits new.receiver new.heard (block_in new.locks)
heard_step core new (quiet head cut locks b) i = same_block core.receiver core.heard (block_in locks) (block_in core.locks) (b message_res) i.heard
heard_step core new (dies n) i = dies_heard core n i
heard_step core new (tells n s locks b p) i = same_block core.receiver core.heard (block_in locks) (block_in core.locks) (b message_res) i.heard
heard_step core new (readies n locks b busy) i =
    let r = now_in receivers.Ready (core.receiver n) in
    same_block (with_at core.receiver n r) core.heard (block_in locks) (block_in core.locks) (b message_res) (busy_still core.receiver core.heard n r (block_in core.locks) (λ e. busy) i.heard)
heard_step core new (turns n t locks b) i = same_block core.receiver core.heard (block_in locks) (block_in core.locks) (b message_res) i.heard
heard_step core new (joins n head locks b out) i = same_block core.receiver core.heard (block_in locks) (block_in core.locks) (b message_res) i.heard
heard_step core new (leaves n members locks sender same b p idle z) i =
    same_block core.receiver (with_at core.heard n None) (block_in locks) (block_in core.locks) (b message_res) (forgets_idle core.receiver core.heard n (block_in core.locks) idle i.heard)
heard_step core new (publishes n o locks is b idle due) i = all_idle core.receiver core.heard (block_in locks) idle
heard_step core new (shuts n r o locks is w lt b idle) i = all_idle core.receiver core.heard (block_in (range_told locks n r)) idle
heard_step core new (opens n o r locks is w b) i = same_block core.receiver core.heard (block_in locks) (block_in core.locks) (b message_res) i.heard
heard_step core new (announces n wish locks b) i = same_block core.receiver core.heard (block_in locks) (block_in core.locks) (b message_res) i.heard
heard_step core new (finishes n o locks is meta up b) i = same_block core.receiver core.heard (block_in locks) (block_in core.locks) (b message_res) i.heard
heard_step core new (idles n locks b) i = same_block core.receiver core.heard (block_in locks) (block_in core.locks) (b message_res) i.heard
heard_step core new (takes n from locks b) i =
    same_block (with_at core.receiver n (taken from)) (with_at core.heard n (message_in (block_in core.locks).bytes)) (block_in locks) (block_in core.locks) (b message_res) (hears_now core.receiver core.heard n from (block_in core.locks) i.heard)
heard_step core new (hears_roles n locks events size roles m from o b h said) i =
    let r = now_in receivers.Waiting (core.receiver n) in
    same_block (with_at core.receiver n r) core.heard (block_in locks) (block_in core.locks) (b message_res) (busy_still core.receiver core.heard n r (block_in core.locks) (λ e. h.busy) i.heard)
heard_step core new (hears_range n locks x m from o b h said) i =
    let r = now_in receivers.Waiting (core.receiver n) in
    same_block (with_at core.receiver n r) core.heard (block_in locks) (block_in core.locks) (b message_res) (busy_still core.receiver core.heard n r (block_in core.locks) (λ e. h.busy) i.heard)
heard_step core new (hears n locks b busy) i =
    let r = now_in receivers.Waiting (core.receiver n) in
    same_block (with_at core.receiver n r) core.heard (block_in locks) (block_in core.locks) (b message_res) (busy_still core.receiver core.heard n r (block_in core.locks) (λ e. busy) i.heard)
heard_step core new (resumes_whole n locks b) i =
    let r = now_in receivers.Idle (core.receiver n) in
    same_block (with_at core.receiver n r) (with_at core.heard n None) (block_in locks) (block_in core.locks) (b message_res) (forgets core.receiver core.heard n r (block_in core.locks) refl i.heard)
heard_step core new (resumes n locks b) i =
    let r = now_in receivers.Idle (core.receiver n) in
    same_block (with_at core.receiver n r) (with_at core.heard n None) (block_in locks) (block_in core.locks) (b message_res) (forgets core.receiver core.heard n r (block_in core.locks) refl i.heard)
heard_step core new (ends_pass n locks b) i = same_block core.receiver core.heard (block_in locks) (block_in core.locks) (b message_res) i.heard
heard_step core new (recovers n d locks b x y) i = same_block core.receiver core.heard (block_in locks) (block_in core.locks) (b message_res) i.heard
heard_step core new (recovered n r locks is b) i = same_block core.receiver core.heard (block_in locks) (block_in core.locks) (b message_res) i.heard
heard_step core new c i = i.heard

pub legs_step : (core new : Core) → Change core new → LegsFit core → LegsFit new
legs_step core new c i = record {
  sizes_fit = subst (λ a. IsGeometry a.sizes) (sym (same_array core new c)) i.sizes_fit;
  name = subst (λ a. is_name a.name ≡ true) (sym (same_array core new c)) i.name;
  uuid = subst (λ a. length a.uuid ≡ 16) (sym (same_array core new c)) i.uuid;
  events = events_step core new c i;
  views = views_step core new c i;
  offers = offers_step core new c i;
  tried = tried_step core new c i;
  heard = heard_step core new c i;
}
