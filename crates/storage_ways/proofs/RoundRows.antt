-- The ways of a round: it is published, taken, processed, resumed and dropped.
use Rattle.std.proofs.Common.{◌≡◌, ◌≢◌, ℕ, ◌<◌, ◌≤◌, ◌==◌, Bool, true, false, not, if◌then◌else◌, [], ◌∷◌, Option, Some, None, refl, sym, ap, subst, ◌∙◌, arith}
use Rattle.std.specs.Prelude.{is_some}
use Rattle.dlm_modes.specs.Guards.{first_of}
use Rattle.mdc_types.specs.Geometry.{Sizes}
use Rattle.mdc_types.specs.declared.events.Wish.{Wish}
use Rattle.mdc_types.specs.declared.events.Wish.TheVariants as wishes
use Rattle.mdc_types.specs.declared.numbers.Range.{Range}
use Rattle.mdc_types.specs.declared.refusals.Refusal.TheVariants.{Draining}
use Rattle.cluster_msgs.specs.Ranges.{IsRange}
use Rattle.cluster_msgs.specs.declared.msg.Body.{Body}
use Rattle.cluster_msgs.specs.declared.msg.Body.TheVariants as bodies
use Rattle.msg_rounds.specs.Locks.{message_res, published}
use Rattle.msg_rounds.specs.Phases.{is_idle, has_published, has_message}
use Rattle.msg_rounds.specs.Refusals.{is_offered, may_resume}
use Rattle.msg_rounds.specs.declared.phases.SenderPhase.{SenderPhase}
use Rattle.msg_rounds.specs.declared.phases.SenderPhase.TheVariants as senders
use Rattle.msg_rounds.specs.declared.phases.ReceiverPhase.{ReceiverPhase}
use Rattle.mirror_io.specs.Flight.{write_within, write_from}
use Rattle.mirror_io.proofs.Lookups.{write_within-none}
use Rattle.suspend_ranges.specs.Suspended.{entry_of}
use Rattle.cluster_model.specs.State.{Core, Offer, sizes}
use Rattle.cluster_model.specs.Changes.{sender_now, device_unlocked}
use Rattle.cluster_model.specs.Phases.{is_in, is_up, is_metadata, is_unclean, offers as offers_wish, sender_is}
use Rattle.cluster_model.specs.Publishing.{publish_guards, offer_is_due, wish_is_due, publish, publish_offer, publish_wish, block_of, body_of, range_told}
use Rattle.cluster_model.specs.Receiving.{take_guards, take, called_by, published_message}
use Rattle.laws_locks.specs.Rounded.{has_token, stands}
use Rattle.laws_sound.specs.Legs.{WindowFits, WishFits}
use Rattle.laws_sound.proofs.Guarded.{all_none, first_none, unless_none, refused_none, living}
use Rattle.laws_sound.proofs.RoundFacts.{Standing, standing}
use Rattle.laws_roles.proofs.FinishRows.{others_none}
use Rattle.storage_ways.proofs.Parts.{is_range, told_by}
use Rattle.storage_ways.proofs.Place.{Around, here, Place, sound_of}
use Rattle.storage_ways.proofs.Blocks.{retold, told_high, told_range_at, told_unlocked, told_published}
use Rattle.storage_ways.proofs.ComingRows.{silent_by}
use Rattle.storage_ways.proofs.GoingRows.{no_write}
use Rattle.storage_ways.proofs.Ways.{Way, Publishing, NoneWithin, shuts, publishes, takes}

offered_is : (s : SenderPhase) → is_offered s ≡ true → s ≡ senders.Offered
offered_is senders.Offered e = refl
offered_is s e = cc

processed_busy : (r : ReceiverPhase) → may_resume r ≡ true → is_idle r ≡ false
processed_busy r e = grind arith

published_has : (s : SenderPhase) → has_published s ≡ true → has_token s ≡ true
published_has s e = grind arith

-- Bodies of messages.

abbrev pub is_ranging : Body → Bool
is_ranging (bodies.Resyncing r) = true
is_ranging b = false

pub ranging_body : (core : Core) (o : Offer) (w : Wish) → is_ranging (body_of core o w) ≡ is_range w
ranging_body core o wishes.Meta = refl
ranging_body core o (wishes.Spare l) = refl
ranging_body core o (wishes.Rebuild l) = refl
ranging_body core o (wishes.Work l) = refl
ranging_body core o (wishes.Range r) = refl
ranging_body core o (wishes.NewDisk l) = refl
ranging_body core o (wishes.Remove l) = refl
ranging_body core o (wishes.ReAdd l) = refl
ranging_body core o wishes.Unclean = refl
ranging_body core o (wishes.Grow z) = refl

pub range_wish : (core : Core) (o : Offer) (w : Wish) (r : Range) → body_of core o w ≡ bodies.Resyncing r → w ≡ wishes.Range r
range_wish core o wishes.Meta r e = cc
range_wish core o (wishes.Spare l) r e = cc
range_wish core o (wishes.Rebuild l) r e = cc
range_wish core o (wishes.Work l) r e = cc
range_wish core o (wishes.Range s) r e = let same : s ≡ r = cc in ap wishes.Range same
range_wish core o (wishes.NewDisk l) r e = cc
range_wish core o (wishes.Remove l) r e = cc
range_wish core o (wishes.ReAdd l) r e = cc
range_wish core o wishes.Unclean r e = cc
range_wish core o (wishes.Grow z) r e = cc

-- Ranges.

is_range_by : (g : Sizes) (r : Range) → WindowFits g r → g.room ≤ 131072 → IsRange r
is_range_by g r f le = let hi = f.hi in record { hi = omega (arith, hi, le); order = f.order; empty = f.empty }

window_of : (g : Sizes) (w : Wish) (r : Range) → w ≡ wishes.Range r → WishFits g w → WindowFits g r
window_of g w r e f = subst (WishFits g) e f

not_other : (b : Bool) → not b ≡ true → b ≡ false
not_other b e = grind arith

module _ (core : Core) (a : Around) (p : Place core a) where
  pub its_offer : (n : ℕ) → stands (core.sender n) ≡ true → Standing (core.state n) (core.offer n)
  its_offer n up = standing (core.state n) (core.sender n) (core.offer n) (p.known.rounded.offering.offers n) up

  pub none_within : (n lo hi : ℕ) → write_within lo hi (core.writes n) ≡ None → NoneWithin (here core a) n lo hi
  none_within n lo hi none k x found = write_within-none lo hi k (core.writes n) x none found

  -- who offers something else than `meta` is up
  up_unless : (n : ℕ) (o : Offer) → core.offer n ≡ Some o → is_metadata o.wish ≡ false → is_up (core.state n) ≡ true
  up_unless n o is other = by (is_up (core.state n)) refl
    where
      by : (b : Bool) → is_up (core.state n) ≡ b → b ≡ true
      by true e = refl
      by false e = let meta : is_metadata o.wish ≡ true = sym (ap (offers_wish is_metadata) is) ∙ (sound_of core a p).phases.meta n (ap is_some is) e in cc

  -- nobody else has published
  pub only_one : (n : ℕ) → has_token (core.sender n) ≡ true → (m : ℕ) → m ≢ n → has_published (core.sender m) ≡ false
  only_one n has m ne = by (has_published (core.sender m)) refl
    where
      by : (b : Bool) → has_published (core.sender m) ≡ b → b ≡ false
      by false e = refl
      by true e = absurd (ne (p.known.rounded.phased.alone m n (published_has (core.sender m) e) has))

  -- Publishing.

  record Due (n : ℕ) : Type 0 where
    offer : Offer
    is : core.offer n ≡ Some offer
    offered : core.sender n ≡ senders.Offered
    inside : is_in (core.state n) ≡ true
    node : n < 16
    due : first_of (wish_is_due core n offer offer.wish) ≡ None
    calm : (m : ℕ) → is_idle (core.receiver m).phase ≡ true

  due : (n : ℕ) → first_of (publish_guards core n) ≡ None → Due n
  due n ok =
      let first = sender_is core n (is_offered (core.sender n)) in
      let l = living core n (first ∷ offer_is_due core n (core.offer n)) p.known.rounded.numbered.nodes ok in
      let one = first_none first (offer_is_due core n (core.offer n)) l.rest in
      let offered = offered_is (core.sender n) (unless_none (is_offered (core.sender n)) _ one.0) in
      let s = its_offer n (ap stands offered) in
      record {
        offer = s.offer;
        is = s.is;
        offered = offered;
        inside = s.up;
        node = l.node;
        due = subst (λ x. first_of (offer_is_due core n x) ≡ None) s.is one.1;
        calm = λ m. ap is_idle (p.known.rounded.phased.calm n m (ap has_message offered));
      }

  shut : (n : ℕ) (d : Due n) (r : Range) → d.offer.wish ≡ wishes.Range r → Way (here core a) (here (publish_wish (record (sender_now core n senders.Published) { locks = device_unlocked (published core.locks n (block_of core n d.offer)) n }) n (wishes.Range r)) a)
  shut n d r e =
      let locks = device_unlocked (published core.locks n (block_of core n d.offer)) n in
      let same : told_by locks ≡ told_by core.locks = told_unlocked (published core.locks n (block_of core n d.offer)) n ∙ told_published core.locks n (block_of core n d.offer) in
      let fits = p.known.range.legs.offers n d.offer d.is in
      let is = is_range_by (sizes core) r (window_of (sizes core) d.offer.wish r e fits.wish) p.known.range.legs.sizes_fit.room in
      let none : write_within r.lo r.hi (core.writes n) ≡ None = refused_none Draining (write_within r.lo r.hi (core.writes n)) (all_none (wish_is_due core n d.offer (wishes.Range r)) (subst (λ w. first_of (wish_is_due core n d.offer w) ≡ None) e d.due)).0 in
      shuts n r d.offer (told_by (range_told locks n r))
      (record {
        node = d.node;
        offer = d.is;
        wish = e;
        offered = ap is_offered d.offered;
        others = others_none core p.known a.super a.ghost n (ap has_token d.offered);
        up = up_unless n d.offer d.is (ap is_metadata e);
        calm = d.calm;
        silent = silent_by core a p n (ap has_token d.offered) (ap has_published d.offered);
        none = none_within n r.lo r.hi none;
      })
      (λ m. told_range_at locks n r d.node is m ∙ ap (λ (t : ℕ → Option Range). if m == n then entry_of r else t m) same)

  drained : (n : ℕ) (d : Due n) → is_unclean d.offer.wish ≡ true → core.writes n ≡ []
  drained n d e = by d.offer.wish e d.due
    where
      by : (w : Wish) → is_unclean w ≡ true → first_of (wish_is_due core n d.offer w) ≡ None → core.writes n ≡ []
      by wishes.Unclean e due = no_write (core.writes n) (refused_none Draining (write_from 0 (core.writes n)) (all_none (wish_is_due core n d.offer wishes.Unclean) due).0)
      by w e due = cc

  publishing : (n : ℕ) (d : Due n) → is_range d.offer.wish ≡ false → Publishing (here core a) n d.offer
  publishing n d other = record {
    offer = d.is;
    no_range = other;
    offered = ap is_offered d.offered;
    others = others_none core p.known a.super a.ghost n (ap has_token d.offered);
    inside = d.inside;
    calm = d.calm;
    silent = silent_by core a p n (ap has_token d.offered) (ap has_published d.offered);
    drained = drained n d;
  }

  publish_other : (n : ℕ) (d : Due n) → is_range d.offer.wish ≡ false → Way (here core a) (here (record (sender_now core n senders.Published) { locks = device_unlocked (published core.locks n (block_of core n d.offer)) n }) a)
  publish_other n d other =
      retold (here core a) (record (sender_now core n senders.Published) { locks = device_unlocked (published core.locks n (block_of core n d.offer)) n }) a _
      (told_unlocked (published core.locks n (block_of core n d.offer)) n ∙ told_published core.locks n (block_of core n d.offer))
      (publishes n d.offer (publishing n d other))

  publish_by : (n : ℕ) (d : Due n) (w : Wish) → d.offer.wish ≡ w → Way (here core a) (here (publish_wish (record (sender_now core n senders.Published) { locks = device_unlocked (published core.locks n (block_of core n d.offer)) n }) n w) a)
  publish_by n d (wishes.Range r) e = shut n d r e
  publish_by n d w e = publish_other n d (ap is_range e)

  pub publish_way : (n : ℕ) → first_of (publish_guards core n) ≡ None → Way (here core a) (here (publish core n) a)
  publish_way n ok =
      let d = due n ok in
      subst (λ x. Way (here core a) (here (publish_offer core n x) a)) (sym d.is) (publish_by n d d.offer.wish refl)

  -- Receiving.

  pub take_way : (n : ℕ) → first_of (take_guards core n) ≡ None → Way (here core a) (here (take core n) a)
  take_way n ok =
      retold (here core a) (take core n) a _ (told_high core.locks message_res _ (omega arith))
      (takes n (called_by core n) (published_message core) (unless_none (is_idle (core.receiver n).phase) _ (all_none (take_guards core n) ok).1.1.1.1.0))
