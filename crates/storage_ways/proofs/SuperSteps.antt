-- The ways of a superblock that is written.
use Rattle.std.proofs.Common.{◌≡◌, inl, ℕ, ◌<◌, ◌&&◌, Bool, true, false, if◌then◌else◌, Some, None, refl, sym, ap, subst, ◌∙◌, arith}
use Rattle.std.specs.Prelude.{nat_lt, option_map}
use Rattle.dlm_modes.specs.Guards.{first_of}
use Rattle.dlm_modes.specs.Points.{with_at}
use Rattle.mdc_types.specs.Geometry.{Sizes, data_offset, data_offset_of}
use Rattle.mdc_types.specs.declared.events.Event.{Event}
use Rattle.mdc_types.specs.declared.events.Event.TheVariants as events
use Rattle.mdc_types.specs.declared.outcomes.Outcome.{Outcome}
use Rattle.mdc_types.specs.declared.outcomes.Outcome.TheVariants as outcomes
use Rattle.mdc_types.specs.declared.refusals.Refusal.TheVariants.{NoLeg}
use Rattle.mdc_types.specs.declared.roles.NodeState.{NodeState}
use Rattle.msg_rounds.specs.Phases.{has_published}
use Rattle.msg_rounds.specs.Refusals.{is_offered}
use Rattle.msg_rounds.specs.declared.phases.SenderPhase.{SenderPhase}
use Rattle.msg_rounds.specs.declared.phases.SenderPhase.TheVariants as senders
use Rattle.leg_failure.specs.Views.{is_target}
use Rattle.cluster_model.specs.State.{State, Core, Legs, Offer, sizes}
use Rattle.cluster_model.specs.After.{after}
use Rattle.cluster_model.specs.Failures.{failure, lost_or_io}
use Rattle.cluster_model.specs.Phases.{is_in, is_joining, is_metadata, offers}
use Rattle.cluster_model.specs.Run.{Moves, put}
use Rattle.cluster_model.specs.Stored.{data_on}
use Rattle.cluster_model.specs.Superblocks.{sb_guards, says_of_offer, super_sector, written_on}
use Rattle.cluster_model.specs.Table.{refusal}
use Rattle.cluster_model.specs.Transfers.{Transfer, transfer_of, super_transfer, writes_to}
use Rattle.laws_locks.specs.Rounded.{has_token, stands}
use Rattle.laws_sound.proofs.Guarded.{all_none, unless_none}
use Rattle.laws_roles.proofs.FinishRows.{others_none, loaded_alone}
use Rattle.laws_roles.proofs.Parts as roles
use Rattle.laws_roles.proofs.Parts.{supers}
use Rattle.laws_roles.proofs.RoundRows.{eight_of}
use Rattle.laws_roles.proofs.Standing.{Bytes, super_stands}
use Rattle.laws_roles.proofs.Ways as role_ways
use Rattle.storage_ways.proofs.Parts.{Part, bits_on}
use Rattle.storage_ways.proofs.Place.{Around, here, roles_here, Place, sound_of}
use Rattle.storage_ways.proofs.Sound.{Sound}
use Rattle.storage_ways.proofs.ComingRows.{silent_by}
use Rattle.storage_ways.proofs.Failing.{append, failed_ways, unreached_ways}
use Rattle.storage_ways.proofs.Guarding.{below_legs}
use Rattle.storage_ways.proofs.Moving.{Traced, around, next, Puts, well, ill, left, puts_of, moved, standing_so}
use Rattle.storage_ways.proofs.RoundRows.{its_offer}
use Rattle.storage_ways.proofs.Standing.{bits_stay, data_stays}
use Rattle.storage_ways.proofs.Voided.{super_sound}
use Rattle.storage_ways.proofs.Ways.{Ways, Writing, one, none, writes_super, leaves_super, still}

offered_is : (s : SenderPhase) → is_offered s ≡ true → s ≡ senders.Offered
offered_is senders.Offered e = refl
offered_is s e = cc

both : (a b : Bool) → (a && b) ≡ true → (a ≡ true) × (b ≡ true)
both a b e = grind arith

in_not_joining : (s : NodeState) → is_in s ≡ true → is_joining s ≡ false
in_not_joining s e = grind arith

past_super : (g : Sizes) → 8 < data_offset g
past_super g = by g.second
  where
    by : (b : Bool) → 8 < data_offset_of b
    by true = omega arith
    by false = omega arith

module _ (old : State) (g : roles.Ghost) (vs : Traced) (p : Place old.core (around old.core old.legs g vs)) (bytes : Bytes old.core.array) (told : (j : ℕ) → j < (sizes old.core).legs → old.legs.told j ≡ true) where
  abbrev pub A : Around
  A = around old.core old.legs g vs

  abbrev Goal : Event → Outcome → Legs → Type 0
  Goal e o new = Ways (here old.core A) (here (after old.core e o) (next old g vs e o new))

  record Proposed (n l : ℕ) : Type 0 where
    leg : l < (sizes old.core).legs
    offer : Offer
    is : old.core.offer n ≡ Some offer
    offered : old.core.sender n ≡ senders.Offered
    meta : is_metadata offer.wish ≡ true
    inside : is_in (old.core.state n) ≡ true

  proposed : (n l : ℕ) → first_of (sb_guards old.core n l) ≡ None → Proposed n l
  proposed n l ok =
      let a = (all_none (sb_guards old.core n l) ok).1.1.1 in
      let two = both (is_offered (old.core.sender n)) (offers is_metadata (old.core.offer n)) (unless_none _ _ a.1.0) in
      let offered = offered_is (old.core.sender n) two.0 in
      let s = its_offer old.core A p n (ap stands offered) in
      record {
        leg = below_legs l (sizes old.core).legs (unless_none (nat_lt l (sizes old.core).legs) (NoLeg l) a.0);
        offer = s.offer;
        is = s.is;
        offered = offered;
        meta = sym (ap (offers is_metadata) s.is) ∙ two.1;
        inside = s.up;
      }

  writing : (n l : ℕ) (q : Proposed n l) → Writing (here old.core A) n l q.offer
  writing n l q = record {
    offer = q.is;
    meta = q.meta;
    offered = ap is_offered q.offered;
    inside = q.inside;
    others = others_none old.core p.known A.super A.ghost n (ap has_token q.offered);
    silent = silent_by old.core A p n (ap has_token q.offered) (ap has_published q.offered);
    eight = eight_of old.core p.known A.super A.ghost n q.offer q.is;
    leg = q.leg;
  }

  role_writing : (n l : ℕ) (q : Proposed n l) → role_ways.Writing (roles_here old.core A) n q.offer
  role_writing n l q = record {
    offer = q.is;
    meta = q.meta;
    others = others_none old.core p.known A.super A.ghost n (ap has_token q.offered);
    alone = λ m has. let same : m ≡ n = p.known.rounded.phased.alone m n has (ap has_token q.offered) in subst (λ j. is_joining (old.core.state j) ≡ false) (sym same) (in_not_joining (old.core.state n) q.inside);
    loaded = loaded_alone old.core p.known A.super A.ghost n (ap has_token q.offered);
    eight = eight_of old.core p.known A.super A.ghost n q.offer q.is;
    serves = λ j e. p.known.leg.working n j q.offer q.is e;
  }

  abbrev super_to : ℕ → ℕ → Offer → Transfer
  super_to n l o = writes_to n l 8 (super_sector old.core l o)

  -- the superblock that was put there
  super_there : (n l : ℕ) (q : Proposed n l) (w : Part) (core : Core) → Ways w (here core (record A { super = with_at A.super l (Some (says_of_offer q.offer)) }))
      → Ways w (here core (around old.core (put old.legs l 8 (super_sector old.core l q.offer)) g vs))
  super_there n l q w core xs =
      let v = super_sector old.core l q.offer in
      standing_so w core (supers old.core.array (put old.legs l 8 v)) (with_at A.super l (Some (says_of_offer q.offer))) (bits_on (sizes old.core) (put old.legs l 8 v)) A.bit (data_on (sizes old.core) (put old.legs l 8 v)) A.stored g vs
      (super_stands old.core old.legs l q.offer bytes (told l q.leg) (p.known.written n l q.offer q.is q.meta q.leg))
      (bits_stay (sizes old.core) old.legs l 8 v p.known.range.legs.sizes_fit (inl (omega arith)))
      (data_stays (sizes old.core) old.legs l 8 v (past_super (sizes old.core)))
      xs

  written_ways : (n l : ℕ) (q : Proposed n l) → Ways (here old.core A) (here (after old.core (events.WriteSuper n l) outcomes.Done) (record A { super = with_at A.super l (Some (says_of_offer q.offer)) }))
  written_ways n l q =
      subst (λ x. Ways (here old.core A) (here (record old.core { offer = with_at old.core.offer n (option_map (written_on l) x) }) (record A { super = with_at A.super l (Some (says_of_offer q.offer)) }))) (sym q.is)
      (one (sound_of old.core A p) (writes_super n l q.offer (writing n l q)))

  -- the write failed, and left this there
  missed_ways : (n l : ℕ) (q : Proposed n l) (a : Around) → transfer_of old.core (events.WriteSuper n l) ≡ Some (super_to n l q.offer) → Ways (here old.core A) (here old.core a) → Sound (here old.core a)
      → Ways (here old.core A) (here (after old.core (events.WriteSuper n l) (failure old.core (events.WriteSuper n l) (super_to n l q.offer))) a)
  missed_ways n l q a at xs s = by (is_target (old.core.view n) l)
    where
      by : (b : Bool) → Ways (here old.core A) (here (after old.core (events.WriteSuper n l) (if b then lost_or_io old.core (super_to n l q.offer) else outcomes.Unreached l)) a)
      by true = failed_ways (here old.core A) old.core (events.WriteSuper n l) (super_to n l q.offer) a at xs s q.inside still
      by false = append xs (unreached_ways old.core (events.WriteSuper n l) (super_to n l q.offer) l a at s)

  super_from : (n l : ℕ) (q : Proposed n l) (o : Outcome) (new : Legs) → transfer_of old.core (events.WriteSuper n l) ≡ Some (super_to n l q.offer) → Puts old (events.WriteSuper n l) (super_to n l q.offer) (super_sector old.core l q.offer) o new → Goal (events.WriteSuper n l) o new
  super_from n l q o new at (well is legs) =
      moved old g vs (events.WriteSuper n l) (here old.core A) o outcomes.Done new _ is legs
      (super_there n l q (here old.core A) (after old.core (events.WriteSuper n l) outcomes.Done) (written_ways n l q))
  super_from n l q o new at (ill is legs) =
      moved old g vs (events.WriteSuper n l) (here old.core A) o (failure old.core (events.WriteSuper n l) (super_to n l q.offer)) new old.legs is legs
      (missed_ways n l q A at none (sound_of old.core A p))
  super_from n l q o new at (left is legs) =
      let s = sound_of old.core A p in
      let a : Around = record A { super = with_at A.super l (Some (says_of_offer q.offer)) } in
      moved old g vs (events.WriteSuper n l) (here old.core A) o (failure old.core (events.WriteSuper n l) (super_to n l q.offer)) new _ is legs
      (super_there n l q (here old.core A) (after old.core (events.WriteSuper n l) (failure old.core (events.WriteSuper n l) (super_to n l q.offer)))
      (missed_ways n l q a at (one s (leaves_super n l q.offer (writing n l q))) (super_sound (here old.core A) n l q.offer s (role_writing n l q))))

  pub super_step : (n l : ℕ) (o : Outcome) (new : Legs) → refusal old.core (events.WriteSuper n l) ≡ None → Moves old (events.WriteSuper n l) o new → Goal (events.WriteSuper n l) o new
  super_step n l o new ok m =
      let q = proposed n l ok in
      let at = ap (super_transfer old.core n l) q.is in
      super_from n l q o new at (puts_of old (events.WriteSuper n l) (super_to n l q.offer) (super_sector old.core l q.offer) o new at refl m)
