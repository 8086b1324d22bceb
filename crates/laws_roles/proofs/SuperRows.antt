-- The ways of a superblock that is written, and of each step.
use Rattle.std.proofs.Common.{◌≡◌, ◌⊎◌, inl, inr, ℕ, ◌<◌, ◌&&◌, Bool, true, false, if◌then◌else◌, Some, None, refl, sym, ap, subst, ◌∙◌}
use Rattle.std.specs.Prelude.{nat_lt, option_map}
use Rattle.std.proofs.lemmas.Bool.{ltb-true}
use Rattle.dlm_modes.specs.Guards.{first_of}
use Rattle.dlm_modes.specs.Points.{with_at}
use Rattle.mdc_types.specs.declared.numbers.Sector.{Sector}
use Rattle.mdc_types.specs.declared.events.Event.{Event}
use Rattle.mdc_types.specs.declared.events.Event.TheVariants as events
use Rattle.mdc_types.specs.declared.outcomes.Outcome.{Outcome}
use Rattle.mdc_types.specs.declared.outcomes.Outcome.TheVariants as outcomes
use Rattle.mdc_types.specs.declared.refusals.Refusal.TheVariants.{NoLeg}
use Rattle.mdc_types.specs.declared.roles.NodeState.{NodeState}
use Rattle.mdc_types.specs.declared.roles.NodeState.TheVariants as states
use Rattle.msg_rounds.specs.Refusals.{is_offered}
use Rattle.msg_rounds.specs.declared.phases.SenderPhase.{SenderPhase}
use Rattle.msg_rounds.specs.declared.phases.SenderPhase.TheVariants as senders
use Rattle.leg_failure.specs.Views.{is_target, is_last}
use Rattle.cluster_model.specs.State.{State, Legs, Offer, sizes}
use Rattle.cluster_model.specs.Phases.{is_in, is_joining, is_metadata, offers}
use Rattle.cluster_model.specs.Joining.{load_guards}
use Rattle.cluster_model.specs.Superblocks.{sb_guards, says_of_offer, super_sector, written_on}
use Rattle.cluster_model.specs.Table.{refusal}
use Rattle.cluster_model.specs.Transfers.{Transfer, transfer_of, super_transfer, writes_to}
use Rattle.cluster_model.specs.Failures.{failure}
use Rattle.cluster_model.specs.After.{after}
use Rattle.cluster_model.specs.Run.{Moves, Quiet, Written, Read, Failed, Left, put}
use Rattle.laws_locks.specs.Rounded.{has_token}
use Rattle.laws_sound.proofs.Guarded.{all_none, unless_none}
use Rattle.laws_sound.proofs.RoundFacts.{standing, offered_stands}
use Rattle.laws_roles.proofs.Parts.{Part, Ghost, part_of, supers, ghost_after}
use Rattle.laws_roles.proofs.Ways.{Way, Ways, none, one, more, writes, leaves, Writing}
use Rattle.laws_roles.proofs.Known.{Known, are_eight}
use Rattle.laws_roles.proofs.FinishRows.{others_none, loaded_alone}
use Rattle.laws_roles.proofs.OtherRows.{is_super, is_failed, fail_way, event_way}
use Rattle.laws_roles.proofs.Standing.{Bytes, super_stands, supers_stay, has_transfer, loads_it}

-- What the moves are of an event that writes.

data Puts (old : State) (e : Event) (t : Transfer) (v : Sector) (o : Outcome) (new : Legs) : Type 0 where
  well : o ≡ outcomes.Done → new ≡ put old.legs t.leg t.place v → Puts old e t v o new
  ill : o ≡ failure old.core e t → (new ≡ old.legs) ⊎ (new ≡ put old.legs t.leg t.place v) → Puts old e t v o new

puts_of : (old : State) (e : Event) (t : Transfer) (v : Sector) (o : Outcome) (new : Legs)
    → transfer_of old.core e ≡ Some t → t.value ≡ Some v → Moves old e o new → Puts old e t v o new
puts_of old e t v o new at has (Quiet nothing is legs) = absurd (cc)
puts_of old e t v o new at has (Written u w also value path done legs) =
    let same : t ≡ u = cc in
    let v_is : w ≡ v = cc in
    well done (rw (same, sym v_is) legs)
puts_of old e t v o new at has (Read u w also value path gives is legs) = let same : t ≡ u = cc in absurd (cc)
puts_of old e t v o new at has (Failed u also is legs) = let same : t ≡ u = cc in ill (rw same is) (inl legs)
puts_of old e t v o new at has (Left u w also value path is legs) =
    let same : t ≡ u = cc in
    let v_is : w ≡ v = cc in
    ill (rw same is) (inr (rw (same, sym v_is) legs))

-- Writing a superblock.

both : (a b : Bool) → (a && b) ≡ true → (a ≡ true) × (b ≡ true)
both true b e = (refl, e)
both false b e = cc

in_not_joining : (s : NodeState) → is_in s ≡ true → is_joining s ≡ false
in_not_joining states.Loaded e = refl
in_not_joining states.Up e = refl
in_not_joining s e = cc

offered_is : (s : SenderPhase) → is_offered s ≡ true → s ≡ senders.Offered
offered_is senders.Offered e = refl
offered_is s e = cc

failed_so : (target last : Bool) (l k : ℕ) → is_failed (if target then (if last then outcomes.Io l else outcomes.Lost l) else outcomes.Unreached k) ≡ true
failed_so true true l k = refl
failed_so true false l k = refl
failed_so false last l k = refl

module _ (old : State) (k : Known old.core) (bytes : Bytes old.core.array) (g : Ghost) where
  Here : Part
  Here = part_of old.core (supers old.core.array old.legs) g

  record Guards (n l : ℕ) : Type 0 where
    leg : l < (sizes old.core).legs
    offered : old.core.sender n ≡ senders.Offered
    offer : Offer
    is : old.core.offer n ≡ Some offer
    meta : is_metadata offer.wish ≡ true
    inside : is_in (old.core.state n) ≡ true

  guards : (n l : ℕ) → first_of (sb_guards old.core n l) ≡ None → Guards n l
  guards n l ok =
      let a = (all_none (sb_guards old.core n l) ok).1.1.1 in
      let two = both (is_offered (old.core.sender n)) (offers is_metadata (old.core.offer n)) (unless_none _ _ a.1.0) in
      let up = offered_stands (old.core.sender n) two.0 in
      let s = standing (old.core.state n) (old.core.sender n) (old.core.offer n) (k.rounded.offering.offers n) up.0 in
      record {
        leg = ltb-true l (sizes old.core).legs (unless_none (nat_lt l (sizes old.core).legs) (NoLeg l) a.0);
        offered = offered_is (old.core.sender n) two.0;
        offer = s.offer;
        is = s.is;
        meta = sym (ap (offers is_metadata) s.is) ∙ two.1;
        inside = s.up;
      }

  writing : (n l : ℕ) (a : Guards n l) → Writing (part_of old.core (supers old.core.array old.legs) g) n a.offer
  writing n l a = record {
    offer = a.is;
    meta = a.meta;
    others = others_none old.core k (supers old.core.array old.legs) g n (ap has_token a.offered);
    alone = λ m has. let same : m ≡ n = k.rounded.phased.alone m n has (ap has_token a.offered) in subst (λ j. is_joining (old.core.state j) ≡ false) (sym same) (in_not_joining (old.core.state n) a.inside);
    loaded = loaded_alone old.core k (supers old.core.array old.legs) g n (ap has_token a.offered);
    serves = λ j e. k.leg.working n j a.offer a.is e;
    eight = are_eight (sizes old.core) a.offer.role k.range.legs.sizes_fit (k.range.legs.offers n a.offer a.is).roles;
  }

  stands_now : (n l : ℕ) (a : Guards n l) → old.legs.told l ≡ true
      → supers old.core.array (put old.legs l 8 (super_sector old.core l a.offer)) ≡ with_at (supers old.core.array old.legs) l (Some (says_of_offer a.offer))
  stands_now n l a told = super_stands old.core old.legs l a.offer bytes told (k.written n l a.offer a.is a.meta a.leg)

  written_way : (n l : ℕ) (a : Guards n l) → old.legs.told l ≡ true
      → Ways (part_of old.core (supers old.core.array old.legs) g) (part_of (after old.core (events.WriteSuper n l) outcomes.Done) (supers old.core.array (put old.legs l 8 (super_sector old.core l a.offer))) g)
  written_way n l a told =
      subst (λ s. Ways (part_of old.core (supers old.core.array old.legs) g) (part_of (after old.core (events.WriteSuper n l) outcomes.Done) s g)) (sym (stands_now n l a told))
      (subst (λ x. Ways (part_of old.core (supers old.core.array old.legs) g) (part_of (record old.core { offer = with_at old.core.offer n (option_map (written_on l) x) }) (with_at (supers old.core.array old.legs) l (Some (says_of_offer a.offer))) g)) (sym a.is)
      (one (writes n l a.offer (writing n l a))))

  -- the new superblock stands there, though the write failed
  then_ways : {w u v : Part} → Way w u → Ways u v → Ways w v
  then_ways x none = one x
  then_ways x (more ys y) = more (then_ways x ys) y

  failed_way : (n l : ℕ) (a : Guards n l) (o : Outcome) (new : Legs) → old.legs.told l ≡ true
      → transfer_of old.core (events.WriteSuper n l) ≡ Some (writes_to n l 8 (super_sector old.core l a.offer)) → is_failed o ≡ true
      → (new ≡ old.legs) ⊎ (new ≡ put old.legs l 8 (super_sector old.core l a.offer))
      → Ways (part_of old.core (supers old.core.array old.legs) g) (part_of (after old.core (events.WriteSuper n l) o) (supers old.core.array new) g)
  failed_way n l a o new told at f (inl same) =
      subst (λ x. Ways (part_of old.core (supers old.core.array old.legs) g) (part_of (after old.core (events.WriteSuper n l) o) (supers old.core.array x) g)) (sym same)
      (fail_way (supers old.core.array old.legs) g old.core (events.WriteSuper n l) (writes_to n l 8 (super_sector old.core l a.offer)) o at f)
  failed_way n l a o new told at f (inr left) =
      subst (λ s. Ways (part_of old.core (supers old.core.array old.legs) g) (part_of (after old.core (events.WriteSuper n l) o) s g)) (sym (ap (supers old.core.array) left ∙ stands_now n l a told))
      (then_ways (leaves n l a.offer (writing n l a))
      (fail_way (with_at (supers old.core.array old.legs) l (Some (says_of_offer a.offer))) g old.core (events.WriteSuper n l) (writes_to n l 8 (super_sector old.core l a.offer)) o at f))

  super_by : (n l : ℕ) (a : Guards n l) (o : Outcome) (new : Legs) → old.legs.told l ≡ true
      → transfer_of old.core (events.WriteSuper n l) ≡ Some (writes_to n l 8 (super_sector old.core l a.offer))
      → Puts old (events.WriteSuper n l) (writes_to n l 8 (super_sector old.core l a.offer)) (super_sector old.core l a.offer) o new
      → Ways (part_of old.core (supers old.core.array old.legs) g) (part_of (after old.core (events.WriteSuper n l) o) (supers old.core.array new) g)
  super_by n l a o new told at (well is legs) =
      subst (λ x. Ways (part_of old.core (supers old.core.array old.legs) g) (part_of (after old.core (events.WriteSuper n l) x) (supers old.core.array new) g)) (sym is)
      (subst (λ x. Ways (part_of old.core (supers old.core.array old.legs) g) (part_of (after old.core (events.WriteSuper n l) outcomes.Done) (supers old.core.array x) g)) (sym legs) (written_way n l a told))
  super_by n l a o new told at (ill is legs) =
      failed_way n l a o new told at (ap is_failed is ∙ failed_so (is_target (old.core.view n) l) (is_last (old.core.view n) l) l l) legs

  pub super_way : (n l : ℕ) (o : Outcome) (new : Legs) → first_of (sb_guards old.core n l) ≡ None → ((j : ℕ) → j < (sizes old.core).legs → old.legs.told j ≡ true)
      → Moves old (events.WriteSuper n l) o new
      → Ways (part_of old.core (supers old.core.array old.legs) g) (part_of (after old.core (events.WriteSuper n l) o) (supers old.core.array new) g)
  super_way n l o new ok tells m =
      let a = guards n l ok in
      let at : transfer_of old.core (events.WriteSuper n l) ≡ Some (writes_to n l 8 (super_sector old.core l a.offer)) = ap (super_transfer old.core n l) a.is in
      super_by n l a o new (tells l a.leg) at (puts_of old (events.WriteSuper n l) _ (super_sector old.core l a.offer) o new at refl m)

  -- Each step.

  load_leg : (e : Event) → refusal old.core e ≡ None → ((j : ℕ) → j < (sizes old.core).legs → old.legs.told j ≡ true) → (n l : ℕ) → e ≡ events.Load n l → old.legs.told l ≡ true
  load_leg e ok tells n l is =
      let load : refusal old.core (events.Load n l) ≡ None = subst (λ x. refusal old.core x ≡ None) is ok in
      let a = (all_none (load_guards old.core n l) load).1.1.1 in
      tells l (ltb-true l (sizes old.core).legs (unless_none (nat_lt l (sizes old.core).legs) (NoLeg l) a.0))

  other_way : (e : Event) (o : Outcome) (new : Legs) → is_super e ≡ false → refusal old.core e ≡ None → ((j : ℕ) → j < (sizes old.core).legs → old.legs.told j ≡ true) → Moves old e o new
      → Ways (part_of old.core (supers old.core.array old.legs) g) (part_of (after old.core e o) (supers old.core.array new) (ghost_after old.core e g))
  other_way e o new s ok tells m =
      subst (λ x. Ways (part_of old.core (supers old.core.array old.legs) g) (part_of (after old.core e o) x (ghost_after old.core e g))) (sym (supers_stay old.core.array old e o new s m))
      (event_way (supers old.core.array old.legs) g old.core e o k s (loads_it old e o new m (load_leg e ok tells)) ok (has_transfer old e o new m))

  pub move_way : (e : Event) (o : Outcome) (new : Legs) → refusal old.core e ≡ None → ((j : ℕ) → j < (sizes old.core).legs → old.legs.told j ≡ true) → Moves old e o new
      → Ways (part_of old.core (supers old.core.array old.legs) g) (part_of (after old.core e o) (supers old.core.array new) (ghost_after old.core e g))
  move_way (events.WriteSuper n l) o new ok tells m = super_way n l o new ok tells m
  move_way e o new ok tells m = other_way e o new refl ok tells m
