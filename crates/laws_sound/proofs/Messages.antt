-- The message that a standing offer publishes is one, and is read as it was said.
use Rattle.std.proofs.Common.{◌≡◌, ℕ, ◌<◌, ◌≤◌, ◌^◌, true, Some, length, refl, ap, ◌∙◌, arith}
use Rattle.std.proofs.lemmas.List.{length-set}
use Rattle.dlm_modes.proofs.FirstLaws.{first_such_has}
use Rattle.mdc_types.specs.Geometry.{Sizes, IsGeometry}
use Rattle.mdc_types.specs.Roles.{role_of, is_working, some_works, eight}
use Rattle.mdc_types.proofs.RolesLaws.{role_of-eight}
use Rattle.mdc_types.specs.declared.events.Wish.{Wish}
use Rattle.mdc_types.specs.declared.events.Wish.TheVariants as wishes
use Rattle.leg_failure.specs.Views.{NodeView}
use Rattle.leg_failure.specs.Withdrawals.{HasLeg}
use Rattle.cluster_msgs.specs.Messages.{IsMsg, IsBody, IsState, HasArrays}
use Rattle.cluster_msgs.specs.Reading.{message_in}
use Rattle.cluster_msgs.proofs.Said.{says_what_is_spelled}
use Rattle.cluster_model.specs.State.{Core, Offer, sizes}
use Rattle.cluster_model.specs.Phases.{is_metadata}
use Rattle.cluster_model.specs.Publishing.{body_of, message_of, block_of}
use Rattle.laws_sound.specs.Legs.{WishFits, OfferFits}

pub works_there : (g : Sizes) (drawn : ℕ) (v : NodeView) (o : Offer) → OfferFits g drawn v o → HasLeg v → some_works (role_of (eight o.role)) ≡ true
works_there g drawn v o f has =
    first_such_has (λ l. is_working (role_of (eight o.role) l)) 0 8 has.0 (omega arith) (omega (arith, has.1)) (ap is_working (role_of-eight o.role has.0 has.1) ∙ f.working has.0 has.2)

state_is : (g : Sizes) (drawn : ℕ) (v : NodeView) (o : Offer) → IsGeometry g → drawn ≤ 2 ^ 63 → OfferFits g drawn v o → HasLeg v → (1 ≤ o.events) × (o.events ≤ drawn) → IsState o.events (eight o.role) o.size
state_is g drawn v o geometry few f has e = record {
  number = (e.0, omega (arith, e.1, few));
  sectors = (f.size.0, omega (arith, f.size.1, geometry.room));
  working = works_there g drawn v o f has;
}

body_is : (core : Core) (drawn : ℕ) (v : NodeView) (o : Offer) (w : Wish) → IsGeometry (sizes core) → length core.array.uuid ≡ 16 → drawn ≤ 2 ^ 63 → OfferFits (sizes core) drawn v o → HasLeg v
    → WishFits (sizes core) w → (is_metadata w ≡ true → (1 ≤ o.events) × (o.events ≤ drawn)) → IsBody (body_of core o w) × HasArrays (body_of core o w)
body_is core drawn v o (wishes.Range r) g u few f has w e = (record { hi = omega (arith, w.hi, g.room); order = w.order; empty = w.empty }, tt)
body_is core drawn v o (wishes.NewDisk l) g u few f has w e = (omega (arith, w, g.legs.1), length-set core.array.uuid 15 l ∙ u)
body_is core drawn v o (wishes.Remove l) g u few f has w e = (omega (arith, w, g.legs.1), tt)
body_is core drawn v o (wishes.ReAdd l) g u few f has w e = (omega (arith, w, g.legs.1), tt)
body_is core drawn v o wishes.Unclean g u few f has w e = (tt, tt)
body_is core drawn v o x g u few f has w e = (state_is (sizes core) drawn v o g few f has (e refl), refl)

pub is_msg : (core : Core) (n drawn : ℕ) (v : NodeView) (o : Offer) → n < 16 → IsGeometry (sizes core) → length core.array.uuid ≡ 16 → drawn ≤ 2 ^ 63 → OfferFits (sizes core) drawn v o → HasLeg v → IsMsg (message_of core n o)
is_msg core n drawn v o lt g u few f has =
    let b = body_is core drawn v o o.wish g u few f has f.wish f.events in
    record { ranges = record { slot = lt; body = b.0 }; arrays = b.1 }

-- what was published is read again
pub is_read : (core : Core) (n : ℕ) (o : Offer) → IsMsg (message_of core n o) → message_in (block_of core n o).bytes ≡ Some (message_of core n o)
is_read core n o is = (says_what_is_spelled (block_of core n o).bytes (message_of core n o)).1 (record { message = is; bytes_are = refl })
