-- What a node offers is in range, and keeps the legs that work.
use Rattle.std.proofs.Common.{◌≡◌, ℕ, ◌+◌, ◌<◌, ◌≤◌, ◌^◌, ◌==◌, ◌&&◌, ◌||◌, Bool, true, false, not, if◌then◌else◌, Option, Some, None, arith}
use Rattle.std.specs.Prelude.{nat_lt, nat_le, ◌%◌}
use Rattle.std.proofs.lemmas.Bool.{ltb-true}
use Rattle.std.proofs.lemmas.Bool.Decides.{nat_tests}
use Rattle.dlm_modes.specs.Guards.{first_of, unless, or_then}
use Rattle.dlm_modes.specs.Points.{with_at}
use Rattle.mdc_types.specs.Geometry.{Sizes}
use Rattle.mdc_types.specs.Roles.{is_working, is_faulty, is_spare}
use Rattle.mdc_types.specs.declared.events.Wish.{Wish}
use Rattle.mdc_types.specs.declared.events.Wish.TheVariants as wishes
use Rattle.mdc_types.specs.declared.numbers.Range.{Range}
use Rattle.mdc_types.specs.declared.refusals.Refusal.{Refusal}
use Rattle.mdc_types.specs.declared.refusals.Refusal.TheVariants.{NoLeg, NoEvents, NoSize, NoSector, NotRole}
use Rattle.mdc_types.specs.declared.roles.Role.{Role}
use Rattle.mdc_types.specs.declared.roles.Role.TheVariants.{Working, Rebuilding, Spare}
use Rattle.leg_failure.specs.Sets.{given_up}
use Rattle.leg_failure.specs.Views.{proposed_role}
use Rattle.leg_failure.proofs.LegsLeftLaws.{changes_keep_working}
use Rattle.disk_addition.specs.Wishes.{is_readd}
use Rattle.node_member.specs.Members.{drawn_one}
use Rattle.cluster_model.specs.State.{Core, sizes}
use Rattle.cluster_model.specs.Guards.{no_leg}
use Rattle.cluster_model.specs.Phases.{is_metadata, is_in}
use Rattle.resync_worker.specs.Sectors.{is_edge}
use Rattle.cluster_model.specs.Wishes.{no_events, unsuited, is_window, may_grow, wish_guards, with_change, proposed_size, offer_of}
use Rattle.laws_sound.specs.Legs.{SpareBeyond, ViewFits, WindowFits, WishFits, OfferFits}
use Rattle.laws_sound.proofs.Guarded.{all_none, unless_none}

leg_below : (core : Core) (l : ℕ) → no_leg core l ≡ None → l < (sizes core).legs
leg_below core l e = ltb-true l core.array.sizes.legs (unless_none (nat_lt l core.array.sizes.legs) (NoLeg l) e)

window_of : (edge : Bool) (lo hi room : ℕ) (at : Bool) → (((lo == 0) && (hi == 0)) || (nat_lt lo hi && nat_le hi room && at && edge)) ≡ true → (hi ≤ room) × (0 < hi → lo < hi) × (hi ≡ 0 → lo ≡ 0)
window_of edge lo hi room at e = grind (arith, nat_tests)

window_fits : (core : Core) (r : Range) → unless (is_window (sizes core) r) (NoSector r.lo) ≡ None → WindowFits (sizes core) r
window_fits core r e =
    let w = window_of (is_edge (sizes core) r.hi) r.lo r.hi core.array.sizes.room (r.lo % core.array.sizes.chunk == 0) (unless_none (is_window (sizes core) r) (NoSector r.lo) e) in
    record { hi = w.0; order = w.1; empty = w.2 }

pub wish_fits : (core : Core) (n : ℕ) (wish : Wish) → first_of (wish_guards core n wish) ≡ None → WishFits (sizes core) wish
wish_fits core n (wishes.Spare l) e = leg_below core l (all_none (wish_guards core n (wishes.Spare l)) e).1.0
wish_fits core n (wishes.Rebuild l) e = leg_below core l (all_none (wish_guards core n (wishes.Rebuild l)) e).1.0
wish_fits core n (wishes.Work l) e = leg_below core l (all_none (wish_guards core n (wishes.Work l)) e).1.0
wish_fits core n (wishes.Range r) e = window_fits core r (all_none (wish_guards core n (wishes.Range r)) e).1.1.0
wish_fits core n (wishes.NewDisk l) e = leg_below core l (all_none (wish_guards core n (wishes.NewDisk l)) e).1.0
wish_fits core n (wishes.Remove l) e = leg_below core l (all_none (wish_guards core n (wishes.Remove l)) e).1.0
wish_fits core n (wishes.ReAdd l) e = leg_below core l (all_none (wish_guards core n (wishes.ReAdd l)) e).1.0
wish_fits core n wish e = tt

may_draw : (core : Core) → no_events core ≡ None → core.members.drawn < 2 ^ 63
may_draw core e = ltb-true core.members.drawn (2 ^ 63) (unless_none (nat_lt core.members.drawn (2 ^ 63)) (NoEvents core.members.drawn) e)

pub draws : (core : Core) (n : ℕ) (wish : Wish) → first_of (wish_guards core n wish) ≡ None → is_metadata wish ≡ true → core.members.drawn < 2 ^ 63
draws core n wishes.Meta e is = may_draw core (all_none (wish_guards core n (wishes.Meta)) e).1.0
draws core n (wishes.Spare l) e is = may_draw core (all_none (wish_guards core n (wishes.Spare l)) e).1.1.1.0
draws core n (wishes.Rebuild l) e is = may_draw core (all_none (wish_guards core n (wishes.Rebuild l)) e).1.1.1.0
draws core n (wishes.Work l) e is = may_draw core (all_none (wish_guards core n (wishes.Work l)) e).1.1.1.1.1.1.0
draws core n (wishes.Grow z) e is = may_draw core (all_none (wish_guards core n (wishes.Grow z)) e).1.1.0
draws core n wish e is = cc

-- The proposed roles.

proposed_spare : (r : Role) (lost : Bool) → r ≡ Spare → (if lost then given_up r else r) ≡ Spare
proposed_spare r lost e = grind arith

changed_spare : (g : Sizes) (f : ℕ → Role) (l : ℕ) (x : Role) → l < g.legs → SpareBeyond g f → SpareBeyond g (with_at f l x)
changed_spare g f l x lt spare k le = grind (arith, nat_tests, spare k le)

pub change_spare : (g : Sizes) (wish : Wish) (f : ℕ → Role) → WishFits g wish → SpareBeyond g f → SpareBeyond g (with_change wish f)
change_spare g (wishes.Spare l) f w spare = changed_spare g f l Spare w spare
change_spare g (wishes.Rebuild l) f w spare = changed_spare g f l Rebuilding w spare
change_spare g (wishes.Work l) f w spare = changed_spare g f l Working w spare
change_spare g wish f w spare = spare

then_none : (a b : Option Refusal) → or_then a b ≡ None → b ≡ None
then_none None b e = e
then_none (Some r) b e = cc

idle : (r : Role) (lost : Bool) → is_working r ≡ false → is_working (if lost then given_up r else r) ≡ false
idle r lost e = grind arith

faulty_idle : (r : Role) → is_faulty r ≡ true → is_working r ≡ false
faulty_idle r e = grind arith

spare_idle : (r : Role) (b : Bool) → (is_spare r || (is_faulty r && b)) ≡ true → is_working r ≡ false
spare_idle r b e = grind arith

works_on : (f : ℕ → Role) (l k : ℕ) → is_working (f k) ≡ true → is_working (with_at f l Working k) ≡ true
works_on f l k e = grind (arith, nat_tests)

spared : (core : Core) (n l : ℕ) → unsuited core n (wishes.Spare l) ≡ None → is_working (proposed_role (core.view n) l) ≡ false
spared core n l e =
    let role = then_none _ _ e in
    idle ((core.view n).role l) ((core.view n).lost l) (faulty_idle ((core.view n).role l) (unless_none (is_faulty ((core.view n).role l)) (NotRole l ((core.view n).role l)) role))

rebuilt : (core : Core) (n l : ℕ) → unsuited core n (wishes.Rebuild l) ≡ None → is_working (proposed_role (core.view n) l) ≡ false
rebuilt core n l e =
    let role = then_none _ _ e in
    idle ((core.view n).role l) ((core.view n).lost l) (spare_idle ((core.view n).role l) (is_readd (core.adding n).addition l) (unless_none _ (NotRole l ((core.view n).role l)) role))

pub change_works : (core : Core) (n : ℕ) (wish : Wish) → first_of (wish_guards core n wish) ≡ None → (k : ℕ) → is_working (proposed_role (core.view n) k) ≡ true → is_working (with_change wish (proposed_role (core.view n)) k) ≡ true
change_works core n (wishes.Spare l) e k w = changes_keep_working (proposed_role (core.view n)) l Spare (spared core n l (all_none (wish_guards core n (wishes.Spare l)) e).1.1.0) k w
change_works core n (wishes.Rebuild l) e k w = changes_keep_working (proposed_role (core.view n)) l Rebuilding (rebuilt core n l (all_none (wish_guards core n (wishes.Rebuild l)) e).1.1.0) k w
change_works core n (wishes.Work l) e k w = works_on (proposed_role (core.view n)) l k w
change_works core n wish e k w = w

proposed_works : (r : Role) (lost : Bool) → (is_working r && not lost) ≡ true → is_working (if lost then given_up r else r) ≡ true
proposed_works r true w = grind arith
proposed_works r false w = grind arith

grown : (core : Core) (n z : ℕ) → unless (may_grow core n z) (NoSize z) ≡ None → (1 ≤ z) × (z ≤ (sizes core).room)
grown core n z e = let t = unless_none (may_grow core n z) (NoSize z) e in grind (arith, nat_tests)

size_fits : (core : Core) (n : ℕ) (wish : Wish) → first_of (wish_guards core n wish) ≡ None → (1 ≤ (core.view n).size) × ((core.view n).size ≤ (sizes core).room) → (1 ≤ proposed_size wish (core.view n).size) × (proposed_size wish (core.view n).size ≤ (sizes core).room)
size_fits core n (wishes.Grow z) e s = grown core n z (all_none (wish_guards core n (wishes.Grow z)) e).1.0
size_fits core n wish e s = s

-- the events number of the offer is drawn, where the wish draws one
drawn_by : (b : Bool) (core : Core) → b ≡ true → (1 ≤ core.members.drawn + 1) × (core.members.drawn + 1 ≤ (if b then drawn_one core.members else core.members).drawn)
drawn_by true core e = (omega arith, omega arith)
drawn_by false core e = cc

pub new_offer : (core : Core) (n : ℕ) (wish : Wish) → first_of (wish_guards core n wish) ≡ None → is_in (core.state n) ≡ true → ViewFits (sizes core) (core.state n) (core.view n)
    → OfferFits (sizes core) (if is_metadata wish then drawn_one core.members else core.members).drawn (core.view n) (offer_of core n wish)
new_offer core n wish e up i = record {
  wish = wish_fits core n wish e;
  roles = change_spare (sizes core) wish (proposed_role (core.view n)) (wish_fits core n wish e) (λ l le. proposed_spare ((core.view n).role l) ((core.view n).lost l) (i.roles l le));
  size = size_fits core n wish e ((i.sectors up).0, i.size);
  events = λ is. drawn_by (is_metadata wish) core is;
  working = λ l w. change_works core n wish e l (proposed_works ((core.view n).role l) ((core.view n).lost l) w);
}
