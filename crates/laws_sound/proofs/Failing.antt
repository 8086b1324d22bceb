-- What a failed transfer makes of the core, and that the leg that is lost isn't a node's last.
use Rattle.std.proofs.Common.{◌≡◌, inl, inr, ℕ, ◌<◌, ◌==◌, ◌&&◌, Bool, true, false, if◌then◌else◌, Option, Some, None, refl, sym, ap, subst, ◌∙◌, arith}
use Rattle.std.specs.Prelude.{nat_lt, option_map}
use Rattle.std.proofs.lemmas.Bool.{ltb-true, cases_lt}
use Rattle.dlm_modes.specs.First.{first_such}
use Rattle.dlm_modes.proofs.FirstLaws.{first_such_some}
use Rattle.dlm_modes.specs.Points.{with_at}
use Rattle.mdc_types.specs.Geometry.{Sizes}
use Rattle.mdc_types.specs.Roles.{is_working}
use Rattle.mdc_types.specs.declared.numbers.Sector.{Sector}
use Rattle.mdc_types.specs.declared.events.Event.{Event}
use Rattle.mdc_types.specs.declared.events.Event.TheVariants as events
use Rattle.mdc_types.specs.declared.outcomes.Outcome.TheVariants as outcomes
use Rattle.mdc_types.specs.declared.refusals.Refusal.TheVariants.{NoLeg}
use Rattle.msg_rounds.specs.Phases.{has_published}
use Rattle.msg_rounds.specs.declared.phases.SenderPhase.{SenderPhase}
use Rattle.msg_rounds.specs.declared.phases.SenderPhase.TheVariants as senders
use Rattle.md_superblock.specs.Arrays.{Array, Says, says_in}
use Rattle.leg_failure.specs.Views.{NodeView, works, is_target, is_last, lost_one, working_leg}
use Rattle.mirror_io.specs.Flight.{write_in, read_in}
use Rattle.mirror_io.specs.declared.live.LiveRead.{LiveRead}
use Rattle.node_recovery.specs.Progress.{Recovering}
use Rattle.read_balance.specs.Choice.{least_leg, nearest_leg, is_nearest}
use Rattle.cluster_model.specs.State.{Core, State, Legs, Offer, sizes}
use Rattle.cluster_model.specs.Guards.{no_leg}
use Rattle.cluster_model.specs.Changes.{voided}
use Rattle.cluster_model.specs.Joining.{load_guards}
use Rattle.cluster_model.specs.Superblocks.{sb_guards}
use Rattle.cluster_model.specs.Bits.{bit_guards}
use Rattle.cluster_model.specs.Writes.{out_guards}
use Rattle.cluster_model.specs.Reads.{read_leg, reads_first}
use Rattle.cluster_model.specs.Copying.{co_guards, next_sector, buffer_of}
use Rattle.cluster_model.specs.Gathering.{due_page}
use Rattle.cluster_model.specs.Recovering.{slotin_guards, slotout_guards}
use Rattle.cluster_model.specs.Transfers.{Transfer, transfer_of, reads_at, reads_from, in_transfer, gather_transfer, copy_in_transfer}
use Rattle.cluster_model.specs.Failures.{failure, tried, slot_failed, leg_lost}
use Rattle.cluster_model.specs.Outcomes.{outcome_read, load_outcome}
use Rattle.cluster_model.specs.Table.{refusal}
use Rattle.cluster_model.specs.Run.{Moves, Quiet, Written, Read, Failed, Left}
use Rattle.laws_sound.specs.Legs.{SpareBeyond, LegsFit}
use Rattle.laws_sound.proofs.Guarded.{all_none, unless_none}
use Rattle.laws_sound.proofs.Change.{Change, Changes, changed, still, more, loses, voids}
use Rattle.laws_sound.proofs.ChangeMore.{start_change, failed_change}

-- The leg of a transfer is one of the array.

works_below : (g : Sizes) (v : NodeView) (l : ℕ) → SpareBeyond g v.role → works v l ≡ true → l < g.legs
works_below g v l spare e = elim (cases_lt l g.legs) [
  | inl lt ↦ lt
  | inr past ↦ let idle : is_working (v.role l) ≡ false = ap is_working (spare l past) in absurd (grind arith)
]

some_works : (p : ℕ → Bool) (x : Option ℕ) (l : ℕ) → first_such p 0 8 ≡ x → x ≡ Some l → p l ≡ true
some_works p x l e is = (first_such_some p 0 8 l (e ∙ is)).passes

at_leg : (n place : ℕ) (x : Option ℕ) (t : Transfer) → reads_at n place x ≡ Some t → x ≡ Some t.leg
at_leg n place None t e = cc
at_leg n place (Some l) t e = let same : reads_from n l place ≡ t = cc in ap (λ (y : Transfer). Some y.leg) same

leg_of_map : {A : Type 0} (f : A → Transfer) (l : ℕ) (x : Option A) (t : Transfer) → ((a : A) → (f a).leg ≡ l) → option_map f x ≡ Some t → t.leg ≡ l
leg_of_map f l None t same e = cc
leg_of_map f l (Some a) t same e = let is : f a ≡ t = cc in sym (ap (λ (y : Transfer). y.leg) is) ∙ same a

leg_below : (core : Core) (l : ℕ) → no_leg core l ≡ None → l < (sizes core).legs
leg_below core l e = ltb-true l core.array.sizes.legs (unless_none (nat_lt l core.array.sizes.legs) (NoLeg l) e)

to_leg : (core : Core) (l k : ℕ) → k ≡ l → no_leg core l ≡ None → k < (sizes core).legs
to_leg core l k same e = subst (λ x. x < (sizes core).legs) (sym same) (leg_below core l e)

and_first : (a b : Bool) → (a && b) ≡ true → a ≡ true
and_first a b e = grind arith

leg_of_some : (l : ℕ) (t s : Transfer) → s.leg ≡ l → Some s ≡ Some t → t.leg ≡ l
leg_of_some l t s same e = let is : s ≡ t = cc in sym (ap (λ (y : Transfer). y.leg) is) ∙ same

read_by : (core : Core) (n : ℕ) (r : LiveRead) (first chosen : Bool) (l : ℕ) → works (core.view n) r.chosen ≡ chosen
    → (if first then least_leg (works (core.view n)) else if chosen then Some r.chosen else nearest_leg (works (core.view n)) (core.head n) r.sector) ≡ Some l → works (core.view n) l ≡ true
read_by core n r true chosen l e is = some_works (works (core.view n)) (Some l) l is refl
read_by core n r false true l e is = let same : r.chosen ≡ l = cc in subst (λ x. works (core.view n) x ≡ true) same e
read_by core n r false false l e is = near (first_such_some (is_nearest (works (core.view n)) (core.head n) r.sector) 0 8 l is).passes
  where
    near : is_nearest (works (core.view n)) (core.head n) r.sector l ≡ true → works (core.view n) l ≡ true
    near e = and_first (works (core.view n) l) _ e

read_works : (core : Core) (n : ℕ) (r : LiveRead) (l : ℕ) → read_leg core n r ≡ Some l → works (core.view n) l ≡ true
read_works core n r l e = read_by core n r (reads_first core n r.sector) (works (core.view n) r.chosen) l refl e

in_leg : (core : Core) (n : ℕ) (x : Option LiveRead) (t : Transfer) → in_transfer core n x ≡ Some t → works (core.view n) t.leg ≡ true
in_leg core n None t e = cc
in_leg core n (Some r) t e = read_works core n r t.leg (at_leg n _ (read_leg core n r) t e)

gather_leg : (core : Core) (n : ℕ) (x : Option (ℕ × ℕ)) (t : Transfer) → gather_transfer core n x ≡ Some t → works (core.view n) t.leg ≡ true
gather_leg core n None t e = cc
gather_leg core n (Some due) t e = some_works (works (core.view n)) (working_leg (core.view n)) t.leg refl (at_leg n _ (working_leg (core.view n)) t e)

copy_leg : (core : Core) (n : ℕ) (x : Option ℕ) (t : Transfer) → copy_in_transfer core n x ≡ Some t → works (core.view n) t.leg ≡ true
copy_leg core n None t e = cc
copy_leg core n (Some s) t e = some_works (works (core.view n)) (working_leg (core.view n)) t.leg refl (at_leg n _ (working_leg (core.view n)) t e)

pub transfer_leg : (core : Core) (e : Event) (t : Transfer) → LegsFit core → refusal core e ≡ None → transfer_of core e ≡ Some t → t.leg < (sizes core).legs
transfer_leg core (events.Load n l) t i ok is = to_leg core l t.leg (let same : reads_from n l 8 ≡ t = cc in sym (ap (λ (y : Transfer). y.leg) same)) (all_none (load_guards core n l) ok).1.1.1.0
transfer_leg core (events.WriteSuper n l) t i ok is = to_leg core l t.leg (leg_of_map _ l (core.offer n) t (λ o. refl) is) (all_none (sb_guards core n l) ok).1.1.1.0
transfer_leg core (events.WritePage n p l) t i ok is = to_leg core l t.leg (leg_of_some l t _ refl is) (all_none (bit_guards core n p l) ok).1.1.1.0
transfer_leg core (events.Out n k l) t i ok is = to_leg core l t.leg (leg_of_map _ l (write_in k (core.writes n)) t (λ w. refl) is) (all_none (out_guards core n k l) ok).1.1.1.0
transfer_leg core (events.In n k) t i ok is = works_below (sizes core) (core.view n) t.leg (i.views n).roles (in_leg core n (read_in k (core.reads n)) t is)
transfer_leg core (events.Gather n) t i ok is = works_below (sizes core) (core.view n) t.leg (i.views n).roles (gather_leg core n (due_page core n) t is)
transfer_leg core (events.CopyIn n) t i ok is = works_below (sizes core) (core.view n) t.leg (i.views n).roles (copy_leg core n (next_sector core n) t is)
transfer_leg core (events.CopyOut n l) t i ok is = to_leg core l t.leg (leg_of_map _ l (buffer_of core n) t (λ b. refl) is) (all_none (co_guards core n l) ok).1.1.1.0
transfer_leg core (events.SlotIn n p l) t i ok is = to_leg core l t.leg (leg_of_map _ l (core.recovery n) t (λ r. refl) is) (all_none (slotin_guards core n p l) ok).1.1.1.0
transfer_leg core (events.SlotOut n p l) t i ok is = to_leg core l t.leg (leg_of_map _ l (core.recovery n) t (λ r. refl) is) (all_none (slotout_guards core n p l) ok).1.1.1.0
transfer_leg core e t i ok is = cc

-- A node loses no last leg.

lost_by : (last : Bool) (k l : ℕ) → (if last then outcomes.Io k else outcomes.Lost k) ≡ outcomes.Lost l → last ≡ false
lost_by true k l e = cc
lost_by false k l e = refl

super_lost : (target last : Bool) (k m l : ℕ) → (if target then (if last then outcomes.Io k else outcomes.Lost k) else outcomes.Unreached m) ≡ outcomes.Lost l → last ≡ false
super_lost true last k m l e = lost_by last k l e
super_lost false last k m l e = cc

failure_lost : (core : Core) (e : Event) (t : Transfer) (l : ℕ) → failure core e t ≡ outcomes.Lost l → is_last (core.view t.node) t.leg ≡ false
failure_lost core (events.Load n k) t l e = cc
failure_lost core (events.WriteSuper n k) t l e = super_lost (is_target (core.view n) k) (is_last (core.view t.node) t.leg) t.leg k l e
failure_lost core e t l is = lost_by (is_last (core.view t.node) t.leg) t.leg l is

load_lost : (l : ℕ) (v : Sector) (x : Option Says) (k : ℕ) → load_outcome l v x ≡ outcomes.Lost k → ⊥
load_lost l v None k e = cc
load_lost l v (Some says) k e = cc

read_lost : (core : Core) (e : Event) (t : Transfer) (v : Sector) (l : ℕ) → outcome_read core e t v ≡ outcomes.Lost l → ⊥
read_lost core (events.Load n k) t v l e = load_lost k v (says_in core.array k v.bytes) l e
read_lost core (events.In n k) t v l e = cc
read_lost core (events.CopyIn n) t v l e = cc
read_lost core e t v l is = cc

same_transfer : (x : Option Transfer) (s t : Transfer) → x ≡ Some s → x ≡ Some t → s ≡ t
same_transfer x s t e is = let both : Some s ≡ Some t = sym e ∙ is in cc

pub not_last : (old : State) (e : Event) (l : ℕ) (new : Legs) (t : Transfer) → Moves old e (outcomes.Lost l) new → transfer_of old.core e ≡ Some t → is_last (old.core.view t.node) t.leg ≡ false
not_last old e l new t (Quiet none o same) is = cc
not_last old e l new t (Written s v found value path o put) is = cc
not_last old e l new t (Read s v found value path gives o same) is = absurd (read_lost old.core e s v l (sym o))
not_last old e l new t (Failed s found o same) is = subst (λ (x : Transfer). is_last (old.core.view x.node) x.leg ≡ false) (same_transfer (transfer_of old.core e) s t found is) (failure_lost old.core e s l (sym o))
not_last old e l new t (Left s v found value path o put) is = subst (λ (x : Transfer). is_last (old.core.view x.node) x.leg ≡ false) (same_transfer (transfer_of old.core e) s t found is) (failure_lost old.core e s l (sym o))

-- The changes.

gone_offer : (offer : ℕ → Option Offer) (n m : ℕ) (o : Offer) → with_at offer n None m ≡ Some o → offer m ≡ Some o
gone_offer offer n m o = by (m == n)
  where
    by : (b : Bool) → (if b then None else offer m) ≡ Some o → offer m ≡ Some o
    by true e = cc
    by false e = e

held_only : (sender : ℕ → SenderPhase) (n m : ℕ) → has_published (with_at sender n senders.MessageHeld m) ≡ true → has_published (sender m) ≡ true
held_only sender n m = by (m == n)
  where
    by : (b : Bool) → has_published (if b then senders.MessageHeld else sender m) ≡ true → has_published (sender m) ≡ true
    by true e = cc
    by false e = e

pub lose_by : (core : Core) (n l : ℕ) (s : SenderPhase) → is_last (core.view n) l ≡ false → l < (sizes core).legs → Change core (record (voided core n s) { view = with_at core.view n (lost_one (core.view n) l) })
lose_by core n l senders.Offered last lt = loses n l (with_at core.sender n senders.MessageHeld) (with_at core.offer n None) (held_only core.sender n) (gone_offer core.offer n) last lt
lose_by core n l s last lt = loses n l core.sender core.offer (λ m e. e) (λ m o e. e) last lt

pub void_by : (core : Core) (n : ℕ) (s : SenderPhase) → Changes core (voided core n s)
void_by core n senders.Offered = changed (voids n)
void_by core n s = still

-- the try leaves the views as they are
pub record Tries (core mid : Core) : Type 0 where
  pub changes : Changes core mid
  pub view : mid.view ≡ core.view
  pub array : mid.array ≡ core.array

slot_tries : (core : Core) (p l : ℕ) (x : Option Recovering) → Tries core (slot_failed core p l x)
slot_tries core p l None = record { changes = still; view = refl; array = refl }
slot_tries core p l (Some r) = record { changes = failed_change core r.slot p l; view = refl; array = refl }

pub tries : (core : Core) (e : Event) → refusal core e ≡ None → Tries core (tried core e)
tries core (events.Out n k l) ok = record { changes = start_change core n k l ok; view = refl; array = refl }
tries core (events.WritePage n p l) ok = record { changes = failed_change core n p l; view = refl; array = refl }
tries core (events.SlotOut n p l) ok = slot_tries core p l (core.recovery n)
tries core e ok = record { changes = still; view = refl; array = refl }

pub lose_change : (core : Core) (e : Event) (t : Transfer) → LegsFit core → refusal core e ≡ None → transfer_of core e ≡ Some t → is_last (core.view t.node) t.leg ≡ false → Changes core (leg_lost (tried core e) t.node t.leg)
lose_change core e t i ok is last =
    let mid = tries core e ok in
    more mid.changes (lose_by (tried core e) t.node t.leg ((tried core e).sender t.node) (ap (λ (v : ℕ → NodeView). is_last (v t.node) t.leg) mid.view ∙ last)
    (subst (λ (a : Array). t.leg < a.sizes.legs) (sym mid.array) (transfer_leg core e t i ok is)))
