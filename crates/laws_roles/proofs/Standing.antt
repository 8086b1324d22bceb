-- What an event does to the superblocks that stand on the legs.
use Rattle.std.proofs.Common.{◌≡◌, ℕ, ◌+◌, ◌*◌, ◌≤◌, ◌==◌, ◌&&◌, Bool, true, false, if◌then◌else◌, Option, Some, None, refl, sym, ap, subst, ◌∙◌, arith}
use Rattle.std.proofs.Math.Path.{fun_ext}
use Rattle.std.specs.Prelude.{option_map}
use Rattle.std.proofs.lemmas.Bool.Decides.{nat_tests}
use Rattle.dlm_modes.specs.Points.{with_at}
use Rattle.mdc_types.specs.Geometry.{Sizes, page_sector, slot_pages, data_offset, data_offset_of}
use Rattle.mdc_types.specs.declared.numbers.Sector.{Sector}
use Rattle.mdc_types.specs.declared.events.Event.{Event}
use Rattle.mdc_types.specs.declared.events.Event.TheVariants as events
use Rattle.mdc_types.specs.declared.outcomes.Outcome.{Outcome}
use Rattle.mdc_types.specs.declared.outcomes.Outcome.TheVariants as outcomes
use Rattle.md_superblock.specs.Arrays.{Array, Says, super_for, spelled, says_in, AreBytes}
use Rattle.md_superblock.specs.Superblock.{IsSuper}
use Rattle.md_superblock.proofs.ArrayLaws.{says_again}
use Rattle.dlm_space.specs.declared.ask.Ask.{Ask}
use Rattle.mirror_io.specs.Flight.{write_in, read_in}
use Rattle.mirror_io.specs.declared.live.LiveWrite.{LiveWrite}
use Rattle.mirror_io.specs.declared.live.LiveRead.{LiveRead}
use Rattle.node_recovery.specs.Progress.{Recovering}
use Rattle.resync_worker.specs.declared.buffer.Buffer.{Buffer}
use Rattle.leg_failure.specs.Views.{working_leg}
use Rattle.cluster_model.specs.State.{State, Core, Legs, Offer, sizes, place_of}
use Rattle.cluster_model.specs.Superblocks.{says_of_offer, super_sector}
use Rattle.cluster_model.specs.Transfers.{Transfer, transfer_of, reads_from, reads_at, in_transfer, gather_transfer, copy_in_transfer}
use Rattle.cluster_model.specs.Granting.{asker}
use Rattle.cluster_model.specs.Phases.{is_metadata}
use Rattle.cluster_model.specs.Reads.{read_leg}
use Rattle.cluster_model.specs.Gathering.{due_page}
use Rattle.cluster_model.specs.Copying.{next_sector, buffer_of, settled_with}
use Rattle.cluster_model.specs.Outcomes.{outcome_of, load_outcome, granted_to}
use Rattle.cluster_model.specs.Run.{Moves, Quiet, Written, Read, Failed, Left, Gives, put}
use Rattle.laws_roles.proofs.Parts.{supers}
use Rattle.laws_roles.proofs.OtherRows.{is_super, is_failed, LoadsIt}

-- the array's name and uuid are bytes
pub record Bytes (a : Array) : Type 0 where
  pub name : AreBytes 32 a.name
  pub uuid : AreBytes 16 a.uuid

-- Sectors.

other_sector : (a : Array) (legs : Legs) (l at k : ℕ) (v : Sector) → 16 ≤ at → supers a (put legs l at v) k ≡ supers a legs k
other_sector a legs l at k v le = ap (λ b. says_in a k (if b then v else legs.content k 8).bytes) (not_there (k == l) at (legs.told l) le)
  where
    not_there : (b : Bool) (at : ℕ) (t : Bool) → 16 ≤ at → (b && (8 == at) && t) ≡ false
    not_there b at t le = grind (arith, nat_tests)

pub others_stand : (a : Array) (legs : Legs) (l at : ℕ) (v : Sector) → 16 ≤ at → supers a (put legs l at v) ≡ supers a legs
others_stand a legs l at v le = fun_ext (λ k. other_sector a legs l at k v le)

says_written : (a : Array) (l : ℕ) (o : Offer) → Bytes a → IsSuper (super_for a l (says_of_offer o)) → says_in a l (spelled (super_for a l (says_of_offer o))) ≡ Some (says_of_offer o)
says_written a l o b is = says_again a l (says_of_offer o) (record { ranges = is; arrays = record { uuid = b.uuid; name = b.name; roles = refl } })

-- the offered superblock stands on the leg where it is written
pub super_stands : (core : Core) (legs : Legs) (l : ℕ) (o : Offer) → Bytes core.array → legs.told l ≡ true → IsSuper (super_for core.array l (says_of_offer o))
    → supers core.array (put legs l 8 (super_sector core l o)) ≡ with_at (supers core.array legs) l (Some (says_of_offer o))
super_stands core legs l o b told is = fun_ext (λ k. by k (k == l) refl)
  where
    by : (k : ℕ) (t : Bool) → (k == l) ≡ t → says_in core.array k (if t && (8 == 8) && legs.told l then super_sector core l o else legs.content k 8).bytes ≡ (if t then Some (says_of_offer o) else supers core.array legs k)
    by k true e =
        let same : k ≡ l = grind (arith, nat_tests) in
        ap (λ x. says_in core.array k (if x then super_sector core l o else legs.content k 8).bytes) told
        ∙ ap (λ j. says_in core.array j (spelled (super_for core.array l (says_of_offer o)))) same
        ∙ says_written core.array l o b is
    by k false e = refl

-- Transfers.

read_only : (n place : ℕ) (x : Option ℕ) (t : Transfer) (v : Sector) → reads_at n place x ≡ Some t → t.value ≡ Some v → ⊥
read_only n place None t v e w = cc
read_only n place (Some l) t v e w = let same : reads_from n l place ≡ t = cc in let no_value : None ≡ Some v = ap (λ (y : Transfer). y.value) same ∙ w in cc

page_far : (g : Sizes) (n p : ℕ) → 16 ≤ page_sector g n p
page_far g n p = by (slot_pages g)
  where
    by : (m : ℕ) → 16 ≤ 16 + m * n + p
    by m = grind arith

data_far : (g : Sizes) (s : ℕ) → 16 ≤ data_offset g + s
data_far g s = by g.second
  where
    by : (b : Bool) → 16 ≤ data_offset_of b + s
    by true = omega arith
    by false = omega arith

far_of : (s t : Transfer) → 16 ≤ s.place → Some s ≡ Some t → 16 ≤ t.place
far_of s t le e = let is : s ≡ t = cc in subst (λ (y : Transfer). 16 ≤ y.place) is le

far_map : {A : Type 0} (f : A → Transfer) (x : Option A) (t : Transfer) → ((a : A) → 16 ≤ (f a).place) → option_map f x ≡ Some t → 16 ≤ t.place
far_map f None t far e = cc
far_map f (Some a) t far e = far_of (f a) t (far a) e

in_only : (core : Core) (n : ℕ) (x : Option LiveRead) (t : Transfer) (v : Sector) → in_transfer core n x ≡ Some t → t.value ≡ Some v → ⊥
in_only core n None t v e w = cc
in_only core n (Some r) t v e w = read_only n (place_of core r.sector) (read_leg core n r) t v e w

gather_only : (core : Core) (n : ℕ) (x : Option (ℕ × ℕ)) (t : Transfer) (v : Sector) → gather_transfer core n x ≡ Some t → t.value ≡ Some v → ⊥
gather_only core n None t v e w = cc
gather_only core n (Some due) t v e w = read_only n (page_sector (sizes core) due.0 due.1) (working_leg (core.view n)) t v e w

copy_only : (core : Core) (n : ℕ) (x : Option ℕ) (t : Transfer) (v : Sector) → copy_in_transfer core n x ≡ Some t → t.value ≡ Some v → ⊥
copy_only core n None t v e w = cc
copy_only core n (Some s) t v e w = read_only n (place_of core s) (working_leg (core.view n)) t v e w

slot_only : (core : Core) (n p l : ℕ) (x : Option Recovering) (t : Transfer) (v : Sector) → option_map (λ (r : Recovering). reads_from n l (page_sector (sizes core) r.slot p)) x ≡ Some t → t.value ≡ Some v → ⊥
slot_only core n p l None t v e w = cc
slot_only core n p l (Some r) t v e w = let same : reads_from n l (page_sector (sizes core) r.slot p) ≡ t = cc in let no_value : None ≡ Some v = ap (λ (y : Transfer). y.value) same ∙ w in cc

load_only : (n l : ℕ) (t : Transfer) (v : Sector) → Some (reads_from n l 8) ≡ Some t → t.value ≡ Some v → ⊥
load_only n l t v e w = let same : reads_from n l 8 ≡ t = cc in let no_value : None ≡ Some v = ap (λ (y : Transfer). y.value) same ∙ w in cc

-- all else that is written lies behind the superblock
written_far : (core : Core) (e : Event) (t : Transfer) (v : Sector) → is_super e ≡ false → transfer_of core e ≡ Some t → t.value ≡ Some v → 16 ≤ t.place
written_far core (events.WriteSuper n l) t v s is w = cc
written_far core (events.Load n l) t v s is w = absurd (load_only n l t v is w)
written_far core (events.WritePage n p l) t v s is w = far_of _ t (page_far (sizes core) n p) is
written_far core (events.Out n k l) t v s is w = far_map _ (write_in k (core.writes n)) t (λ (x : LiveWrite). data_far (sizes core) x.sector) is
written_far core (events.In n k) t v s is w = absurd (in_only core n (read_in k (core.reads n)) t v is w)
written_far core (events.Gather n) t v s is w = absurd (gather_only core n (due_page core n) t v is w)
written_far core (events.CopyIn n) t v s is w = absurd (copy_only core n (next_sector core n) t v is w)
written_far core (events.CopyOut n l) t v s is w = far_map _ (buffer_of core n) t (λ (b : Buffer). data_far (sizes core) b.sector) is
written_far core (events.SlotIn n p l) t v s is w = absurd (slot_only core n p l (core.recovery n) t v is w)
written_far core (events.SlotOut n p l) t v s is w = far_map _ (core.recovery n) t (λ (r : Recovering). page_far (sizes core) r.slot p) is
written_far core e t v s is w = cc

pub supers_stay : (a : Array) (old : State) (e : Event) (o : Outcome) (new : Legs) → is_super e ≡ false → Moves old e o new → supers a new ≡ supers a old.legs
supers_stay a old e o new s (Quiet none is legs) = ap (supers a) legs
supers_stay a old e o new s (Written t v at value path done legs) = ap (supers a) legs ∙ others_stand a old.legs t.leg t.place v (written_far old.core e t v s at value)
supers_stay a old e o new s (Read t v at value path gives is legs) = ap (supers a) legs
supers_stay a old e o new s (Failed t at is legs) = ap (supers a) legs
supers_stay a old e o new s (Left t v at value path is legs) = ap (supers a) legs ∙ others_stand a old.legs t.leg t.place v (written_far old.core e t v s at value)

-- Outcomes.

granted_well : (x : Option Ask) → is_failed (granted_to x) ≡ false
granted_well None = refl
granted_well (Some a) = refl

either_well : (b : Bool) (o p : Outcome) → is_failed o ≡ false → is_failed p ≡ false → is_failed (if b then o else p) ≡ false
either_well true o p e f = e
either_well false o p e f = f

quiet_well : (core : Core) (e : Event) → is_failed (outcome_of core e) ≡ false
quiet_well core (events.Grant res) = granted_well (asker core res)
quiet_well core (events.Offer n wish) = either_well (is_metadata wish) (outcomes.Events (core.members.drawn + 1)) outcomes.Done refl refl
quiet_well core (events.Resume n) = either_well (core.receiver n).gone outcomes.Broken outcomes.Whole refl refl
quiet_well core (events.Settle n) = settled_well (buffer_of core n)
  where
    settled_well : (x : Option Buffer) → is_failed (settled_with x) ≡ false
    settled_well None = refl
    settled_well (Some b) = refl
quiet_well core e = refl

-- an event that failed has a transfer
pub has_transfer : (old : State) (e : Event) (o : Outcome) (new : Legs) → Moves old e o new → is_failed o ≡ true → (t : Transfer) × (transfer_of old.core e ≡ Some t)
has_transfer old e o new (Quiet none is legs) f = let well : is_failed o ≡ false = ap is_failed is ∙ quiet_well old.core e in cc
has_transfer old e o new (Written t v at value path done legs) f = (t, at)
has_transfer old e o new (Read t v at value path gives is legs) f = (t, at)
has_transfer old e o new (Failed t at is legs) f = (t, at)
has_transfer old e o new (Left t v at value path is legs) f = (t, at)

-- What a load reads.

loaded_is : (l : ℕ) (v : Sector) (x : Option Says) (number : ℕ) (w : Sector) → load_outcome l v x ≡ outcomes.Super number w → v ≡ w
loaded_is l v None number w e = cc
loaded_is l v (Some says) number w e = cc

load_moves : (old : State) (n l : ℕ) (o : Outcome) (new : Legs) → Moves old (events.Load n l) o new → old.legs.told l ≡ true
    → (number : ℕ) (v : Sector) → o ≡ outcomes.Super number v → supers old.core.array old.legs l ≡ says_in old.core.array l v.bytes
load_moves old n l o new (Quiet none is legs) told number v e = cc
load_moves old n l o new (Written t w at value path done legs) told number v e = absurd (load_only n l t w at value)
load_moves old n l o new (Read t w at value path gives is legs) told number v e =
    let same : reads_from n l 8 ≡ t = cc in
    let read : w ≡ v = loaded_is l w (says_in old.core.array l w.bytes) number v (sym is ∙ e) in
    let content : w ≡ old.legs.content l 8 = subst (λ (y : Transfer). Gives old.legs y.leg y.place w) (sym same) gives told in
    ap (λ (x : Sector). says_in old.core.array l x.bytes) (sym content ∙ read)
load_moves old n l o new (Failed t at is legs) told number v e = let failed : outcomes.Unread l ≡ outcomes.Super number v = sym is ∙ e in cc
load_moves old n l o new (Left t w at value path is legs) told number v e = absurd (load_only n l t w at value)

pub loads_it : (old : State) (e : Event) (o : Outcome) (new : Legs) → Moves old e o new → ((n l : ℕ) → e ≡ events.Load n l → old.legs.told l ≡ true)
    → LoadsIt old.core (supers old.core.array old.legs) e o
loads_it old (events.Load n l) o new m told = load_moves old n l o new m (told n l refl)
loads_it old e o new m told = tt
