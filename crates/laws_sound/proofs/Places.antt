-- The sector of a transfer is one that its leg has.
use Rattle.std.proofs.Common.{◌≡◌, ℕ, ◌+◌, ◌-◌, ◌*◌, ◌/◌, ◌%◌, ◌<◌, ◌≤◌, Bool, true, false, if◌then◌else◌, Option, Some, None, refl, subst, arith}
use Rattle.std.specs.Prelude.{nat_le, nat_lt, option_map}
use Rattle.std.proofs.lemmas.Bool.{ltb-true}
use Rattle.std.proofs.Math.Nat.{mod-lt}
use Rattle.std.proofs.lemmas.Nat.{div_below}
use Rattle.mdc_types.specs.Geometry.{Sizes, IsGeometry, nodes_of, pages_of, chunks_of, parts_of, slot_pages, page_sector, data_offset, data_offset_of, length_of}
use Rattle.mdc_types.specs.declared.events.Event.{Event}
use Rattle.mdc_types.specs.declared.events.Event.TheVariants as events
use Rattle.mdc_types.specs.declared.refusals.Refusal.TheVariants.{NoNode, NoPage}
use Rattle.mirror_io.specs.Flight.{write_in, read_in}
use Rattle.mirror_io.specs.declared.live.LiveWrite.{LiveWrite}
use Rattle.mirror_io.specs.declared.live.LiveRead.{LiveRead}
use Rattle.node_recovery.specs.Progress.{Recovering}
use Rattle.resync_worker.specs.Copying.{Passing}
use Rattle.resync_worker.specs.declared.buffer.Buffer.{Buffer}
use Rattle.slot_gathering.specs.Gatherings.{all_pages}
use Rattle.cluster_model.specs.State.{Core, sizes, place_of}
use Rattle.cluster_model.specs.Guards.{no_node, no_page}
use Rattle.cluster_model.specs.Bits.{bit_guards}
use Rattle.cluster_model.specs.Reads.{read_leg}
use Rattle.cluster_model.specs.Copying.{next_sector, buffer_of, buffer_in}
use Rattle.cluster_model.specs.Gathering.{due_page}
use Rattle.cluster_model.specs.Recovering.{slotin_guards, slotout_guards}
use Rattle.cluster_model.specs.Transfers.{Transfer, transfer_of, reads_at, reads_from, in_transfer, gather_transfer, copy_in_transfer}
use Rattle.cluster_model.specs.Table.{refusal}
use Rattle.leg_failure.specs.Views.{working_leg}
use Rattle.laws_sound.specs.Laws.{InRange}
use Rattle.laws_sound.proofs.Guarded.{all_none, unless_none}
use Rattle.laws_sound.proofs.CopySteps.{next_below}

-- Slots lie before the data.

pages_few : (second : Bool) (chunks : ℕ) → chunks ≤ (if second then 63488 else 30720) → (if nat_le chunks 2048 then 1 else 1 + parts_of (chunks - 2048) 4096) ≤ (if second then 16 else 8)
pages_few true chunks le = grind arith
pages_few false chunks le = grind arith

few_pages : (g : Sizes) → IsGeometry g → pages_of g ≤ slot_pages g
few_pages g i = pages_few g.second (chunks_of g) i.bits

slot_before : (second : Bool) (n p : ℕ) → n < (if second then 16 else 8) → p < (if second then 16 else 8) → 16 + (if second then 16 else 8) * n + p < data_offset_of second
slot_before true n p a b = omega arith
slot_before false n p a b = omega arith

page_on : (g : Sizes) (n p : ℕ) → IsGeometry g → n < nodes_of g → p < pages_of g → page_sector g n p < length_of g
page_on g n p i a b =
    let few = few_pages g i in
    let before = slot_before g.second n p a (omega arith) in
    omega arith

data_on : (g : Sizes) (s : ℕ) → s < g.room → data_offset g + s < length_of g
data_on g s lt = omega arith

offset_some : (b : Bool) → 8 < data_offset_of b
offset_some true = omega arith
offset_some false = omega arith

super_place : (g : Sizes) → 8 < length_of g
super_place g = let lt = offset_some g.second in omega arith

-- Transfers.

place_is : (s t : Transfer) (bound : ℕ) → s.place < bound → Some s ≡ Some t → t.place < bound
place_is s t bound lt e = let is : s ≡ t = cc in subst (λ (y : Transfer). y.place < bound) is lt

mapped : {A : Type 0} (f : A → Transfer) (bound : ℕ) (x : Option A) (t : Transfer) → ((a : A) → x ≡ Some a → (f a).place < bound) → option_map f x ≡ Some t → t.place < bound
mapped f bound None t fit e = cc
mapped f bound (Some a) t fit e = place_is (f a) t bound (fit a refl) e

read_place : (n place bound : ℕ) (x : Option ℕ) (t : Transfer) → place < bound → reads_at n place x ≡ Some t → t.place < bound
read_place n place bound x t lt e = mapped (λ l. reads_from n l place) bound x t (λ l is. lt) e

in_place : (core : Core) (n k : ℕ) (x : Option LiveRead) (t : Transfer) → read_in k (core.reads n) ≡ x → InRange core → in_transfer core n x ≡ Some t → t.place < length_of (sizes core)
in_place core n k None t found i e = cc
in_place core n k (Some r) t found i e = read_place n (place_of core r.sector) (length_of (sizes core)) (read_leg core n r) t (data_on (sizes core) r.sector ((i.flight.requests n).read_sectors k r found).0) e

page_some : (g : Sizes) → 0 < pages_of g
page_some g = by (nat_le (chunks_of g) 2048)
  where
    by : (b : Bool) → 0 < (if b then 1 else 1 + parts_of (chunks_of g - 2048) 4096)
    by true = omega arith
    by false = omega arith

due_by : (g : Sizes) (next : ℕ) (b : Bool) (due : ℕ × ℕ) → nat_lt next (all_pages g) ≡ b → (if b then Some (next / pages_of g, next % pages_of g) else None) ≡ Some due → (due.0 < nodes_of g) × (due.1 < pages_of g)
due_by g next true due lt e =
    let same : (next / pages_of g, next % pages_of g) ≡ due = cc in
    subst (λ (d : ℕ × ℕ). (d.0 < nodes_of g) × (d.1 < pages_of g)) same
    (div_below next (pages_of g) (nodes_of g) (page_some g) (ltb-true next (all_pages g) lt), mod-lt next (page_some g))
due_by g next false due lt e = cc

gather_place : (core : Core) (n : ℕ) (x : Option (ℕ × ℕ)) (t : Transfer) → due_page core n ≡ x → InRange core → gather_transfer core n x ≡ Some t → t.place < length_of (sizes core)
gather_place core n None t found i e = cc
gather_place core n (Some due) t found i e =
    let next = (core.adding n).gathering.next in
    let is = due_by (sizes core) next (nat_lt next (all_pages (sizes core))) due refl found in
    read_place n (page_sector (sizes core) due.0 due.1) (length_of (sizes core)) (working_leg (core.view n)) t (page_on (sizes core) due.0 due.1 i.legs.sizes_fit is.0 is.1) e

copy_place : (core : Core) (n : ℕ) (x : Option ℕ) (t : Transfer) → next_sector core n ≡ x → InRange core → copy_in_transfer core n x ≡ Some t → t.place < length_of (sizes core)
copy_place core n None t found i e = cc
copy_place core n (Some s) t found i e =
    read_place n (place_of core s) (length_of (sizes core)) (working_leg (core.view n)) t (data_on (sizes core) s (next_below (sizes core) (core.copy n).pass (core.copy n).window s i.legs.sizes_fit found)) e

buffer_below : (bound : ℕ) (x : Option Passing) (b : Buffer) → ((p : Passing) → x ≡ Some p → (c : Buffer) → p.buffer ≡ Some c → c.sector < bound) → buffer_in x ≡ Some b → b.sector < bound
buffer_below bound None b fit e = cc
buffer_below bound (Some p) b fit e = fit p refl b e

node_of : (core : Core) (n : ℕ) → no_node core n ≡ None → n < nodes_of (sizes core)
node_of core n e = ltb-true n (nodes_of (sizes core)) (unless_none _ (NoNode n) e)

page_of_slot : (core : Core) (p : ℕ) → no_page core p ≡ None → p < pages_of (sizes core)
page_of_slot core p e = ltb-true p (pages_of (sizes core)) (unless_none _ (NoPage p) e)

pub transfer_place : (core : Core) (e : Event) (t : Transfer) → InRange core → refusal core e ≡ None → transfer_of core e ≡ Some t → t.place < length_of (sizes core)
transfer_place core (events.Load n l) t i ok is = place_is (reads_from n l 8) t (length_of (sizes core)) (super_place (sizes core)) is
transfer_place core (events.WriteSuper n l) t i ok is = mapped _ (length_of (sizes core)) (core.offer n) t (λ o found. super_place (sizes core)) is
transfer_place core (events.WritePage n p l) t i ok is =
    let a = all_none (bit_guards core n p l) ok in
    place_is _ t (length_of (sizes core)) (page_on (sizes core) n p i.legs.sizes_fit (node_of core n a.0) (page_of_slot core p a.1.1.1.1.1.0)) is
transfer_place core (events.Out n k l) t i ok is =
    mapped _ (length_of (sizes core)) (write_in k (core.writes n)) t (λ (w : LiveWrite) found. data_on (sizes core) w.sector ((i.flight.requests n).write_sectors k w found)) is
transfer_place core (events.In n k) t i ok is = in_place core n k (read_in k (core.reads n)) t refl i is
transfer_place core (events.Gather n) t i ok is = gather_place core n (due_page core n) t refl i is
transfer_place core (events.CopyIn n) t i ok is = copy_place core n (next_sector core n) t refl i is
transfer_place core (events.CopyOut n l) t i ok is =
    mapped _ (length_of (sizes core)) (buffer_of core n) t (λ (b : Buffer) found. data_on (sizes core) b.sector (buffer_below (sizes core).room (core.copy n).pass b (λ p e. ((i.room.copies n).pass p e).buffer) found)) is
transfer_place core (events.SlotIn n p l) t i ok is =
    let a = (all_none (slotin_guards core n p l) ok).1.1.1 in
    mapped _ (length_of (sizes core)) (core.recovery n) t (λ (r : Recovering) found. page_on (sizes core) r.slot p i.legs.sizes_fit (i.room.recoveries n r found).slot (page_of_slot core p a.1.1.1.0)) is
transfer_place core (events.SlotOut n p l) t i ok is =
    let a = (all_none (slotout_guards core n p l) ok).1.1.1 in
    mapped _ (length_of (sizes core)) (core.recovery n) t (λ (r : Recovering) found. page_on (sizes core) r.slot p i.legs.sizes_fit (i.room.recoveries n r found).slot (page_of_slot core p a.1.1.1.0)) is
transfer_place core e t i ok is = cc
