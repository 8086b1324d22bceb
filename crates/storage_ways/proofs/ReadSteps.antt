-- The ways of each event that reads a sector.
use Rattle.std.proofs.Common.{◌≡◌, ℕ, ◌*◌, ◌/◌, ◌%◌, ◌<◌, true, false, Option, Some, None, refl, sym, ap, subst, ◌∙◌, arith}
use Rattle.mdc_types.specs.Geometry.{page_sector, pages_of, nodes_of}
use Rattle.mdc_types.specs.declared.events.Event.{Event}
use Rattle.mdc_types.specs.declared.events.Event.TheVariants as events
use Rattle.mdc_types.specs.declared.numbers.Sector.{Sector}
use Rattle.mdc_types.specs.declared.outcomes.Outcome.{Outcome}
use Rattle.mdc_types.specs.declared.outcomes.Outcome.TheVariants as outcomes
use Rattle.md_superblock.specs.Arrays.{Says, says_in}
use Rattle.mirror_io.specs.Flight.{read_in}
use Rattle.mirror_io.specs.declared.live.LiveRead.{LiveRead}
use Rattle.slot_pages.specs.Slot.{page_has}
use Rattle.cluster_model.specs.State.{State, Core, Legs, sizes, place_of}
use Rattle.cluster_model.specs.After.{after, done}
use Rattle.cluster_model.specs.Changes.{headed}
use Rattle.cluster_model.specs.Failures.{lost_or_io}
use Rattle.cluster_model.specs.Outcomes.{load_outcome}
use Rattle.cluster_model.specs.Phases.{is_in, is_up}
use Rattle.cluster_model.specs.Reads.{end_read, read_sector, read_leg}
use Rattle.cluster_model.specs.Run.{Moves, Quiet, Written, Read, Failed, Left}
use Rattle.cluster_model.specs.Table.{refusal}
use Rattle.cluster_model.specs.Transfers.{Transfer, transfer_of, reads_from, reads_at, in_transfer, gather_transfer, copy_in_transfer, slot_in_transfer}
use Rattle.laws_roles.proofs.OtherRows.{is_failed}
use Rattle.laws_roles.proofs.Parts as roles
use Rattle.storage_ways.proofs.Place.{Around, here, Place, sound_of}
use Rattle.storage_ways.proofs.Moving.{Traced, around, next, Reads, reads, fails, reads_of, done_when, moved}
use Rattle.storage_ways.proofs.Standing.{page_stands}
use Rattle.storage_ways.proofs.ComingRows.{load_way}
use Rattle.storage_ways.proofs.CopyRows.{PageDue, page_due, gather_way}
use Rattle.storage_ways.proofs.SectorRows.{SectorDue, sector_due, fill_way}
use Rattle.storage_ways.proofs.RecoveryRows.{PageRead, page_read, slot_in_way}
use Rattle.storage_ways.proofs.Failing.{failed_ways}
use Rattle.storage_ways.proofs.Guarding.{works_leg}
use Rattle.storage_ways.proofs.Ways.{Ways, one, none, still}

load_well : (l : ℕ) (v : Sector) (x : Option Says) → is_failed (load_outcome l v x) ≡ false
load_well l v None = refl
load_well l v (Some says) = refl

-- a read is of its node, and writes nothing
read_is : (n place : ℕ) (x : Option ℕ) (t : Transfer) → reads_at n place x ≡ Some t → (t.node ≡ n) × (t.value ≡ None)
read_is n place None t e = cc
read_is n place (Some l) t e = let same : reads_from n l place ≡ t = cc in (ap (λ (y : Transfer). y.node) (sym same), ap (λ (y : Transfer). y.value) (sym same))

in_is : (core : Core) (n : ℕ) (x : Option LiveRead) (t : Transfer) → in_transfer core n x ≡ Some t → (t.node ≡ n) × (t.value ≡ None)
in_is core n None t e = cc
in_is core n (Some r) t e = read_is n (place_of core r.sector) (read_leg core n r) t e

some_not_none : (t : Transfer) (v : Sector) → t.value ≡ None → t.value ≡ Some v → ⊥
some_not_none t v e f = cc

slot_below : (n all nodes pages : ℕ) → n < nodes * pages → n / pages < nodes
slot_below n all nodes pages lt = grind arith

module _ (old : State) (g : roles.Ghost) (vs : Traced) (p : Place old.core (around old.core old.legs g vs)) (told : (j : ℕ) → j < (sizes old.core).legs → old.legs.told j ≡ true) where
  abbrev pub A : Around
  A = around old.core old.legs g vs

  abbrev Goal : Event → Outcome → Legs → Type 0
  Goal e o new = Ways (here old.core A) (here (after old.core e o) (next old g vs e o new))

  up_in : (n : ℕ) → is_up (old.core.state n) ≡ true → is_in (old.core.state n) ≡ true
  up_in n up = grind arith

  -- Loads.

  load_by : (n l : ℕ) (o : Outcome) → refusal old.core (events.Load n l) ≡ None → is_failed o ≡ false → Goal (events.Load n l) o old.legs
  load_by n l o ok well =
      subst (λ c. Ways (here old.core A) (here c A)) (sym (done_when old.core (events.Load n l) o well))
      (one (sound_of old.core A p) (load_way old.core A p n l o ok))

  loaded_from : (n l : ℕ) (o : Outcome) (new : Legs) → refusal old.core (events.Load n l) ≡ None → Reads old (events.Load n l) (reads_from n l 8) o new → Goal (events.Load n l) o new
  loaded_from n l o new ok (reads v gives is legs) = moved old g vs (events.Load n l) (here old.core A) o _ new old.legs is legs (load_by n l _ ok (load_well l v (says_in old.core.array l v.bytes)))
  loaded_from n l o new ok (fails is legs) = moved old g vs (events.Load n l) (here old.core A) o (outcomes.Unread l) new old.legs is legs (load_by n l (outcomes.Unread l) ok refl)

  -- Reads of requests.

  in_read : (n k l : ℕ) (x : Option ℕ) → Ways (here old.core A) (here (headed (end_read old.core n k) n l x) A)
  in_read n k l None = none
  in_read n k l (Some s) = none

  pub in_step : (n k : ℕ) (o : Outcome) (new : Legs) → is_up (old.core.state n) ≡ true → Moves old (events.In n k) o new → Goal (events.In n k) o new
  in_step n k o new up (Quiet nothing is legs) = moved old g vs (events.In n k) (here old.core A) o outcomes.Done new old.legs is legs none
  in_step n k o new up (Written t v at value path done legs) = absurd (some_not_none t v (in_is old.core n (read_in k (old.core.reads n)) t at).1 value)
  in_step n k o new up (Read t v at value path gives is legs) = moved old g vs (events.In n k) (here old.core A) o (outcomes.Value t.leg v) new old.legs is legs (in_read n k t.leg (read_sector (read_in k (old.core.reads n))))
  in_step n k o new up (Failed t at is legs) =
      let node = (in_is old.core n (read_in k (old.core.reads n)) t at).0 in
      moved old g vs (events.In n k) (here old.core A) o (lost_or_io old.core t) new old.legs is legs
      (failed_ways (here old.core A) old.core (events.In n k) t A at none (sound_of old.core A p) (subst (λ m. is_in (old.core.state m) ≡ true) (sym node) (up_in n up)) still)
  in_step n k o new up (Left t v at value path is legs) = absurd (some_not_none t v (in_is old.core n (read_in k (old.core.reads n)) t at).1 value)

  -- Gatherings.

  gathered_from : (n : ℕ) (d : PageDue old.core A p n) (o : Outcome) (new : Legs)
      → transfer_of old.core (events.Gather n) ≡ Some (reads_from n d.leg (page_sector (sizes old.core) ((old.core.adding n).gathering.next / pages_of (sizes old.core)) ((old.core.adding n).gathering.next % pages_of (sizes old.core))))
      → Reads old (events.Gather n) (reads_from n d.leg (page_sector (sizes old.core) ((old.core.adding n).gathering.next / pages_of (sizes old.core)) ((old.core.adding n).gathering.next % pages_of (sizes old.core)))) o new
      → Goal (events.Gather n) o new
  gathered_from n d o new at (reads v gives is legs) =
      let k = (old.core.adding n).gathering.next / pages_of (sizes old.core) in
      let q = (old.core.adding n).gathering.next % pages_of (sizes old.core) in
      let stands = gives (told d.leg (works_leg old.core A p n d.leg d.works)) in
      let below : k < nodes_of (sizes old.core) = slot_below (old.core.adding n).gathering.next 0 (nodes_of (sizes old.core)) (pages_of (sizes old.core)) d.left in
      moved old g vs (events.Gather n) (here old.core A) o (outcomes.Page v) new old.legs is legs
      (one (sound_of old.core A p) (gather_way old.core A p n d v (λ c. ap (λ (x : Sector). page_has (sizes old.core) q x.bytes c) stands ∙ page_stands (sizes old.core) old.legs d.leg k q below c)))
  gathered_from n d o new at (fails is legs) =
      moved old g vs (events.Gather n) (here old.core A) o _ new old.legs is legs
      (failed_ways (here old.core A) old.core (events.Gather n) _ A at none (sound_of old.core A p) (up_in n d.up) still)

  pub gather_step : (n : ℕ) (o : Outcome) (new : Legs) → refusal old.core (events.Gather n) ≡ None → Moves old (events.Gather n) o new → Goal (events.Gather n) o new
  gather_step n o new ok m =
      let d = page_due old.core A p n ok in
      let at = ap (gather_transfer old.core n) d.due ∙ ap (reads_at n (page_sector (sizes old.core) ((old.core.adding n).gathering.next / pages_of (sizes old.core)) ((old.core.adding n).gathering.next % pages_of (sizes old.core)))) d.reads in
      gathered_from n d o new at (reads_of old (events.Gather n) _ o new at refl m)

  -- Copied sectors.

  filled_from : (n : ℕ) (d : SectorDue old.core A p n) (o : Outcome) (new : Legs) → transfer_of old.core (events.CopyIn n) ≡ Some (reads_from n d.leg (place_of old.core d.sector))
      → Reads old (events.CopyIn n) (reads_from n d.leg (place_of old.core d.sector)) o new → Goal (events.CopyIn n) o new
  filled_from n d o new at (reads v gives is legs) =
      moved old g vs (events.CopyIn n) (here old.core A) o (outcomes.Value d.leg v) new old.legs is legs
      (one (sound_of old.core A p) (fill_way old.core A p n d v (gives (told d.leg (works_leg old.core A p n d.leg d.works)))))
  filled_from n d o new at (fails is legs) =
      moved old g vs (events.CopyIn n) (here old.core A) o _ new old.legs is legs
      (failed_ways (here old.core A) old.core (events.CopyIn n) _ A at none (sound_of old.core A p) (up_in n d.up) still)

  pub copy_in_step : (n : ℕ) (o : Outcome) (new : Legs) → refusal old.core (events.CopyIn n) ≡ None → Moves old (events.CopyIn n) o new → Goal (events.CopyIn n) o new
  copy_in_step n o new ok m =
      let d = sector_due old.core A p n ok in
      let at = ap (copy_in_transfer old.core n) d.next ∙ ap (reads_at n (place_of old.core d.sector)) d.reads in
      filled_from n d o new at (reads_of old (events.CopyIn n) _ o new at refl m)

  -- Pages of a slot that is recovered.

  slot_read_from : (n q l : ℕ) (r : PageRead old.core A p n q l) (o : Outcome) (new : Legs) → transfer_of old.core (events.SlotIn n q l) ≡ Some (reads_from n l (page_sector (sizes old.core) r.recovering.slot q))
      → Reads old (events.SlotIn n q l) (reads_from n l (page_sector (sizes old.core) r.recovering.slot q)) o new → Goal (events.SlotIn n q l) o new
  slot_read_from n q l r o new at (reads v gives is legs) =
      moved old g vs (events.SlotIn n q l) (here old.core A) o (outcomes.Page v) new old.legs is legs
      (one (sound_of old.core A p) (slot_in_way old.core A p n q l r v (λ c. ap (λ (x : Sector). page_has (sizes old.core) q x.bytes c) (gives (told l r.leg)) ∙ page_stands (sizes old.core) old.legs l r.recovering.slot q r.slot c)))
  slot_read_from n q l r o new at (fails is legs) =
      moved old g vs (events.SlotIn n q l) (here old.core A) o _ new old.legs is legs
      (failed_ways (here old.core A) old.core (events.SlotIn n q l) _ A at none (sound_of old.core A p) (up_in n r.opened.up) still)

  pub slot_in_step : (n q l : ℕ) (o : Outcome) (new : Legs) → refusal old.core (events.SlotIn n q l) ≡ None → Moves old (events.SlotIn n q l) o new → Goal (events.SlotIn n q l) o new
  slot_in_step n q l o new ok m =
      let r = page_read old.core A p n q l ok in
      let at = ap (slot_in_transfer old.core n q l) r.is in
      slot_read_from n q l r o new at (reads_of old (events.SlotIn n q l) _ o new at refl m)

  pub load_step : (n l : ℕ) (o : Outcome) (new : Legs) → refusal old.core (events.Load n l) ≡ None → Moves old (events.Load n l) o new → Goal (events.Load n l) o new
  load_step n l o new ok m = loaded_from n l o new ok (reads_of old (events.Load n l) (reads_from n l 8) o new refl refl m)
