-- A data sector to which nothing is sent keeps what it has on each leg.
use Rattle.std.proofs.Common.{◌≡◌, ℕ, ◌+◌, ◌<◌, ◌≤◌, ◌==◌, ◌&&◌, Bool, true, false, if◌then◌else◌, List, [], ◌∷◌, ◌++◌, Option, Some, None, refl, sym, ap, subst, ◌∙◌, arith}
use Rattle.std.proofs.lemmas.Bool.Decides.{nat_tests}
use Rattle.mdc_types.specs.Geometry.{Sizes, data_offset, data_offset_of, nodes_of, pages_of, page_sector}
use Rattle.mdc_types.specs.declared.events.Event.{Event}
use Rattle.mdc_types.specs.declared.events.Event.TheVariants as events
use Rattle.mdc_types.specs.declared.numbers.Sector.{Sector}
use Rattle.mdc_types.specs.declared.outcomes.Entry.{Entry}
use Rattle.mdc_types.specs.declared.outcomes.Outcome.{Outcome}
use Rattle.md_superblock.specs.Arrays.{Array}
use Rattle.mirror_io.specs.Flight.{write_in, read_in}
use Rattle.mirror_io.specs.declared.live.LiveWrite.{LiveWrite}
use Rattle.mirror_io.specs.declared.live.LiveRead.{LiveRead}
use Rattle.node_recovery.specs.Progress.{Recovering}
use Rattle.resync_worker.specs.declared.buffer.Buffer.{Buffer}
use Rattle.leg_failure.specs.Views.{working_leg}
use Rattle.cluster_model.specs.Contents.{SoundOpening}
use Rattle.cluster_model.specs.Copying.{buffer_of, buffer_sector, next_sector}
use Rattle.cluster_model.specs.Gathering.{due_page}
use Rattle.cluster_model.specs.Opening.{Origin, array_of}
use Rattle.cluster_model.specs.Run.{Run, Step, Moves, Quiet, Written, Read, Failed, Left, put}
use Rattle.cluster_model.specs.State.{State, Core, Legs, Offer, sizes, place_of}
use Rattle.cluster_model.specs.Table.{refusal}
use Rattle.cluster_model.specs.Transfers.{Transfer, transfer_of, reads_at, reads_from, super_transfer, out_transfer, in_transfer, gather_transfer, copy_in_transfer, copy_out_transfer, slot_in_transfer, slot_out_transfer}
use Rattle.cluster_model.specs.Writes.{write_sector}
use Rattle.laws_roles.specs.Laws.{Tells}
use Rattle.laws_roles.proofs.Parts as roles
use Rattle.laws_roles.proofs.Parts.{ghost_in}
use Rattle.laws_roles.proofs.Runs.{array_is}
use Rattle.storage_ways.proofs.BitmapRows.{page_to}
use Rattle.storage_ways.proofs.Guarding.{up_node}
use Rattle.storage_ways.proofs.Moving.{Traced, around}
use Rattle.storage_ways.proofs.Place.{Around, Place}
use Rattle.storage_ways.proofs.RecoveryRows.{page_cleared_so}
use Rattle.storage_ways.proofs.Runs as run_places
use Rattle.storage_ways.proofs.Runs.{around_on, traced_in, place}
use Rattle.storage_ways.proofs.Standing.{page_before, used_page_there}
use Rattle.laws_pending.specs.Reads.{is_at, sends, IsLeftAlone}

-- What an event writes.

read_only : (t r : Transfer) (v : Sector) → Some r ≡ Some t → r.value ≡ None → t.value ≡ Some v → ⊥
read_only t r v is none value = let same : r ≡ t = cc in let no = ap (λ (x : Transfer). x.value) same in cc

reads_only : (x : Option ℕ) (n at : ℕ) (t : Transfer) (v : Sector) → reads_at n at x ≡ Some t → t.value ≡ Some v → ⊥
reads_only None n at t v is value = cc
reads_only (Some l) n at t v is value = read_only t (reads_from n l at) v is refl value

not_same : (a b : ℕ) → (a ≡ b → ⊥) → (a == b) ≡ false
not_same a b ne = by (a == b) refl
  where
    by : (x : Bool) → (a == b) ≡ x → x ≡ false
    by false e = refl
    by true e = let same : a ≡ b = grind (arith, nat_tests) in absurd (ne same)

-- data lies behind the superblock and the pages
past_super : (g : Sizes) (s : ℕ) → 16 ≤ data_offset g + s
past_super g s = by g.second
  where
    by : (b : Bool) → 16 ≤ data_offset_of b + s
    by true = omega arith
    by false = omega arith

behind : (d s at : ℕ) → at < d → d + s ≡ at → ⊥
behind d s at lt e = omega arith

-- another data sector
other : (d s t at : ℕ) → (t == s) ≡ false → d + t ≡ at → d + s ≡ at → ⊥
other d s t at e f g = let same : t ≡ s = omega arith in grind (arith, nat_tests)

elsewhere : (b c t : Bool) (v u : Sector) → c ≡ false → (if b && c && t then v else u) ≡ u
elsewhere b c t v u e = grind arith

module _ (o : Origin) (start : State) (sound : SoundOpening o start) (tells : Tells o start) (past : List Entry) (mid : State) (run : Run start past mid) where
  abbrev A : Around
  A = around mid.core mid.legs (ghost_in o (run_places.home o start sound.opens tells) past) (traced_in o start sound.opens tells past)

  place_here : Place mid.core A
  place_here = subst (λ (a : Array). Place mid.core (around_on a mid.legs (ghost_in o (run_places.home o start sound.opens tells) past) (traced_in o start sound.opens tells past))) (sym (array_is o start mid past sound.opens run)) (place o start sound.opens tells past mid run)

  no_page_there : (n q s at : ℕ) → n < nodes_of (sizes mid.core) → q < pages_of (sizes mid.core) → page_sector (sizes mid.core) n q ≡ at → place_of mid.core s ≡ at → ⊥
  no_page_there n q s at node page is same =
      let lt = page_before (sizes mid.core) n q node (used_page_there (sizes mid.core) q place_here.known.range.legs.sizes_fit page) in
      behind (data_offset (sizes mid.core)) s (page_sector (sizes mid.core) n q) lt (same ∙ sym is)

  super_apart : (n l s : ℕ) (x : Option Offer) (t : Transfer) → super_transfer mid.core n l x ≡ Some t → place_of mid.core s ≡ t.place → ⊥
  super_apart n l s None t at same = cc
  super_apart n l s (Some offer) t at same =
      let is : 8 ≡ t.place = by t at in
      let far = past_super (sizes mid.core) s in omega (arith, far, is, same)
    where
      by : (t : Transfer) → super_transfer mid.core n l (Some offer) ≡ Some t → 8 ≡ t.place
      by t at = cc

  out_apart : (n l s : ℕ) (x : Option LiveWrite) (t : Transfer) → out_transfer mid.core n l x ≡ Some t → is_at s (write_sector x) ≡ false → place_of mid.core s ≡ t.place → ⊥
  out_apart n l s None t at quiet same = cc
  out_apart n l s (Some w) t at quiet same =
      let is : place_of mid.core w.sector ≡ t.place = cc in
      other (data_offset (sizes mid.core)) s w.sector t.place quiet is same

  copy_apart : (n l s : ℕ) (x : Option Buffer) (t : Transfer) → copy_out_transfer mid.core n l x ≡ Some t → is_at s (buffer_sector x) ≡ false → place_of mid.core s ≡ t.place → ⊥
  copy_apart n l s None t at quiet same = cc
  copy_apart n l s (Some b) t at quiet same =
      let is : place_of mid.core b.sector ≡ t.place = cc in
      other (data_offset (sizes mid.core)) s b.sector t.place quiet is same

  page_apart : (n q l s : ℕ) (t : Transfer) → refusal mid.core (events.WritePage n q l) ≡ None → transfer_of mid.core (events.WritePage n q l) ≡ Some t → place_of mid.core s ≡ t.place → ⊥
  page_apart n q l s t ok at same =
      let to = page_to mid.core A place_here n q l ok in
      let is : page_sector (sizes mid.core) n q ≡ t.place = cc in
      no_page_there n q s t.place (up_node mid.core A place_here n to.up) to.page is same

  slot_place : (n q l : ℕ) (r : Recovering) (t : Transfer) → slot_out_transfer mid.core n q l (Some r) ≡ Some t → page_sector (sizes mid.core) r.slot q ≡ t.place
  slot_place n q l r t at = cc

  slot_apart : (n q l s : ℕ) (t : Transfer) → refusal mid.core (events.SlotOut n q l) ≡ None → transfer_of mid.core (events.SlotOut n q l) ≡ Some t → place_of mid.core s ≡ t.place → ⊥
  slot_apart n q l s t ok at same =
      let r = page_cleared_so mid.core A place_here n q l ok in
      let is = slot_place n q l r.recovering t (ap (slot_out_transfer mid.core n q l) (sym r.is) ∙ at) in
      no_page_there r.recovering.slot q s t.place r.slot r.clears.page is same

  in_only : (n : ℕ) (x : Option LiveRead) (t : Transfer) (v : Sector) → in_transfer mid.core n x ≡ Some t → t.value ≡ Some v → ⊥
  in_only n None t v at value = cc
  in_only n (Some r) t v at value = reads_only _ n _ t v at value

  gather_only : (n : ℕ) (x : Option (ℕ × ℕ)) (t : Transfer) (v : Sector) → gather_transfer mid.core n x ≡ Some t → t.value ≡ Some v → ⊥
  gather_only n None t v at value = cc
  gather_only n (Some due) t v at value = reads_only (working_leg (mid.core.view n)) n _ t v at value

  copy_only : (n : ℕ) (x : Option ℕ) (t : Transfer) (v : Sector) → copy_in_transfer mid.core n x ≡ Some t → t.value ≡ Some v → ⊥
  copy_only n None t v at value = cc
  copy_only n (Some s) t v at value = reads_only (working_leg (mid.core.view n)) n _ t v at value

  slot_only : (n q l : ℕ) (x : Option Recovering) (t : Transfer) (v : Sector) → slot_in_transfer mid.core n q l x ≡ Some t → t.value ≡ Some v → ⊥
  slot_only n q l None t v at value = cc
  slot_only n q l (Some r) t v at value = read_only t _ v at refl value

  -- what is written lies elsewhere
  apart : (e : Event) (t : Transfer) (v : Sector) (s : ℕ) → refusal mid.core e ≡ None → transfer_of mid.core e ≡ Some t → t.value ≡ Some v → sends mid.core e s ≡ false → place_of mid.core s ≡ t.place → ⊥
  apart (events.Load n l) t v s ok at value quiet same = read_only t (reads_from n l 8) v at refl value
  apart (events.WriteSuper n l) t v s ok at value quiet same = super_apart n l s (mid.core.offer n) t at same
  apart (events.WritePage n q l) t v s ok at value quiet same = page_apart n q l s t ok at same
  apart (events.Out n k l) t v s ok at value quiet same = out_apart n l s (write_in k (mid.core.writes n)) t at quiet same
  apart (events.In n k) t v s ok at value quiet same = in_only n (read_in k (mid.core.reads n)) t v at value
  apart (events.Gather n) t v s ok at value quiet same = gather_only n (due_page mid.core n) t v at value
  apart (events.CopyIn n) t v s ok at value quiet same = copy_only n (next_sector mid.core n) t v at value
  apart (events.CopyOut n l) t v s ok at value quiet same = copy_apart n l s (buffer_of mid.core n) t at quiet same
  apart (events.SlotIn n q l) t v s ok at value quiet same = slot_only n q l (mid.core.recovery n) t v at value
  apart (events.SlotOut n q l) t v s ok at value quiet same = slot_apart n q l s t ok at same
  apart e t v s ok at value quiet same = cc

  -- one step
  pub kept : (e : Event) (out : Outcome) (new : State) → Step mid e out new → (s l : ℕ) → sends mid.core e s ≡ false → new.legs.content l (place_of mid.core s) ≡ mid.legs.content l (place_of mid.core s)
  kept e out new x s l quiet = by x.moves
    where
      far : (t : Transfer) (v : Sector) → transfer_of mid.core e ≡ Some t → t.value ≡ Some v → (put mid.legs t.leg t.place v).content l (place_of mid.core s) ≡ mid.legs.content l (place_of mid.core s)
      far t v at value = elsewhere (l == t.leg) (place_of mid.core s == t.place) (mid.legs.told t.leg) v (mid.legs.content l (place_of mid.core s)) (not_same (place_of mid.core s) t.place (apart e t v s x.accepted at value quiet))

      by : Moves mid e out new.legs → new.legs.content l (place_of mid.core s) ≡ mid.legs.content l (place_of mid.core s)
      by (Quiet none is legs) = ap (λ (y : Legs). y.content l (place_of mid.core s)) legs
      by (Written t v at value path is legs) = ap (λ (y : Legs). y.content l (place_of mid.core s)) legs ∙ far t v at value
      by (Read t v at value path gives is legs) = ap (λ (y : Legs). y.content l (place_of mid.core s)) legs
      by (Failed t at is legs) = ap (λ (y : Legs). y.content l (place_of mid.core s)) legs
      by (Left t v at value path is legs) = ap (λ (y : Legs). y.content l (place_of mid.core s)) legs ∙ far t v at value

pub join : (start mid end : State) (past later : List Entry) → Run start past mid → Run mid later end → Run start (later ++ past) end
join start mid end past [] run rest = subst (λ s. Run start past s) (sym rest) run
join start mid end past (x ∷ later) run rest = (rest.0, join start mid rest.0 past later run rest.1, rest.2)

module _ (o : Origin) (start : State) (sound : SoundOpening o start) (tells : Tells o start) where
  -- where it lies is the same all along
  pub place_is : (past : List Entry) (mid : State) → Run start past mid → (s : ℕ) → place_of mid.core s ≡ data_offset o.sizes + s
  place_is past mid run s = ap (λ (a : Array). data_offset a.sizes + s) (array_is o start mid past sound.opens run)

  pub stays : (past : List Entry) (mid : State) → Run start past mid → (later : List Entry) (end : State) (rest : Run mid later end) (s l : ℕ) → IsLeftAlone s mid later end rest
      → end.legs.content l (data_offset o.sizes + s) ≡ mid.legs.content l (data_offset o.sizes + s)
  stays past mid run [] end rest s l alone = ap (λ (x : State). x.legs.content l (data_offset o.sizes + s)) rest
  stays past mid run (x ∷ later) end rest s l alone =
      let there = join start mid rest.0 past later run rest.1 in
      subst (λ at. end.legs.content l at ≡ rest.0.legs.content l at) (place_is (later ++ past) rest.0 there s)
      (kept o start sound tells (later ++ past) rest.0 there x.event x.outcome end rest.2 s l alone.1)
      ∙ stays past mid run later rest.0 rest.1 s l alone.0
