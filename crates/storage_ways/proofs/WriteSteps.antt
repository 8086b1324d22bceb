-- The ways of each event that writes a page or data.
use Rattle.std.proofs.Common.{◌≡◌, inr, ℕ, ◌+◌, ◌*◌, ◌<◌, ◌≤◌, Bool, true, false, Option, Some, None, refl, sym, ap, subst, arith}
use Rattle.mdc_types.specs.Geometry.{Sizes, IsGeometry, chunks_of, page_sector, pages_of, nodes_of, slot_pages, data_offset, data_offset_of}
use Rattle.mdc_types.specs.declared.events.Event.{Event}
use Rattle.mdc_types.specs.declared.events.Event.TheVariants as events
use Rattle.mdc_types.specs.declared.numbers.Sector.{Sector}
use Rattle.mdc_types.specs.declared.outcomes.Outcome.{Outcome}
use Rattle.mdc_types.specs.declared.outcomes.Outcome.TheVariants as outcomes
use Rattle.mirror_io.specs.Flight.{started}
use Rattle.mirror_io.specs.declared.live.LiveWrite.{LiveWrite}
use Rattle.node_recovery.specs.Progress.{Recovering}
use Rattle.plain_history.specs.History.{PlainWrite, with_start}
use Rattle.resync_worker.specs.declared.buffer.Buffer.{Buffer}
use Rattle.cluster_model.specs.State.{State, Core, Legs, sizes, place_of}
use Rattle.cluster_model.specs.After.{after}
use Rattle.cluster_model.specs.Bits.{page_sector_of, page_written}
use Rattle.cluster_model.specs.Copying.{copied_out}
use Rattle.cluster_model.specs.Failures.{lost_or_io, slot_failed}
use Rattle.cluster_model.specs.Phases.{is_in, is_up}
use Rattle.cluster_model.specs.Run.{Moves, put}
use Rattle.cluster_model.specs.Stored.{data_on}
use Rattle.cluster_model.specs.Table.{refusal}
use Rattle.cluster_model.specs.Transfers.{Transfer, transfer_of, writes_to, out_transfer, copy_out_transfer, slot_out_transfer}
use Rattle.cluster_model.specs.Writes.{start_write, out_done}
use Rattle.laws_roles.proofs.Parts as roles
use Rattle.laws_roles.proofs.Parts.{supers}
use Rattle.laws_roles.proofs.Standing.{others_stand}
use Rattle.storage_ways.specs.Broken.{tried_by}
use Rattle.storage_ways.proofs.Flying.{flying, plain_of}
use Rattle.storage_ways.proofs.Parts.{Part, bits_on, with_page, with_page_if, with_data, with_data_if, tried_values}
use Rattle.storage_ways.proofs.Place.{Around, here, Place, sound_of}
use Rattle.storage_ways.proofs.Sound.{Sound}
use Rattle.storage_ways.proofs.Between.{copy_sound, try_sound, page_sound}
use Rattle.storage_ways.proofs.BitmapRows.{page_to, page_way, missed_page_way}
use Rattle.storage_ways.proofs.SectorRows.{Copied, to_copy, copy_way, missed_copy_way}
use Rattle.storage_ways.proofs.Failing.{failed_by, failed_ways}
use Rattle.storage_ways.proofs.Guarding.{up_node}
use Rattle.storage_ways.proofs.Moving.{Traced, traced, around, next, Puts, well, ill, left, puts_of, moved, standing_so}
use Rattle.storage_ways.proofs.RecoveryRows.{PageCleared, page_cleared_so, slot_out_way, missed_slot_way}
use Rattle.storage_ways.proofs.RequestRows.{Tries, tries, out_way, missed_way, tried_found, broken_from}
use Rattle.storage_ways.proofs.Standing.{bits_stay, bits_put, data_stays, data_put, page_before, used_page_there}
use Rattle.storage_ways.proofs.Ways.{Ways, PageTo, one, still}

-- pages and data lie behind the superblock
page_far : (g : Sizes) (n q : ℕ) → 16 ≤ page_sector g n q
page_far g n q = by (slot_pages g)
  where
    by : (m : ℕ) → 16 ≤ 16 + m * n + q
    by m = grind arith

data_far : (g : Sizes) (s : ℕ) → 16 ≤ data_offset g + s
data_far g s = by g.second
  where
    by : (b : Bool) → 16 ≤ data_offset_of b + s
    by true = omega arith
    by false = omega arith

no_chunk : (c n : ℕ) → false ≡ true → c < n
no_chunk c n e = cc

module _ (old : State) (g : roles.Ghost) (vs : Traced) (p : Place old.core (around old.core old.legs g vs)) (told : (j : ℕ) → j < (sizes old.core).legs → old.legs.told j ≡ true) where
  abbrev pub A : Around
  A = around old.core old.legs g vs

  abbrev Goal : Event → Outcome → Legs → Type 0
  Goal e o new = Ways (here old.core A) (here (after old.core e o) (next old g vs e o new))

  up_in : (n : ℕ) → is_up (old.core.state n) ≡ true → is_in (old.core.state n) ≡ true
  up_in n up = grind arith

  geometry : IsGeometry (sizes old.core)
  geometry = p.known.range.legs.sizes_fit

  -- a page that was put there
  page_there : (n q l : ℕ) (set : ℕ → Bool) (w : Part) (core : Core) (gh : roles.Ghost) (values : Traced) → n < nodes_of (sizes old.core) → q < pages_of (sizes old.core) → old.legs.told l ≡ true → ((c : ℕ) → set c ≡ true → c < chunks_of (sizes old.core))
      → Ways w (here core (record { super = A.super; bit = with_page A.bit n q l set; stored = A.stored; ghost = gh; values = values.values; broken = values.broken; since = values.since; moments = values.moments }))
      → Ways w (here core (around old.core (put old.legs l (page_sector (sizes old.core) n q) (page_sector_of old.core q set)) gh values))
  page_there n q l set w core gh values lt page tell fits xs =
      let at = page_sector (sizes old.core) n q in
      let v = page_sector_of old.core q set in
      standing_so w core (supers old.core.array (put old.legs l at v)) A.super (bits_on (sizes old.core) (put old.legs l at v)) (with_page A.bit n q l set) (data_on (sizes old.core) (put old.legs l at v)) A.stored gh values
      (others_stand old.core.array old.legs l at v (page_far (sizes old.core) n q))
      (bits_put old.core old.legs n q l set geometry lt page tell fits)
      (data_stays (sizes old.core) old.legs l at v (page_before (sizes old.core) n q lt (used_page_there (sizes old.core) q geometry page)))
      xs

  -- a data sector that was put there
  data_there : (l s : ℕ) (v : Sector) (w : Part) (core : Core) (gh : roles.Ghost) (values : Traced) → old.legs.told l ≡ true
      → Ways w (here core (record { super = A.super; bit = A.bit; stored = with_data A.stored l s v; ghost = gh; values = values.values; broken = values.broken; since = values.since; moments = values.moments }))
      → Ways w (here core (around old.core (put old.legs l (place_of old.core s) v) gh values))
  data_there l s v w core gh values tell xs =
      let at = place_of old.core s in
      standing_so w core (supers old.core.array (put old.legs l at v)) A.super (bits_on (sizes old.core) (put old.legs l at v)) A.bit (data_on (sizes old.core) (put old.legs l at v)) (with_data A.stored l s v) gh values
      (others_stand old.core.array old.legs l at v (data_far (sizes old.core) s))
      (bits_stay (sizes old.core) old.legs l at v geometry (inr (omega arith)))
      (data_put (sizes old.core) old.legs l s v tell)
      xs

  -- Pages of bitmaps.

  page_failed_ways : (n q l : ℕ) (lost : Bool) → PageTo (here old.core A) n q l → Ways (here old.core A) (here (after old.core (events.WritePage n q l) (lost_or_io old.core (writes_to n l (page_sector (sizes old.core) n q) (page_sector_of old.core q (old.core.bitmap n).set)))) (record A { bit = with_page_if lost A.bit n q l (old.core.bitmap n).set }))
  page_failed_ways n q l lost t =
      let s = sound_of old.core A p in
      failed_ways (here old.core A) old.core (events.WritePage n q l) (writes_to n l (page_sector (sizes old.core) n q) (page_sector_of old.core q (old.core.bitmap n).set)) (record A { bit = with_page_if lost A.bit n q l (old.core.bitmap n).set }) refl
      (one s (missed_page_way old.core A p n q l lost t))
      (page_sound (here old.core A) s n q l lost (old.core.bitmap n).set (s.within.set n) (up_node old.core A p n t.up))
      (up_in n t.up) still

  page_from : (n q l : ℕ) (t : PageTo (here old.core A) n q l) (o : Outcome) (new : Legs) → Puts old (events.WritePage n q l) (writes_to n l (page_sector (sizes old.core) n q) (page_sector_of old.core q (old.core.bitmap n).set)) (page_sector_of old.core q (old.core.bitmap n).set) o new → Goal (events.WritePage n q l) o new
  page_from n q l t o new (well is legs) =
      let s = sound_of old.core A p in
      moved old g vs (events.WritePage n q l) (here old.core A) o outcomes.Done new _ is legs
      (page_there n q l (old.core.bitmap n).set (here old.core A) (page_written old.core n q l) g vs (up_node old.core A p n t.up) t.page (told l t.leg) (s.within.set n)
      (one s (page_way old.core A p n q l t)))
  page_from n q l t o new (ill is legs) = moved old g vs (events.WritePage n q l) (here old.core A) o _ new old.legs is legs (page_failed_ways n q l false t)
  page_from n q l t o new (left is legs) =
      let s = sound_of old.core A p in
      let tr = writes_to n l (page_sector (sizes old.core) n q) (page_sector_of old.core q (old.core.bitmap n).set) in
      moved old g vs (events.WritePage n q l) (here old.core A) o (lost_or_io old.core tr) new _ is legs
      (page_there n q l (old.core.bitmap n).set (here old.core A) (after old.core (events.WritePage n q l) (lost_or_io old.core tr)) g vs (up_node old.core A p n t.up) t.page (told l t.leg) (s.within.set n)
      (page_failed_ways n q l true t))

  pub page_step : (n q l : ℕ) (o : Outcome) (new : Legs) → refusal old.core (events.WritePage n q l) ≡ None → Moves old (events.WritePage n q l) o new → Goal (events.WritePage n q l) o new
  page_step n q l o new ok m = page_from n q l (page_to old.core A p n q l ok) o new (puts_of old (events.WritePage n q l) _ (page_sector_of old.core q (old.core.bitmap n).set) o new refl refl m)

  -- Writes.

  abbrev out_to : ℕ → ℕ → LiveWrite → Transfer
  out_to n l x = writes_to n l (place_of old.core x.sector) x.value

  -- what the entries tell where the write is tried
  abbrev tried_out : ℕ → Option PlainWrite → Outcome → Traced
  tried_out n y o = record { values = λ s. with_start y s (vs.values s); broken = λ m s. tried_by n y o vs.broken m s; since = vs.since; moments = vs.moments }

  abbrev tried_at : ℕ → LiveWrite → Outcome → Traced
  tried_at n x o = tried_out n (plain_of (Some x)) o

  tried_so : (n k l : ℕ) (t : Tries old.core A p n k l) (o : Outcome) (w : Part) (core : Core) (around_of : Traced → Around) → Ways w (here core (around_of (tried_at n t.write o))) → Ways w (here core (around_of (traced (events.Out n k l) o (flying old.core.writes) vs)))
  tried_so n k l t o w core around_of xs = subst (λ (y : Option PlainWrite). Ways w (here core (around_of (tried_out n y o)))) (sym (ap plain_of t.found)) xs

  out_failed_ways : (n k l : ℕ) (lost : Bool) (t : Tries old.core A p n k l) → transfer_of old.core (events.Out n k l) ≡ Some (out_to n l t.write)
      → Ways (here old.core A) (here (after old.core (events.Out n k l) (lost_or_io old.core (out_to n l t.write)))
      (record { super = A.super; bit = A.bit; stored = with_data_if lost A.stored l t.write.sector t.write.value; ghost = g; values = (tried_at n t.write (lost_or_io old.core (out_to n l t.write))).values; broken = (tried_at n t.write (lost_or_io old.core (out_to n l t.write))).broken; since = vs.since; moments = vs.moments }))
  out_failed_ways n k l lost t at =
      let s = sound_of old.core A p in
      let a : Around = record A { stored = with_data_if lost A.stored l t.write.sector t.write.value; values = tried_values vs.values t.write } in
      failed_by (here old.core A) old.core (events.Out n k l) (out_to n l t.write) (λ o. record a { broken = (tried_at n t.write o).broken }) at
      (one s (missed_way old.core A p n k l t lost))
      (try_sound (here old.core A) n k l t.write a.stored a.values s t.trying)
      (up_in n t.trying.up)
      (broken_from (start_write old.core n k) a n k (started t.write) t.trying.up (tried_found old.core A p n k l t) t.trying.sector)

  out_from : (n k l : ℕ) (t : Tries old.core A p n k l) (o : Outcome) (new : Legs) → transfer_of old.core (events.Out n k l) ≡ Some (out_to n l t.write) → Puts old (events.Out n k l) (out_to n l t.write) t.write.value o new → Goal (events.Out n k l) o new
  out_from n k l t o new at (well is legs) =
      moved old g vs (events.Out n k l) (here old.core A) o outcomes.Done new _ is legs
      (tried_so n k l t outcomes.Done (here old.core A) (out_done old.core n k l) (around old.core (put old.legs l (place_of old.core t.write.sector) t.write.value) g)
      (data_there l t.write.sector t.write.value (here old.core A) (out_done old.core n k l) g (tried_at n t.write outcomes.Done) (told l t.trying.leg)
      (one (sound_of old.core A p) (out_way old.core A p n k l t))))
  out_from n k l t o new at (ill is legs) =
      moved old g vs (events.Out n k l) (here old.core A) o (lost_or_io old.core (out_to n l t.write)) new old.legs is legs
      (tried_so n k l t (lost_or_io old.core (out_to n l t.write)) (here old.core A) (after old.core (events.Out n k l) (lost_or_io old.core (out_to n l t.write))) (around old.core old.legs g)
      (out_failed_ways n k l false t at))
  out_from n k l t o new at (left is legs) =
      moved old g vs (events.Out n k l) (here old.core A) o (lost_or_io old.core (out_to n l t.write)) new _ is legs
      (tried_so n k l t (lost_or_io old.core (out_to n l t.write)) (here old.core A) (after old.core (events.Out n k l) (lost_or_io old.core (out_to n l t.write))) (around old.core (put old.legs l (place_of old.core t.write.sector) t.write.value) g)
      (data_there l t.write.sector t.write.value (here old.core A) (after old.core (events.Out n k l) (lost_or_io old.core (out_to n l t.write))) g (tried_at n t.write (lost_or_io old.core (out_to n l t.write))) (told l t.trying.leg)
      (out_failed_ways n k l true t at)))

  pub out_step : (n k l : ℕ) (o : Outcome) (new : Legs) → refusal old.core (events.Out n k l) ≡ None → Moves old (events.Out n k l) o new → Goal (events.Out n k l) o new
  out_step n k l o new ok m =
      let t = tries old.core A p n k l ok in
      let at = ap (out_transfer old.core n l) t.found in
      out_from n k l t o new at (puts_of old (events.Out n k l) (out_to n l t.write) t.write.value o new at refl m)

  -- Copies.

  abbrev copy_to : ℕ → ℕ → Buffer → Transfer
  copy_to n l b = writes_to n l (place_of old.core b.sector) b.value

  copy_failed_ways : (n l : ℕ) (lost : Bool) (c : Copied old.core A p n l) → transfer_of old.core (events.CopyOut n l) ≡ Some (copy_to n l c.it.buffer)
      → Ways (here old.core A) (here (after old.core (events.CopyOut n l) (lost_or_io old.core (copy_to n l c.it.buffer))) (record A { stored = with_data_if lost A.stored l c.it.buffer.sector c.it.buffer.value }))
  copy_failed_ways n l lost c at =
      let s = sound_of old.core A p in
      let a : Around = record A { stored = with_data_if lost A.stored l c.it.buffer.sector c.it.buffer.value } in
      failed_ways (here old.core A) old.core (events.CopyOut n l) (copy_to n l c.it.buffer) a at
      (one s (missed_copy_way old.core A p n l c lost))
      (copy_sound (here old.core A) a.stored s)
      (up_in n c.copies.buffers.up) still

  copy_from : (n l : ℕ) (c : Copied old.core A p n l) (o : Outcome) (new : Legs) → transfer_of old.core (events.CopyOut n l) ≡ Some (copy_to n l c.it.buffer) → Puts old (events.CopyOut n l) (copy_to n l c.it.buffer) c.it.buffer.value o new → Goal (events.CopyOut n l) o new
  copy_from n l c o new at (well is legs) =
      moved old g vs (events.CopyOut n l) (here old.core A) o outcomes.Done new _ is legs
      (data_there l c.it.buffer.sector c.it.buffer.value (here old.core A) (copied_out old.core n l) g vs (told l c.copies.leg)
      (one (sound_of old.core A p) (copy_way old.core A p n l c)))
  copy_from n l c o new at (ill is legs) = moved old g vs (events.CopyOut n l) (here old.core A) o _ new old.legs is legs (copy_failed_ways n l false c at)
  copy_from n l c o new at (left is legs) =
      moved old g vs (events.CopyOut n l) (here old.core A) o (lost_or_io old.core (copy_to n l c.it.buffer)) new _ is legs
      (data_there l c.it.buffer.sector c.it.buffer.value (here old.core A) (after old.core (events.CopyOut n l) (lost_or_io old.core (copy_to n l c.it.buffer))) g vs (told l c.copies.leg)
      (copy_failed_ways n l true c at))

  pub copy_step : (n l : ℕ) (o : Outcome) (new : Legs) → refusal old.core (events.CopyOut n l) ≡ None → Moves old (events.CopyOut n l) o new → Goal (events.CopyOut n l) o new
  copy_step n l o new ok m =
      let c = to_copy old.core A p n l ok in
      let at = ap (copy_out_transfer old.core n l) c.it.of in
      copy_from n l c o new at (puts_of old (events.CopyOut n l) (copy_to n l c.it.buffer) c.it.buffer.value o new at refl m)

  -- Pages of a slot that is recovered.

  abbrev clear_to : ℕ → ℕ → ℕ → Recovering → Transfer
  clear_to n q l r = writes_to n l (page_sector (sizes old.core) r.slot q) (page_sector_of old.core q (λ c. false))

  slot_failed_ways : (n q l : ℕ) (lost : Bool) (r : PageCleared old.core A p n q l) → transfer_of old.core (events.SlotOut n q l) ≡ Some (clear_to n q l r.recovering)
      → Ways (here old.core A) (here (after old.core (events.SlotOut n q l) (lost_or_io old.core (clear_to n q l r.recovering))) (record A { bit = with_page_if lost A.bit r.recovering.slot q l (λ c. false) }))
  slot_failed_ways n q l lost r at =
      let s = sound_of old.core A p in
      let a : Around = record A { bit = with_page_if lost A.bit r.recovering.slot q l (λ c. false) } in
      failed_ways (here old.core A) old.core (events.SlotOut n q l) (clear_to n q l r.recovering) a at
      (one s (missed_slot_way old.core A p n q l r lost))
      (subst (λ x. Sound (here (slot_failed old.core q l x) a)) (sym r.is) (page_sound (here old.core A) s r.recovering.slot q l lost (λ c. false) (λ c e. no_chunk c (chunks_of (sizes old.core)) e) r.slot))
      (subst (λ x. is_in ((slot_failed old.core q l x).state n) ≡ true) (sym r.is) (up_in n r.clears.all.opened.up))
      still

  slot_from : (n q l : ℕ) (r : PageCleared old.core A p n q l) (o : Outcome) (new : Legs) → transfer_of old.core (events.SlotOut n q l) ≡ Some (clear_to n q l r.recovering) → Puts old (events.SlotOut n q l) (clear_to n q l r.recovering) (page_sector_of old.core q (λ c. false)) o new → Goal (events.SlotOut n q l) o new
  slot_from n q l r o new at (well is legs) =
      moved old g vs (events.SlotOut n q l) (here old.core A) o outcomes.Done new _ is legs
      (page_there r.recovering.slot q l (λ c. false) (here old.core A) (after old.core (events.SlotOut n q l) outcomes.Done) g vs r.slot r.clears.page (told l r.clears.leg) (λ c e. no_chunk c (chunks_of (sizes old.core)) e)
      (one (sound_of old.core A p) (slot_out_way old.core A p n q l r)))
  slot_from n q l r o new at (ill is legs) = moved old g vs (events.SlotOut n q l) (here old.core A) o _ new old.legs is legs (slot_failed_ways n q l false r at)
  slot_from n q l r o new at (left is legs) =
      moved old g vs (events.SlotOut n q l) (here old.core A) o (lost_or_io old.core (clear_to n q l r.recovering)) new _ is legs
      (page_there r.recovering.slot q l (λ c. false) (here old.core A) (after old.core (events.SlotOut n q l) (lost_or_io old.core (clear_to n q l r.recovering))) g vs r.slot r.clears.page (told l r.clears.leg) (λ c e. no_chunk c (chunks_of (sizes old.core)) e)
      (slot_failed_ways n q l true r at))

  pub slot_step : (n q l : ℕ) (o : Outcome) (new : Legs) → refusal old.core (events.SlotOut n q l) ≡ None → Moves old (events.SlotOut n q l) o new → Goal (events.SlotOut n q l) o new
  slot_step n q l o new ok m =
      let r = page_cleared_so old.core A p n q l ok in
      let at = ap (slot_out_transfer old.core n q l) r.is in
      slot_from n q l r o new at (puts_of old (events.SlotOut n q l) (clear_to n q l r.recovering) (page_sector_of old.core q (λ c. false)) o new at refl m)
