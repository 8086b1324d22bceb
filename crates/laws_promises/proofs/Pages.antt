-- The pages of slots on the legs stay in their grammar: whatever is written there spells a set.
use Rattle.std.proofs.Common.{◌≡◌, ◌⊎◌, inl, inr, ℕ, ◌+◌, ◌-◌, ◌*◌, ◌/◌, ◌%◌, ◌<◌, ◌≤◌, ◌==◌, ◌&&◌, Bool, true, false, if◌then◌else◌, List, [], ◌∷◌, get_or, map, Option, Some, None, refl, sym, ap, subst, ◌∙◌, arith, nat_lt, nat_le}
use Rattle.std.specs.List.{range_with_len}
use Rattle.std.specs.Prelude.{option_map}
use Rattle.std.proofs.Math.Path.{fun_ext}
use Rattle.std.proofs.lemmas.Bool.Decides.{nat_tests}
use Rattle.std.proofs.lemmas.Bool.{ltb-true}
use Rattle.std.proofs.lemmas.List.FromFn.{get_or-map-range_with_len, length-map-range_with_len}
use Rattle.mdc_types.specs.Geometry.{Sizes, IsGeometry, chunks_of, data_offset, length_of, nodes_of, page_sector, pages_of, slot_pages}
use Rattle.mdc_types.specs.Sectors.{zero_sector}
use Rattle.mdc_types.specs.declared.events.Event.{Event}
use Rattle.mdc_types.specs.declared.events.Event.TheVariants as events
use Rattle.mdc_types.specs.declared.numbers.Sector.{Sector}
use Rattle.mdc_types.specs.declared.outcomes.Outcome.{Outcome}
use Rattle.mdc_types.specs.declared.refusals.Refusal.TheVariants.{NoPage}
use Rattle.md_superblock.specs.Arrays.{Array, AreBytes, spelled, super_for}
use Rattle.mirror_io.specs.declared.live.LiveRead.{LiveRead}
use Rattle.mirror_io.specs.declared.live.LiveWrite.{LiveWrite}
use Rattle.node_recovery.specs.Progress.{Recovering}
use Rattle.resync_worker.specs.declared.buffer.Buffer.{Buffer}
use Rattle.slot_pages.specs.Slot.{bits_below, byte_of_page, chunk_of_bit, header_byte, is_set, page_has, spelled_page}
use Rattle.slot_pages.proofs.GrammarLaws.{spelled_is_faultless}
use Rattle.slot_pages.proofs.Spelled.{spells_its_bits, spells_the_set}
use Rattle.cluster_model.specs.State.{Core, Legs, State, Offer, sizes, place_of}
use Rattle.cluster_model.specs.Bits.{bit_guards, page_sector_of}
use Rattle.cluster_model.specs.Contents.{IsHeader, IsImages, header_sector, slot_sector}
use Rattle.cluster_model.specs.Copying.{buffer_of, next_sector}
use Rattle.cluster_model.specs.Gathering.{due_page}
use Rattle.cluster_model.specs.Guards.{no_page}
use Rattle.cluster_model.specs.Opening.{Origin, array_of, opening_set, says_of}
use Rattle.cluster_model.specs.Reads.{read_leg}
use Rattle.cluster_model.specs.Recovering.{slotout_guards}
use Rattle.cluster_model.specs.Run.{Moves, Quiet, Written, Read, Failed, Left, put}
use Rattle.cluster_model.specs.Table.{refusal}
use Rattle.cluster_model.specs.Transfers.{Transfer, transfer_of, reads_from, reads_at, writes_to, in_transfer, gather_transfer, copy_in_transfer}
use Rattle.leg_failure.specs.Views.{working_leg}
use Rattle.mirror_io.specs.Flight.{read_in, write_in}
use Rattle.laws_sound.proofs.Guarded.{all_none, unless_none}
use Rattle.laws_roles.specs.Laws.{Tells}
use Rattle.laws_roles.proofs.Runs.{array_is}
use Rattle.storage_ways.proofs.Standing.{page_before, used_page_there}
use Rattle.laws_promises.specs.Legs.{PagesRead, RunsKeepPages}

-- A page that spells a set spells its own bits.

same_set : (g : Sizes) (uuid : List ℕ) (p : ℕ) (a b : ℕ → Bool) → ((c : ℕ) → is_set g a c ≡ is_set g b c) → spelled_page g uuid p a ≡ spelled_page g uuid p b
unfolding spelled_page
same_set g uuid p a b same = ap (λ f. map f (range_with_len 0 512)) (fun_ext (byte a b (fun_ext same)))
  where
    byte : (a b : ℕ → Bool) → is_set g a ≡ is_set g b → (i : ℕ) → byte_of_page g uuid p a i ≡ byte_of_page g uuid p b i
    byte a b e i = ap (λ (t : ℕ → Bool). if (p == 0) && nat_lt i 256 then header_byte g uuid i else bits_below (λ k. t (chunk_of_bit p i k)) 8) e

abbrev listed : Sizes → (ℕ → Bool) → List Bool
listed g set = map set (range_with_len 0 (chunks_of g))

listed_set : (g : Sizes) (set : ℕ → Bool) (c : ℕ) → is_set g set c ≡ is_set g (λ d. get_or (listed g set) d false) c
listed_set g set c = by (nat_lt c (chunks_of g)) refl
  where
    by : (b : Bool) → nat_lt c (chunks_of g) ≡ b → (b && set c) ≡ (b && get_or (listed g set) c false)
    by true e = sym (get_or-map-range_with_len set 0 (chunks_of g) c c false (ltb-true c (chunks_of g) e) (omega arith))
    by false e = refl

spelled_again : (g : Sizes) (uuid : List ℕ) (p : ℕ) (set : ℕ → Bool) → AreBytes 16 uuid
    → spelled_page g uuid p set ≡ spelled_page g uuid p (page_has g p (spelled_page g uuid p set))
spelled_again g uuid p set bytes =
    let list = listed g set in
    let page = spelled_page g uuid p (λ c. get_or list c false) in
    let is = spells_the_set g uuid p list (record { bytes = bytes.size; fit = bytes.each }) (length-map-range_with_len set 0 (chunks_of g)) in
    let reads = spells_its_bits g uuid p page is.0 (spelled_is_faultless g uuid p list page is.1) in
    subst (λ (x : List ℕ). x ≡ spelled_page g uuid p (page_has g p x)) (sym (same_set g uuid p set (λ c. get_or list c false) (listed_set g set))) reads

-- What an accepted event writes.

data WritesSo (g : Sizes) (uuid : List ℕ) (at : ℕ) (v : Sector) : Type 0 where
  off_pages : (at < 16) ⊎ (data_offset g ≤ at) → WritesSo g uuid at v
  on_page : (n p : ℕ) (set : ℕ → Bool) → p < slot_pages g → at ≡ page_sector g n p → v.bytes ≡ spelled_page g uuid p set → WritesSo g uuid at v

module _ (g : Sizes) (uuid : List ℕ) where
  abbrev So : Transfer → Type 0
  So t = (v : Sector) → t.value ≡ Some v → WritesSo g uuid t.place v

  is_so : (s t : Transfer) → So s → Some s ≡ Some t → So t
  is_so s t so e = let same : s ≡ t = cc in subst So same so

  mapped_so : {A : Type 0} (f : A → Transfer) (x : Option A) (t : Transfer) → ((a : A) → x ≡ Some a → So (f a)) → option_map f x ≡ Some t → So t
  mapped_so f None t so e = cc
  mapped_so f (Some a) t so e = is_so (f a) t (so a refl) e

  reads_so : (n l at : ℕ) → So (reads_from n l at)
  reads_so n l at v e = cc

  found_so : (n at : ℕ) (x : Option ℕ) (t : Transfer) → reads_at n at x ≡ Some t → So t
  found_so n at x t e = mapped_so (λ l. reads_from n l at) x t (λ l is. reads_so n l at) e

  writes_so : (n l at : ℕ) (v : Sector) → WritesSo g uuid at v → So (writes_to n l at v)
  writes_so n l at v so u e = let same : v ≡ u = cc in subst (WritesSo g uuid at) same so

module _ (core : Core) where
  abbrev CoreSo : Transfer → Type 0
  CoreSo t = So (sizes core) core.array.uuid t

  in_so : (n k : ℕ) (x : Option LiveRead) (t : Transfer) → in_transfer core n x ≡ Some t → CoreSo t
  in_so n k None t e = cc
  in_so n k (Some r) t e = found_so (sizes core) core.array.uuid n (place_of core r.sector) (read_leg core n r) t e

  gather_so : (n : ℕ) (x : Option (ℕ × ℕ)) (t : Transfer) → gather_transfer core n x ≡ Some t → CoreSo t
  gather_so n None t e = cc
  gather_so n (Some due) t e = found_so (sizes core) core.array.uuid n (page_sector (sizes core) due.0 due.1) (working_leg (core.view n)) t e

  copy_so : (n : ℕ) (x : Option ℕ) (t : Transfer) → copy_in_transfer core n x ≡ Some t → CoreSo t
  copy_so n None t e = cc
  copy_so n (Some s) t e = found_so (sizes core) core.array.uuid n (place_of core s) (working_leg (core.view n)) t e

  data_so : (n l s : ℕ) (v : Sector) → CoreSo (writes_to n l (place_of core s) v)
  data_so n l s v = writes_so (sizes core) core.array.uuid n l (place_of core s) v (off_pages (inr (omega arith)))

  page_so : (n l m p : ℕ) (set : ℕ → Bool) → IsGeometry (sizes core) → no_page core p ≡ None → CoreSo (writes_to n l (page_sector (sizes core) m p) (page_sector_of core p set))
  page_so n l m p set i e =
      let lt = ltb-true p (pages_of (sizes core)) (unless_none _ (NoPage p) e) in
      writes_so (sizes core) core.array.uuid n l (page_sector (sizes core) m p) (page_sector_of core p set) (on_page m p set (used_page_there (sizes core) p i lt) refl refl)

  transfer_so : (e : Event) (t : Transfer) → IsGeometry (sizes core) → refusal core e ≡ None → transfer_of core e ≡ Some t → CoreSo t
  transfer_so (events.Load n l) t i ok is = is_so (sizes core) core.array.uuid (reads_from n l 8) t (reads_so (sizes core) core.array.uuid n l 8) is
  transfer_so (events.WriteSuper n l) t i ok is =
      mapped_so (sizes core) core.array.uuid _ (core.offer n) t (λ (o : Offer) found. writes_so (sizes core) core.array.uuid n l 8 _ (off_pages (inl (omega arith)))) is
  transfer_so (events.WritePage n p l) t i ok is =
      let a = all_none (bit_guards core n p l) ok in
      is_so (sizes core) core.array.uuid _ t (page_so n l n p (core.bitmap n).set i a.1.1.1.1.1.0) is
  transfer_so (events.Out n k l) t i ok is =
      mapped_so (sizes core) core.array.uuid _ (write_in k (core.writes n)) t (λ (w : LiveWrite) found. data_so n l w.sector w.value) is
  transfer_so (events.In n k) t i ok is = in_so n k (read_in k (core.reads n)) t is
  transfer_so (events.Gather n) t i ok is = gather_so n (due_page core n) t is
  transfer_so (events.CopyIn n) t i ok is = copy_so n (next_sector core n) t is
  transfer_so (events.CopyOut n l) t i ok is =
      mapped_so (sizes core) core.array.uuid _ (buffer_of core n) t (λ (b : Buffer) found. data_so n l b.sector b.value) is
  transfer_so (events.SlotIn n p l) t i ok is =
      mapped_so (sizes core) core.array.uuid _ (core.recovery n) t (λ (r : Recovering) found. reads_so (sizes core) core.array.uuid n l (page_sector (sizes core) r.slot p)) is
  transfer_so (events.SlotOut n p l) t i ok is =
      let a = (all_none (slotout_guards core n p l) ok).1.1.1 in
      mapped_so (sizes core) core.array.uuid _ (core.recovery n) t (λ (r : Recovering) found. page_so n l r.slot p (λ c. false) i a.1.1.1.0) is
  transfer_so e t i ok is = cc

-- What a write leaves.

module _ (g : Sizes) (uuid : List ℕ) (bytes : AreBytes 16 uuid) where
  abbrev Reads : ℕ → Sector → Type 0
  Reads p v = v.bytes ≡ spelled_page g uuid p (page_has g p v.bytes)

  same_page : (second : Bool) (n m p q : ℕ) → p < (if second then 16 else 8) → q < (if second then 16 else 8) → 16 + (if second then 16 else 8) * n + p ≡ 16 + (if second then 16 else 8) * m + q → q ≡ p
  same_page true n m p q lt le e = omega (arith, lt, le, e)
  same_page false n m p q lt le e = omega (arith, lt, le, e)

  past_super : (a b : ℕ) → 16 ≤ 16 + a + b
  past_super a b = omega arith

  page_written : (n p : ℕ) (v : Sector) → n < nodes_of g → p < slot_pages g → WritesSo g uuid (page_sector g n p) v → Reads p v
  page_written n p v node page (off_pages (inl lt)) = let far = past_super (slot_pages g * n) p in absurd (omega (arith, lt, far))
  page_written n p v node page (off_pages (inr le)) = let near = page_before g n p node page in absurd (omega (arith, le, near))
  page_written n p v node page (on_page m q set lt same is) =
      let page_is : q ≡ p = same_page g.second n m p q page lt same in
      let v_is : v.bytes ≡ spelled_page g uuid p set = is ∙ ap (λ k. spelled_page g uuid k set) page_is in
      subst (λ (x : List ℕ). x ≡ spelled_page g uuid p (page_has g p x)) (sym v_is) (spelled_again g uuid p set bytes)

  put_keeps : (legs : Legs) (l at : ℕ) (v : Sector) → WritesSo g uuid at v → PagesRead g uuid legs → PagesRead g uuid (put legs l at v)
  put_keeps legs l at v so old j n p leg node page = by ((j == l) && (page_sector g n p == at) && legs.told l) refl
    where
      by : (b : Bool) → ((j == l) && (page_sector g n p == at) && legs.told l) ≡ b → Reads p (if b then v else legs.content j (page_sector g n p))
      by true e =
          let same : at ≡ page_sector g n p = grind (arith, nat_tests) in
          page_written n p v node page (subst (λ x. WritesSo g uuid x v) same so)
      by false e = old j n p leg node page

  move_keeps : (old : State) (e : Event) (o : Outcome) (new : Legs) → ((t : Transfer) → transfer_of old.core e ≡ Some t → So g uuid t) → Moves old e o new → PagesRead g uuid old.legs → PagesRead g uuid new
  move_keeps old e o new so (Quiet none is legs) pages = subst (PagesRead g uuid) (sym legs) pages
  move_keeps old e o new so (Written t v at value path done legs) pages = subst (PagesRead g uuid) (sym legs) (put_keeps old.legs t.leg t.place v (so t at v value) pages)
  move_keeps old e o new so (Read t v at value path gives is legs) pages = subst (PagesRead g uuid) (sym legs) pages
  move_keeps old e o new so (Failed t at is legs) pages = subst (PagesRead g uuid) (sym legs) pages
  move_keeps old e o new so (Left t v at value path is legs) pages = subst (PagesRead g uuid) (sym legs) (put_keeps old.legs t.leg t.place v (so t at v value) pages)

-- Openings.

header_page : (o : Origin) (l n p : ℕ) (bytes : AreBytes 16 o.uuid) → n < nodes_of o.sizes → p < slot_pages o.sizes → Reads o.sizes o.uuid bytes p (header_sector o l (page_sector o.sizes n p))
header_page o l n p bytes node page =
    let at = page_sector o.sizes n p in
    by (at == 8) (nat_le 16 at) (nat_lt at (data_offset o.sizes)) (not_eight at far) (le_true 16 at far) (lt_true at (data_offset o.sizes) (page_before o.sizes n p node page))
  where
    far : 16 ≤ page_sector o.sizes n p
    far = past_super o.sizes o.uuid bytes (slot_pages o.sizes * n) p

    not_eight : (at : ℕ) → 16 ≤ at → (at == 8) ≡ false
    not_eight at le = grind (arith, nat_tests)

    le_true : (a b : ℕ) → a ≤ b → nat_le a b ≡ true
    le_true a b le = grind (arith, nat_tests)

    lt_true : (a b : ℕ) → a < b → nat_lt a b ≡ true
    lt_true a b lt = grind (arith, nat_tests)

    rest : (second : Bool) (n p : ℕ) → p < (if second then 16 else 8) → ((16 + (if second then 16 else 8) * n + p - 16) % (if second then 16 else 8)) ≡ p
    rest true n p lt = omega arith
    rest false n p lt = omega arith

    slot : Reads o.sizes o.uuid bytes p (slot_sector o (page_sector o.sizes n p))
    slot =
        let at = page_sector o.sizes n p in
        let set = opening_set o ((at - 16) / slot_pages o.sizes) in
        let is : spelled_page o.sizes o.uuid ((at - 16) % slot_pages o.sizes) set ≡ spelled_page o.sizes o.uuid p set = ap (λ k. spelled_page o.sizes o.uuid k set) (rest o.sizes.second n p page) in
        subst (λ (x : List ℕ). x ≡ spelled_page o.sizes o.uuid p (page_has o.sizes p x)) (sym is) (spelled_again o.sizes o.uuid p set bytes)

    by : (a b c : Bool) → a ≡ false → b ≡ true → c ≡ true → Reads o.sizes o.uuid bytes p (if a then record { bytes = spelled (super_for (array_of o) l (says_of o)) } else if b && c then slot_sector o (page_sector o.sizes n p) else zero_sector)
    by true b c e f g = cc
    by false true true e f g = slot
    by false true false e f g = cc
    by false false c e f g = cc

opening_pages : (o : Origin) (start : State) → Tells o start → IsHeader o start.legs ⊎ IsImages o start.legs → PagesRead o.sizes o.uuid start.legs
opening_pages o start tells (inl header) l n p leg node page =
    let near = page_before o.sizes n p node page in
    let below : page_sector o.sizes n p < length_of o.sizes = omega (arith, near) in
    subst (λ (v : Sector). Reads o.sizes o.uuid tells.uuid p v) (sym (header.contents l (page_sector o.sizes n p) leg below (tells.legs l leg)))
    (header_page o l n p tells.uuid node page)
opening_pages o start tells (inr images) l n p leg node page = (images.contents tells.legs).pages l n p leg node page

-- Runs.

pub runs_keep_pages : RunsKeepPages
runs_keep_pages o start end [] opens tells run = subst (λ (s : State). PagesRead o.sizes o.uuid s.legs) (sym run) (opening_pages o start tells opens.contents)
runs_keep_pages o start end (x ∷ past) opens tells run =
    let old = run.0 in
    let array = array_is o start old past opens run.1 in
    move_keeps o.sizes o.uuid tells.uuid old x.event x.outcome end.legs (so_here old array run.2.accepted) run.2.moves
    (runs_keep_pages o start old past opens tells run.1)
  where
    so_here : (old : State) → old.core.array ≡ array_of o → refusal old.core x.event ≡ None → (t : Transfer) → transfer_of old.core x.event ≡ Some t → So o.sizes o.uuid t
    so_here old array ok t is =
        subst (λ (a : Array). So a.sizes a.uuid t) array
        (transfer_so old.core x.event t (subst (λ (a : Array). IsGeometry a.sizes) (sym array) opens.origin.sizes) ok is)
