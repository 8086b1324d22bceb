-- A recovery that cleans a page has found its chunks, and marks them on each good leg.
use Rattle.std.proofs.Common.{◌≡◌, ℕ, ◌<◌, ◌==◌, ◌&&◌, Bool, true, false, if◌then◌else◌, List, ◌∷◌, Option, Some, None, refl, sym, ap, subst, ◌∙◌, arith}
use Rattle.std.proofs.lemmas.Bool.Decides.{nat_tests}
use Rattle.dlm_modes.specs.Points.{with_at}
use Rattle.mdc_types.specs.declared.events.Event.{Event}
use Rattle.mdc_types.specs.declared.events.Event.TheVariants as events
use Rattle.mdc_types.specs.declared.outcomes.Entry.{Entry}
use Rattle.mdc_types.specs.declared.outcomes.Outcome.{Outcome}
use Rattle.mdc_types.specs.declared.outcomes.Outcome.TheVariants as outcomes
use Rattle.mdc_types.specs.declared.roles.NodeState.{NodeState}
use Rattle.mdc_types.specs.declared.roles.NodeState.TheVariants as states
use Rattle.md_superblock.specs.Arrays.{Array}
use Rattle.msg_rounds.specs.declared.phases.SenderPhase.{SenderPhase}
use Rattle.msg_rounds.specs.declared.phases.SenderPhase.TheVariants as senders
use Rattle.node_bitmaps.specs.Bitmap.{Bitmap, written, failed}
use Rattle.node_recovery.specs.Progress.{Recovering, with_cleared}
use Rattle.cluster_model.specs.After.{after, after_loss, after_miss}
use Rattle.cluster_model.specs.Changes.{voided}
use Rattle.cluster_model.specs.Contents.{SoundOpening}
use Rattle.cluster_model.specs.Failures.{slot_failed, tried, request_failed}
use Rattle.cluster_model.specs.Opening.{Origin}
use Rattle.cluster_model.specs.Phases.{is_up}
use Rattle.cluster_model.specs.Recovered.{slot_in, found_in}
use Rattle.cluster_model.specs.Recovering.{page_cleared, slot_cleared}
use Rattle.cluster_model.specs.Run.{Run, Step, entry}
use Rattle.cluster_model.specs.State.{State, Core, sizes}
use Rattle.cluster_model.specs.Transfers.{Transfer, transfer_of}
use Rattle.laws_roles.specs.Laws.{Tells}
use Rattle.laws_roles.proofs.Runs.{array_is}
use Rattle.storage_ways.proofs.Parts.{Part, chunk_in, recovers, found_in as part_found}
use Rattle.storage_ways.proofs.Place.{Around, Place}
use Rattle.storage_ways.proofs.RecoveryRows.{PageCleared, page_cleared_so}
use Rattle.storage_ways.proofs.Roled.{good_target}
use Rattle.storage_ways.proofs.Runs.{around_at, At, place, sound}
use Rattle.laws_writes.proofs.Ghosts.{Ghost}
use Rattle.laws_writes.proofs.Settled.{Since}
use Rattle.laws_recovery.proofs.Ghosts.{Hold}
use Rattle.laws_pending.specs.Heirs.{is_slot, takes}
use Rattle.laws_pending.proofs.Found.{heir_there, same_slot}
use Rattle.laws_pending.proofs.Ghosts.{Pend}
use Rattle.laws_pending.proofs.Heritage.{Held}
use Rattle.laws_pending.proofs.KeptRecoveries.{lost_kept, io_kept, missed_kept}
use Rattle.laws_pending.proofs.Known.{Known}
use Rattle.laws_pending.proofs.MovedSteps.{fresh}
use Rattle.laws_pending.proofs.Points.{same_point, clash}
use Rattle.laws_pending.proofs.Runs.{All, known_of}
use Rattle.laws_pending.proofs.Tracing.{traced_run}

both : (a b : Bool) → (a && b) ≡ true → (a ≡ true) × (b ≡ true)
both a b e = grind arith

slot_is : (d : ℕ) (x : Option ℕ) → is_slot d x ≡ true → x ≡ Some d
slot_is d None e = cc
slot_is d (Some k) e = ap Some (same_point k d e)

some_same : (a b : ℕ) → Some a ≡ Some b → a ≡ b
some_same a b e = cc

-- What the event leaves.

-- the recovery is open, of the slot
record Still (core : Core) (n d : ℕ) : Type 0 where
  recovering : Recovering
  is : core.recovery n ≡ Some recovering
  slot : recovering.slot ≡ d

still_cleared : (core : Core) (n q l : ℕ) (x : Option Recovering) (r : Recovering) → x ≡ Some r → Still (page_cleared core n x q l) n r.slot
still_cleared core n q l None r e = cc
still_cleared core n q l (Some y) r e =
    let same : y ≡ r = cc in
    record { recovering = with_cleared y q l; is = ap (λ b. if b then Some (with_cleared y q l) else core.recovery n) here; slot = ap (λ (z : Recovering). z.slot) same }
  where
    here : (n == n) ≡ true
    here = grind (arith, nat_tests)

still_kept : (core new : Core) (n : ℕ) (r : Recovering) → core.recovery n ≡ Some r → new.recovery ≡ core.recovery → Still new n r.slot
still_kept core new n r is same = record { recovering = r; is = ap (λ f. f n) same ∙ is; slot = refl }

still_open : (core : Core) (n q l : ℕ) (r : Recovering) → core.recovery n ≡ Some r → (o : Outcome) → Still (after core (events.SlotOut n q l) o) n r.slot
still_open core n q l r is (outcomes.Lost j) = still_kept core _ n r is (lost_kept core (events.SlotOut n q l))
still_open core n q l r is (outcomes.Io j) = still_kept core _ n r is (io_kept core (events.SlotOut n q l))
still_open core n q l r is (outcomes.Unreached j) = still_kept core _ n r is (missed_kept core (events.SlotOut n q l))
still_open core n q l r is o = still_cleared core n q l (core.recovery n) r is

-- the node's own bitmap stays
void_map : (core : Core) (n : ℕ) (s : SenderPhase) → (voided core n s).bitmap ≡ core.bitmap
void_map core n senders.Offered = refl
void_map core n s = refl

loss_map : (core : Core) (t : Option Transfer) → (after_loss core t).bitmap ≡ core.bitmap
loss_map core None = refl
loss_map core (Some t) = void_map core t.node (core.sender t.node)

miss_map : (core : Core) (t : Option Transfer) → (after_miss core t).bitmap ≡ core.bitmap
miss_map core None = refl
miss_map core (Some t) = void_map core t.node (core.sender t.node)

other_map : (f : ℕ → Bitmap) (k n : ℕ) (v : Bitmap) → (n == k) ≡ false → with_at f k v n ≡ f n
other_map f k n v apart = ap (λ b. if b then v else f n) apart

cleared_map : (core : Core) (n q l : ℕ) (x : Option Recovering) → ((r : Recovering) → x ≡ Some r → (n == r.slot) ≡ false) → (page_cleared core n x q l).bitmap n ≡ core.bitmap n
cleared_map core n q l None apart = refl
cleared_map core n q l (Some r) apart = other_map core.bitmap r.slot n (written (core.bitmap r.slot) q l) (apart r refl)

failed_map : (core : Core) (n q l : ℕ) (x : Option Recovering) → ((r : Recovering) → x ≡ Some r → (n == r.slot) ≡ false) → (slot_failed core q l x).bitmap n ≡ core.bitmap n
failed_map core n q l None apart = refl
failed_map core n q l (Some r) apart = other_map core.bitmap r.slot n (failed (core.bitmap r.slot) q l) (apart r refl)

map_kept : (core : Core) (n q l : ℕ) → ((r : Recovering) → core.recovery n ≡ Some r → (n == r.slot) ≡ false) → (o : Outcome) → (after core (events.SlotOut n q l) o).bitmap n ≡ core.bitmap n
map_kept core n q l apart (outcomes.Lost j) = ap (λ f. f n) (loss_map (tried core (events.SlotOut n q l)) (transfer_of core (events.SlotOut n q l))) ∙ failed_map core n q l (core.recovery n) apart
map_kept core n q l apart (outcomes.Io j) = failed_map core n q l (core.recovery n) apart
map_kept core n q l apart (outcomes.Unreached j) = ap (λ f. f n) (miss_map core (transfer_of core (events.SlotOut n q l)))
map_kept core n q l apart o = cleared_map core n q l (core.recovery n) apart

turned : (a b : ℕ) → (a == b) ≡ false → (b == a) ≡ false
turned a b e = grind (arith, nat_tests)

module _ (o : Origin) (start : State) (opening : SoundOpening o start) (tells : Tells o start) (past : List Entry) (mid end : State) (run : Run start past mid) (out : Outcome) where
  abbrev W : Part
  W = At o start opening.opens tells past mid

  abbrev V : Event → Part
  V e = At o start opening.opens tells (entry e out ∷ past) end

  module _ (d c n q l : ℕ) (s : Step mid (events.SlotOut n q l) out end) (g : Ghost) (h : Hold) (z : Since) (p : Pend) (a : All (V (events.SlotOut n q l)) g h z p)
      (slot : slot_in n past ≡ Some d) (found : found_in o.sizes n past c ≡ true) (pend : end.core.members.pending d ≡ true) where
    abbrev v : Part
    v = V (events.SlotOut n q l)

    there : Run start (entry (events.SlotOut n q l) out ∷ past) end
    there = (mid, run, s)

    known : Known v g z p
    known = known_of v g h z p (sound o start opening.opens tells (entry (events.SlotOut n q l) out ∷ past) end there) a.recovered a.pendings

    x : PageCleared mid.core (around_at o start opening.opens tells past mid) (place o start opening.opens tells past mid run) n q l
    x = page_cleared_so mid.core (around_at o start opening.opens tells past mid) (place o start opening.opens tells past mid run) n q l s.accepted

    here : x.recovering.slot ≡ d
    here = some_same x.recovering.slot d (sym (traced_run o start opening.opens past mid run n x.recovering x.is).0 ∙ slot)

    open_after : Still end.core n x.recovering.slot
    open_after = subst (λ (k : Core). Still k n x.recovering.slot) (sym s.core) (still_open mid.core n q l x.recovering x.is out)

    rec : recovers (v.recovery n) d ≡ true
    rec = ap (λ y. recovers y d) open_after.is ∙ ap (λ k. k == d) (open_after.slot ∙ here) ∙ self d
      where
        self : (k : ℕ) → (k == k) ≡ true
        self k = grind (arith, nat_tests)

    found_after : part_found (v.recovery n) c ≡ true
    found_after = ap (λ y. part_found y c) open_after.is ∙ (traced_run o start opening.opens (entry (events.SlotOut n q l) out ∷ past) end there n open_after.recovering open_after.is).1 c found

    heir : v.heir d ≡ Some n
    heir = subst (λ k. v.heir k ≡ Some n) (open_after.slot ∙ here) (heir_there v g z p known n open_after.recovering open_after.is)

    live : v.pending n ≡ false
    live = by (v.pending n) refl
      where
        none : v.pending n ≡ true → ⊥
        none e =
            let gone = known.sound.rests.recovery n (ap is_up (known.sound.phases.pending n e)) in
            let no : None ≡ Some open_after.recovering = sym gone ∙ open_after.is in cc

        by : (b : Bool) → v.pending n ≡ b → b ≡ false
        by true e = absurd (none e)
        by false e = refl

    map_same : end.core.bitmap n ≡ mid.core.bitmap n
    map_same = ap (λ (k : Core). k.bitmap n) s.core ∙ map_kept mid.core n q l apart out
      where
        same : (r : Recovering) → mid.core.recovery n ≡ Some r → x.recovering ≡ r
        same r e = let one : Some x.recovering ≡ Some r = sym x.is ∙ e in cc

        apart : (r : Recovering) → mid.core.recovery n ≡ Some r → (n == r.slot) ≡ false
        apart r e = subst (λ (y : Recovering). (n == y.slot) ≡ false) (same r e) (turned x.recovering.slot n x.clears.all.opened.other)

    bit : (t j : ℕ) → t < v.geometry.room → chunk_in v t ≡ c → z.since d t ≡ false → v.ghost.good j ≡ true → v.bit n c j ≡ true
    bit t j lt is unsettled good =
        let begun = fresh v g z p known d n t pend heir rec unsettled in
        let need = known.settled.read_need n t lt (subst (λ k. part_found (v.recovery n) k ≡ true) (sym is) found_after) begun in
        let set = known.bits.need_set n c (subst (λ k. (v.bitmap n).need k ≡ true) is need) in
        let before = subst (λ m. m.set c ≡ true) map_same set in
        let there_found = (traced_run o start opening.opens past mid run n x.recovering x.is).1 c found in
        let target = good_target W (sound o start opening.opens tells past mid run) n j x.clears.all.opened.up x.clears.all.acked good in
        known.bits.mark_bit n c j (subst (λ m. m.marks c j ≡ true) (sym map_same) (x.clears.marked c j there_found before target))

    pub held_clear : Held v z d c
    held_clear = record { heir = n; is = heir; live = live; opened = rec; found = found_after; bit = bit }

  -- what is taken is held
  pub held : (e : Event) (s : Step mid e out end) (d c : ℕ) (g : Ghost) (h : Hold) (z : Since) (p : Pend) → All (V e) g h z p → end.core.members.pending d ≡ true → takes o.sizes d c past e ≡ true → Held (V e) z d c
  held (events.SlotOut n q l) s d c g h z p a pend taken =
      let two = both (is_slot d (slot_in n past)) (found_in o.sizes n past c) taken in
      held_clear d c n q l s g h z p a (slot_is d (slot_in n past) two.0) two.1 pend
  held e s d c g h z p a pend taken = cc
