-- What a transfer of a request, and what became of the core, make of its event.
use Rattle.std.proofs.Common.{◌≡◌, ℕ, ◌<◌, Bool, true, false, List, map, length, get_or, Option, Some, None, refl, ap, sym, ◌∙◌, subst, arith, if◌then◌else◌}
use Rattle.std.specs.Prelude.{is_some, nat_le, ◌≤◌, ◌+◌, ◌-◌, Ok, Err}
use Rattle.std.proofs.lemmas.List.{length-map}
use Rattle.dlm_modes.specs.First.{first_such}
use Rattle.dlm_modes.proofs.FirstLaws.{first_such_some}
use Rattle.mdc_types.specs.Geometry.{Sizes, chunks_of, pages_of, slot_pages, parts_of, page_sector}
use Rattle.mdc_types.specs.declared.failed.Failed.{Failed}
use Rattle.mdc_types.specs.declared.numbers.Sector.{Sector}
use Rattle.mdc_types.specs.declared.outcomes.Outcome.{Outcome}
use Rattle.mdc_types.specs.declared.outcomes.Outcome.TheVariants.{Done, Lost, Io, Value}
use Rattle.mdc_types.specs.declared.roles.NodeState.{NodeState}
use Rattle.mdc_types.specs.declared.roles.NodeState.TheVariants as states
use Rattle.mdc_types.specs.declared.events.Event.{Event}
use Rattle.mdc_types.specs.declared.events.Event.TheVariants.{WritePage, Out, In}
use Rattle.mirror_io.specs.declared.live.LiveWrite.{LiveWrite}
use Rattle.mirror_io.specs.declared.live.LiveRead.{LiveRead}
use Rattle.mirror_io.specs.Flight.{write_in, read_in}
use Rattle.leg_failure.specs.Views.{works, working_leg, is_last}
use Rattle.read_balance.specs.Choice.{nearest_leg, least_leg}
use Rattle.read_balance.proofs.Choices.{some_chosen}
use Rattle.cluster_model.specs.State.{Core, sizes, place_of}
use Rattle.cluster_model.specs.After.{after, after_loss}
use Rattle.cluster_model.specs.Bits.{page_written, page_failed, page_sector_of}
use Rattle.cluster_model.specs.Failures.{leg_lost}
use Rattle.cluster_model.specs.Phases.{is_up, is_in}
use Rattle.cluster_model.specs.Reads.{read_leg, reads_first, end_read, in_done}
use Rattle.cluster_model.specs.Table.{refusal}
use Rattle.cluster_model.specs.Transfers.{Transfer, transfer_of, writes_to, reads_from, reads_at, out_transfer, in_transfer}
use Rattle.cluster_model.specs.Writes.{start_write, out_done, write_ended}
use Rattle.laws_sound.specs.Laws.{IsOnLeg}
use Rattle.world_state.specs.Kept.{Kept, core_of}
use Rattle.world_state.specs.Ready.{Ready}
use Rattle.world_state.specs.Told.{Carries, Fits, LegsSeen, Sent, Received}
use Rattle.world_state.proofs.Carrying.{sent, not_sent, got, not_got}

-- The leg and the sector are there.

pub leg_is_there : {L : Type 0} (size : L → ℕ) (legs : List L) (g : Sizes) (t : Transfer) → IsOnLeg g t → Fits g (map size legs) → t.leg < length legs
leg_is_there size legs g t on fits = omega (arith, on.leg, fits.count, length-map legs size)

pub leg_below : (core : Core) (e : Event) (t : Transfer) → Ready core → refusal core e ≡ None → transfer_of core e ≡ Some t → t.leg < 8
leg_below core e t ready ok is = omega (arith, (ready.on_legs e t ok is).leg, ready.range.legs.sizes_fit.legs.1)

pub place_is_there : {L : Type 0} (size : L → ℕ) (legs : List L) (g : Sizes) (t : Transfer) → IsOnLeg g t → Fits g (map size legs) → t.place < get_or (map size legs) t.leg 0
place_is_there size legs g t on fits = rw (fits.each t.leg on.leg) on.place

pages_few : (second : Bool) (chunks : ℕ) → chunks ≤ (if second then 63488 else 30720) → (if nat_le chunks 2048 then 1 else 1 + parts_of (chunks - 2048) 4096) ≤ (if second then 16 else 8)
pages_few true chunks le = grind arith
pages_few false chunks le = grind arith

pub page_of_slot : (core : Core) (p : ℕ) → Ready core → p < pages_of (sizes core) → p < slot_pages (sizes core)
page_of_slot core p ready lt = omega (arith, pages_few (sizes core).second (chunks_of (sizes core)) ready.range.legs.sizes_fit.bits)

-- The failures: the leg is lost, or it is the last one.

abbrev failed_as : Bool → ℕ → Outcome
failed_as b l = if b then Io l else Lost l

abbrev pub out_transferred : Core → ℕ → ℕ → LiveWrite → Transfer
out_transferred core n l w = writes_to n l (place_of core w.sector) w.value

pub out_is : (core : Core) (n k l : ℕ) (w : LiveWrite) → write_in k (core.writes n) ≡ Some w → transfer_of core (Out n k l) ≡ Some (out_transferred core n l w)
out_is core n k l w found = ap (out_transfer core n l) found

out_failed_after : (core x : Core) (n k l : ℕ) (w : LiveWrite) (o : Outcome) (b : Bool) → write_in k (core.writes n) ≡ Some w → o ≡ failed_as b l
    → x ≡ (if b then write_ended (start_write core n k) n k true else leg_lost (start_write core n k) n l) → x ≡ after core (Out n k l) o
out_failed_after core x n k l w o true found e core_is = core_is ∙ ap (after core (Out n k l)) (sym e)
out_failed_after core x n k l w o false found e core_is = core_is ∙ ap (after_loss (start_write core n k)) (sym (out_is core n k l w found)) ∙ ap (after core (Out n k l)) (sym e)

module _ (old new : Kept) (before now : LegsSeen) (n k l at : ℕ) (w : LiveWrite) (ok : refusal (core_of old) (Out n k l) ≡ None)
    (found : write_in k ((core_of old).writes n) ≡ Some w) (place : at ≡ place_of (core_of old) w.sector) where
  pub out_sent : Sent ((core_of old).cut n l) l at w.value true before now → core_of new ≡ out_done (core_of old) n k l → Carries (Out n k l) Done old before new now
  out_sent s core_is =
      sent old new before now (Out n k l) Done (out_transferred (core_of old) n l w) w.value ok (out_is (core_of old) n k l w found) refl core_is
      (subst (λ a. Sent ((core_of old).cut n l) l a w.value true before now) place s) refl

  pub out_not_sent : (o : Outcome) → Sent ((core_of old).cut n l) l at w.value false before now → o ≡ failed_as (is_last ((core_of old).view n) l) l
      → core_of new ≡ (if is_last ((core_of old).view n) l then write_ended (start_write (core_of old) n k) n k true else leg_lost (start_write (core_of old) n k) n l)
      → Carries (Out n k l) o old before new now
  out_not_sent o s fails core_is =
      not_sent old new before now (Out n k l) o (out_transferred (core_of old) n l w) w.value ok (out_is (core_of old) n k l w found) refl
      (out_failed_after (core_of old) (core_of new) n k l w o (is_last ((core_of old).view n) l) found fails core_is)
      (subst (λ a. Sent ((core_of old).cut n l) l a w.value false before now) place s) fails

-- A page.

abbrev pub page_transferred : Core → ℕ → ℕ → ℕ → Transfer
page_transferred core n p l = writes_to n l (page_sector (sizes core) n p) (page_sector_of core p (core.bitmap n).set)

page_missed_after : (core x : Core) (n p l : ℕ) (o : Outcome) (b : Bool) → o ≡ failed_as b l
    → x ≡ (if b then page_failed core n p l else leg_lost (page_failed core n p l) n l) → x ≡ after core (WritePage n p l) o
page_missed_after core x n p l o true e core_is = core_is ∙ ap (after core (WritePage n p l)) (sym e)
page_missed_after core x n p l o false e core_is = core_is ∙ ap (after core (WritePage n p l)) (sym e)

module _ (old new : Kept) (before now : LegsSeen) (n p l at : ℕ) (v : Sector) (ok : refusal (core_of old) (WritePage n p l) ≡ None)
    (value : v ≡ page_sector_of (core_of old) p ((core_of old).bitmap n).set) (place : at ≡ page_sector (sizes (core_of old)) n p) where
  page_to : (fine : Bool) → Sent ((core_of old).cut n l) l at v fine before now
      → Sent ((core_of old).cut n l) l (page_sector (sizes (core_of old)) n p) (page_sector_of (core_of old) p ((core_of old).bitmap n).set) fine before now
  page_to fine s =
      subst (λ x. Sent ((core_of old).cut n l) l (page_sector (sizes (core_of old)) n p) x fine before now) value (subst (λ a. Sent ((core_of old).cut n l) l a v fine before now) place s)

  pub page_sent : Sent ((core_of old).cut n l) l at v true before now → core_of new ≡ page_written (core_of old) n p l → Carries (WritePage n p l) Done old before new now
  page_sent s core_is =
      sent old new before now (WritePage n p l) Done (page_transferred (core_of old) n p l) (page_sector_of (core_of old) p ((core_of old).bitmap n).set) ok refl refl core_is (page_to true s) refl

  pub page_not_sent : (o : Outcome) → Sent ((core_of old).cut n l) l at v false before now → o ≡ failed_as (is_last ((core_of old).view n) l) l
      → core_of new ≡ (if is_last ((core_of old).view n) l then page_failed (core_of old) n p l else leg_lost (page_failed (core_of old) n p l) n l)
      → Carries (WritePage n p l) o old before new now
  page_not_sent o s fails core_is =
      not_sent old new before now (WritePage n p l) o (page_transferred (core_of old) n p l) (page_sector_of (core_of old) p ((core_of old).bitmap n).set) ok refl refl
      (page_missed_after (core_of old) (core_of new) n p l o (is_last ((core_of old).view n) l) fails core_is) (page_to false s) fails

-- Reads.

up_in : (s : NodeState) → is_up s ≡ true → is_in s ≡ true
up_in states.Up e = refl
up_in states.Out e = cc
up_in states.Joining e = cc
up_in states.Loaded e = cc

nearest_some : (works : ℕ → Bool) (head : ℕ → ℕ) (s : ℕ) (x : Option ℕ) → first_such works 0 8 ≡ x → is_some x ≡ true → is_some (nearest_leg works head s) ≡ true
nearest_some works head s None is some = cc
nearest_some works head s (Some l) is some = let f = first_such_some works 0 8 l is in some_chosen works head s false l (omega (arith, f.below)) f.passes

leg_by : (core : Core) (n : ℕ) (r : LiveRead) (b d : Bool) → is_some (working_leg (core.view n)) ≡ true
    → is_some (if b then least_leg (works (core.view n)) else if d then Some r.chosen else nearest_leg (works (core.view n)) (core.head n) r.sector) ≡ true
leg_by core n r true d some = some
leg_by core n r false true some = refl
leg_by core n r false false some = nearest_some (works (core.view n)) (core.head n) r.sector _ refl some

none_left : {A : Type 0} (x : Option A) → is_some x ≡ true → x ≡ None → ⊥
none_left None some is = cc
none_left (Some a) some is = cc

-- an up node has a leg for each read
pub never_without : (core : Core) (n : ℕ) (r : LiveRead) → Ready core → is_up (core.state n) ≡ true → read_leg core n r ≡ None → ⊥
never_without core n r ready up is =
    none_left (read_leg core n r) (leg_by core n r (reads_first core n r.sector) (works (core.view n) r.chosen) (ready.leg.leg n (up_in (core.state n) up))) is

abbrev pub in_transferred : Core → ℕ → ℕ → LiveRead → Transfer
in_transferred core n l r = reads_from n l (place_of core r.sector)

pub in_is : (core : Core) (n k l : ℕ) (r : LiveRead) → read_in k (core.reads n) ≡ Some r → read_leg core n r ≡ Some l → transfer_of core (In n k) ≡ Some (in_transferred core n l r)
in_is core n k l r found leg = ap (in_transfer core n) found ∙ ap (reads_at n (place_of core r.sector)) leg

in_failed_after : (core x : Core) (n k l : ℕ) (r : LiveRead) (o : Outcome) (b : Bool) → read_in k (core.reads n) ≡ Some r → read_leg core n r ≡ Some l → o ≡ failed_as b l
    → x ≡ (if b then end_read core n k else leg_lost core n l) → x ≡ after core (In n k) o
in_failed_after core x n k l r o true found leg e core_is = core_is ∙ ap (after core (In n k)) (sym e)
in_failed_after core x n k l r o false found leg e core_is = core_is ∙ ap (after_loss core) (sym (in_is core n k l r found leg)) ∙ ap (after core (In n k)) (sym e)

module _ (old new : Kept) (before now : LegsSeen) (n k l at : ℕ) (r : LiveRead) (ok : refusal (core_of old) (In n k) ≡ None)
    (found : read_in k ((core_of old).reads n) ≡ Some r) (leg : read_leg (core_of old) n r ≡ Some l) (place : at ≡ place_of (core_of old) r.sector) where
  pub in_got : (v : Sector) → Received ((core_of old).cut n l) l at (Ok v) before now → core_of new ≡ in_done (core_of old) n k l → Carries (In n k) (Value l v) old before new now
  in_got v s core_is =
      got old new before now (In n k) (Value l v) (in_transferred (core_of old) n l r) ok (in_is (core_of old) n k l r found leg) refl core_is v
      (subst (λ a. Received ((core_of old).cut n l) l a (Ok v) before now) place s) refl refl

  pub in_not_got : (o : Outcome) (f : Failed) → Received ((core_of old).cut n l) l at (Err f) before now → o ≡ failed_as (is_last ((core_of old).view n) l) l
      → core_of new ≡ (if is_last ((core_of old).view n) l then end_read (core_of old) n k else leg_lost (core_of old) n l)
      → Carries (In n k) o old before new now
  in_not_got o f s fails core_is =
      not_got old new before now (In n k) o (in_transferred (core_of old) n l r) ok (in_is (core_of old) n k l r found leg) refl
      (in_failed_after (core_of old) (core_of new) n k l r o (is_last ((core_of old).view n) l) found leg fails core_is) f
      (subst (λ a. Received ((core_of old).cut n l) l a (Err f) before now) place s) fails
