-- Each way keeps what legs hold of live writes, and which of them have started.
use Rattle.std.proofs.Common.{◌≡◌, inl, inr, ℕ, ◌==◌, ◌&&◌, ◌||◌, not, if◌then◌else◌, Bool, true, false, Option, Some, None, List, ◌∷◌, [], ◌++◌, refl, sym, ap, ap₂, subst, ◌∙◌, arith}
use Rattle.dlm_modes.specs.Points.{with_at}
use Rattle.resync_worker.specs.Copying.{Passing}
use Rattle.resync_worker.specs.declared.buffer.Buffer.{Buffer}
use Rattle.mdc_types.specs.Bits.{has_bit}
use Rattle.mdc_types.specs.declared.numbers.Sector.{Sector}
use Rattle.leg_failure.proofs.SetLaws.{has_bit-zero}
use Rattle.mirror_io.specs.Flight.{write_in, is_done, new_write, started, done_on, start_in, done_in, without_write}
use Rattle.mirror_io.specs.declared.live.LiveWrite.{LiveWrite}
use Rattle.mirror_io.proofs.Lookups.{is_done-done_on}
use Rattle.storage_ways.proofs.Parts.{Part, write_of, writes_at, has_started, done_there, with_data, with_data_if}
use Rattle.storage_ways.proofs.Sound.{Sound}
use Rattle.storage_ways.proofs.Ways.{Way, Trying, Ending, Asking, Buffers}
use Rattle.storage_ways.proofs.Ways as ways
use Rattle.laws_writes.proofs.Ghosts.{Ghost, ghost_after, undecided, is_among, is_open, has_value, same_sector, with_try}
use Rattle.laws_writes.proofs.Bits.{Bits}
use Rattle.laws_writes.proofs.Windows.{Windows}
use Rattle.laws_writes.proofs.Contents.{Contents, DoneHolds, DoneStarted, StartedValue, StartedUndecided}
use Rattle.laws_writes.proofs.Flights.{is_same, same_nat, write_there, IsElse, flown}
use Rattle.laws_writes.proofs.Races.{no_write_buffer}
use Rattle.laws_writes.proofs.Moves.{data_there}
use Rattle.laws_writes.proofs.Behind.{data_kept, data_kept_if, differs, try_kept, value_kept}
use Rattle.laws_writes.proofs.CopySteps.{data_either, data_either_if, same_value}

record Fine (stored : ℕ → ℕ → Sector) (values : ℕ → List Sector) (y : LiveWrite) : Type 0 where
  holds : (l : ℕ) → is_done y l ≡ true → stored l y.sector ≡ y.value
  starts : (l : ℕ) → is_done y l ≡ true → y.started ≡ true
  value : y.started ≡ true → is_among y.value (values y.sector) ≡ true
  two : y.started ≡ true → is_open (values y.sector) ≡ true

fine_kept : (stored new : ℕ → ℕ → Sector) (values now : ℕ → List Sector) (y : LiveWrite) → ((l : ℕ) → new l y.sector ≡ stored l y.sector) → now y.sector ≡ values y.sector → Fine stored values y → Fine new now y
fine_kept stored new values now y same is f = record {
  holds = λ l e. same l ∙ f.holds l e;
  starts = f.starts;
  value = λ e. ap (is_among y.value) is ∙ f.value e;
  two = λ e. ap is_open is ∙ f.two e;
}

fine_new : (stored : ℕ → ℕ → Sector) (values : ℕ → List Sector) (k s : ℕ) (v : Sector) → Fine stored values (new_write k s v)
fine_new stored values k s v = record {
  holds = λ l e. absurd (none l e);
  starts = λ l e. absurd (none l e);
  value = λ e. cc;
  two = λ e. cc;
}
  where
    none : (l : ℕ) → has_bit 0 l ≡ true → ⊥
    none l e = let both : true ≡ false = sym e ∙ has_bit-zero l in cc

-- The values, when a write starts.

among_more : (v : Sector) (us : List Sector) → is_among v (us ++ v ∷ []) ≡ true
among_more v [] = by (same_sector v v) (same_value v)
  where
    by : (b : Bool) → b ≡ true → (b || false) ≡ true
    by b e = grind arith
among_more v (u ∷ us) = by (same_sector v u) (is_among v (us ++ v ∷ [])) (among_more v us)
  where
    by : (a b : Bool) → b ≡ true → (a || b) ≡ true
    by a b e = grind arith

open_more : (v : Sector) (us : List Sector) → has_value us ≡ true → is_open (us ++ v ∷ []) ≡ true
open_more v [] e = cc
open_more v (u ∷ []) e = refl
open_more v (u ∷ t ∷ us) e = refl

tried_here : (g : Ghost) (n k : ℕ) (x : LiveWrite) → (with_try g n k x).values x.sector ≡ (if not x.started then g.values x.sector ++ x.value ∷ [] else g.values x.sector)
tried_here g n k x = ap (λ b. if b && not x.started then g.values x.sector ++ x.value ∷ [] else g.values x.sector) (same_nat x.sector)

fine_started : (stored new : ℕ → ℕ → Sector) (g : Ghost) (n k : ℕ) (x y : LiveWrite) → Fine stored g.values x → has_value (g.values x.sector) ≡ true
    → y.sector ≡ x.sector → y.value ≡ x.value → y.started ≡ true
    → ((l : ℕ) → is_done y l ≡ true → new l x.sector ≡ x.value) → Fine new (with_try g n k x).values y
fine_started stored new g n k x y f some sector same started holds = record {
  holds = λ l e. ap (new l) sector ∙ holds l e ∙ sym same;
  starts = λ l e. started;
  value = λ e. ap₂ is_among same (ap (with_try g n k x).values sector) ∙ ap (is_among x.value) (tried_here g n k x) ∙ value x.started refl;
  two = λ e. ap is_open (ap (with_try g n k x).values sector ∙ tried_here g n k x) ∙ two x.started refl;
}
  where
    value : (b : Bool) → x.started ≡ b → is_among x.value (if not b then g.values x.sector ++ x.value ∷ [] else g.values x.sector) ≡ true
    value true e = f.value e
    value false e = among_more x.value (g.values x.sector)

    two : (b : Bool) → x.started ≡ b → is_open (if not b then g.values x.sector ++ x.value ∷ [] else g.values x.sector) ≡ true
    two true e = f.two e
    two false e = open_more x.value (g.values x.sector) some

some_write : (x y : LiveWrite) → Some x ≡ Some y → x ≡ y
some_write x y e = cc

module _ (w : Part) (g : Ghost) (sound : Sound w) (bits : Bits w) (win : Windows w) (con : Contents w g) where
  fine : (n k : ℕ) (y : LiveWrite) → write_in k (w.writes n) ≡ Some y → Fine w.stored g.values y
  fine n k y is = record {
    holds = λ l e. con.done_holds n k l y is e;
    starts = λ l e. ap has_started (sym is) ∙ con.done_started n k l (ap (λ z. done_there z l) is ∙ e);
    value = λ e. con.started_value n k y is e;
    two = λ e. con.started_undecided n k y.sector (write_there w n k y is) (ap has_started is ∙ e);
  }

  -- another live write is of another sector
  other_sector : (n k : ℕ) (x : LiveWrite) → write_in k (w.writes n) ≡ Some x → (a i : ℕ) (y : LiveWrite) → IsElse w.writes n k a i y → (y.sector == x.sector) ≡ false
  other_sector n k x is a i y e = differs y.sector x.sector (λ same.
      let mine = write_there w n k x is in
      let its = ap (λ z. writes_at z x.sector) e.was ∙ ap (λ s. s == x.sector) same ∙ same_nat x.sector in
      e.apart (is_same a n (bits.one_writer a n i k x.sector its mine)) (is_same i k (bits.one_write a n i k x.sector its mine)))

  other_buffer : (n k m : ℕ) (y : LiveWrite) (p : Passing) (b : Buffer) → write_in k (w.writes n) ≡ Some y → Buffers w m p b → (y.sector == b.sector) ≡ false
  other_buffer n k m y p b is u = differs y.sector b.sector (λ same.
      no_write_buffer w g sound win con m n k p b u.pass u.buffer (subst (λ t. writes_at (write_of w n k) t ≡ true) same (write_there w n k y is)))

  fine_asked : (n s k : ℕ) (v : Sector) (new : List LiveWrite) → Asking w n s k v new → (a i : ℕ) (y : LiveWrite) → write_in i (with_at w.writes n new a) ≡ Some y → Fine w.stored g.values y
  fine_asked n s k v new t a i y is = elim (flown w.writes n k new (Some (new_write k s v)) t.finds a i y is) [
    | inl here ↦ subst (Fine w.stored g.values) (some_write (new_write k s v) y here.is) (fine_new w.stored g.values k s v)
    | inr rest ↦ fine a i y rest.was
  ]

  fine_out : (n k j : ℕ) (x : LiveWrite) → Trying w n k j x → (a i : ℕ) (y : LiveWrite) → write_in i (with_at w.writes n (done_in k j (start_in k (w.writes n))) a) ≡ Some y
      → Fine (with_data w.stored j x.sector x.value) (with_try g n k x).values y
  fine_out n k j x t a i y is = elim (flown w.writes n k (done_in k j (start_in k (w.writes n))) (Some (done_on j (started x))) t.does a i y is) [
    | inl here ↦ subst (Fine (with_data w.stored j x.sector x.value) (with_try g n k x).values) (some_write (done_on j (started x)) y here.is)
        (fine_started w.stored (with_data w.stored j x.sector x.value) g n k x (done_on j (started x)) (fine n k x t.write) (con.some_value x.sector) refl refl refl holds)
    | inr rest ↦
        let apart = other_sector n k x t.write a i y rest in
        fine_kept w.stored (with_data w.stored j x.sector x.value) g.values (with_try g n k x).values y (λ l. data_kept w.stored j x.sector x.value l y.sector apart) (try_kept g n k x y.sector apart) (fine a i y rest.was)
  ]
    where
      by : (l : ℕ) (b : Bool) → (l == j) ≡ b → (if b then true else is_done (started x) l) ≡ true → with_data w.stored j x.sector x.value l x.sector ≡ x.value
      by l true e h = ap (λ m. with_data w.stored j x.sector x.value m x.sector) (is_same l j e) ∙ data_there w.stored j x.sector x.value
      by l false e h = data_either w.stored j x.sector x.value l x.sector x.value (λ z. refl) ((fine n k x t.write).holds l h)

      holds : (l : ℕ) → is_done (done_on j (started x)) l ≡ true → with_data w.stored j x.sector x.value l x.sector ≡ x.value
      holds l e = by l (l == j) refl (sym (is_done-done_on (started x) j l) ∙ e)

  fine_missed : (n k j : ℕ) (x : LiveWrite) (left : Bool) → Trying w n k j x → (a i : ℕ) (y : LiveWrite) → write_in i (with_at w.writes n (start_in k (w.writes n)) a) ≡ Some y
      → Fine (with_data_if left w.stored j x.sector x.value) (with_try g n k x).values y
  fine_missed n k j x left t a i y is = elim (flown w.writes n k (start_in k (w.writes n)) (Some (started x)) t.starts a i y is) [
    | inl here ↦ subst (Fine (with_data_if left w.stored j x.sector x.value) (with_try g n k x).values) (some_write (started x) y here.is)
        (fine_started w.stored (with_data_if left w.stored j x.sector x.value) g n k x (started x) (fine n k x t.write) (con.some_value x.sector) refl refl refl
        (λ l e. data_either_if left w.stored j x.sector x.value l x.sector x.value (λ z. refl) ((fine n k x t.write).holds l e)))
    | inr rest ↦
        let apart = other_sector n k x t.write a i y rest in
        fine_kept w.stored (with_data_if left w.stored j x.sector x.value) g.values (with_try g n k x).values y (λ l. data_kept_if left w.stored j x.sector x.value l y.sector apart) (try_kept g n k x y.sector apart) (fine a i y rest.was)
  ]

  -- a write that ended
  ended : (n k : ℕ) (x : LiveWrite) → Ending w n k x → (a i : ℕ) (y : LiveWrite) → write_in i (with_at w.writes n (without_write k (w.writes n)) a) ≡ Some y → IsElse w.writes n k a i y
  ended n k x e a i y is = elim (flown w.writes n k (without_write k (w.writes n)) None e.finds a i y is) [
    | inl here ↦ let both : None ≡ Some y = here.is in cc
    | inr rest ↦ rest
  ]

  left_alone : (n a i : ℕ) (y : LiveWrite) → write_in i (with_at w.writes n [] a) ≡ Some y → write_in i (w.writes a) ≡ Some y
  left_alone n a i y = by (a == n)
    where
      by : (b : Bool) → write_in i (if b then [] else w.writes a) ≡ Some y → write_in i (w.writes a) ≡ Some y
      by true e = cc
      by false e = e

fine_after : (w v : Part) (x : Way w v) (g : Ghost) → Sound w → Bits w → Windows w → Contents w g → (a i : ℕ) (y : LiveWrite) → write_in i (v.writes a) ≡ Some y → Fine v.stored (ghost_after x g).values y
fine_after w v (ways.dies n told p) g sound bits win con a i y is = fine w g sound bits win con a i y (left_alone w g sound bits win con n a i y is)
fine_after w v (ways.asks n s k u new t) g sound bits win con a i y is = fine_asked w g sound bits win con n s k u new t a i y is
fine_after w v (ways.outs n k j x t) g sound bits win con a i y is = fine_out w g sound bits win con n k j x t a i y is
fine_after w v (ways.misses n k j x left t) g sound bits win con a i y is = fine_missed w g sound bits win con n k j x left t a i y is
fine_after w v (ways.ends n k x e) g sound bits win con a i y is =
    let rest = ended w g sound bits win con n k x e.ending a i y is in
    fine_kept w.stored w.stored g.values (ghost_after (ways.ends n k x e) g).values y (λ l. refl)
    (value_kept g x.sector x.value y.sector (other_sector w g sound bits win con n k x e.ending.write a i y rest)) (fine w g sound bits win con a i y rest.was)
fine_after w v (ways.breaks n k x e) g sound bits win con a i y is =
    let rest = ended w g sound bits win con n k x e a i y is in fine_kept w.stored w.stored g.values g.values y (λ l. refl) refl (fine w g sound bits win con a i y rest.was)
fine_after w v (ways.copies n j p b z) g sound bits win con a i y is =
    fine_kept w.stored (with_data w.stored j b.sector b.value) g.values g.values y (λ l. data_kept w.stored j b.sector b.value l y.sector (other_buffer w g sound bits win con a i n y p b is z.buffers)) refl (fine w g sound bits win con a i y is)
fine_after w v (ways.misses_copy n j p b left z) g sound bits win con a i y is =
    fine_kept w.stored (with_data_if left w.stored j b.sector b.value) g.values g.values y (λ l. data_kept_if left w.stored j b.sector b.value l y.sector (other_buffer w g sound bits win con a i n y p b is z.buffers)) refl (fine w g sound bits win con a i y is)
fine_after w v (ways.settles n p b z) g sound bits win con a i y is =
    fine_kept w.stored w.stored g.values (ghost_after (ways.settles n p b z) g).values y (λ l. refl) (value_kept g b.sector b.value y.sector (other_buffer w g sound bits win con a i n y p b is z.buffers)) (fine w g sound bits win con a i y is)
fine_after w v x g sound bits win con a i y is = fine w g sound bits win con a i y is

pub done_holds : (w v : Part) (x : Way w v) (g : Ghost) → Sound w → Bits w → Windows w → Contents w g → DoneHolds v
done_holds w v x g sound bits win con n k l y is = (fine_after w v x g sound bits win con n k y is).holds l

pub done_started : (w v : Part) (x : Way w v) (g : Ghost) → Sound w → Bits w → Windows w → Contents w g → DoneStarted v
done_started w v x g sound bits win con n k l = by (write_of v n k) refl
  where
    by : (z : Option LiveWrite) → write_of v n k ≡ z → done_there z l ≡ true → has_started z ≡ true
    by None is e = cc
    by (Some y) is e = (fine_after w v x g sound bits win con n k y is).starts l e

pub started_value : (w v : Part) (x : Way w v) (g : Ghost) → Sound w → Bits w → Windows w → Contents w g → StartedValue v (ghost_after x g)
started_value w v x g sound bits win con n k y is = (fine_after w v x g sound bits win con n k y is).value

pub started_undecided : (w v : Part) (x : Way w v) (g : Ghost) → Sound w → Bits w → Windows w → Contents w g → StartedUndecided v (ghost_after x g)
started_undecided w v x g sound bits win con n k s = by (write_of v n k) refl
  where
    by : (z : Option LiveWrite) → write_of v n k ≡ z → writes_at z s ≡ true → has_started z ≡ true → undecided (ghost_after x g) s ≡ true
    by None is e h = cc
    by (Some y) is e h = subst (λ t. undecided (ghost_after x g) t ≡ true) (is_same y.sector s e) ((fine_after w v x g sound bits win con n k y is).two h)
