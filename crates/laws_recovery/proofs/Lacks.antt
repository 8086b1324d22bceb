-- What a leg lacks after a try, a copy or a decision.
use Rattle.std.proofs.Common.{◌≡◌, ℕ, ◌<◌, ◌==◌, ◌&&◌, Bool, true, false, not, List, Some, refl, sym, ap, ◌∙◌, arith}
use Rattle.std.specs.Prelude.{nat_lt}
use Rattle.std.proofs.lemmas.Bool.Decides.{nat_tests}
use Rattle.mdc_types.specs.Roles.{is_working, is_written}
use Rattle.mdc_types.specs.declared.numbers.Sector.{Sector}
use Rattle.mdc_types.specs.declared.roles.Role.{Role}
use Rattle.leg_failure.specs.Views.{is_target}
use Rattle.mirror_io.specs.declared.live.LiveWrite.{LiveWrite}
use Rattle.resync_worker.specs.Copying.{Passing}
use Rattle.resync_worker.specs.declared.buffer.Buffer.{Buffer}
use Rattle.cluster_model.specs.Phases.{is_in, is_up}
use Rattle.storage_ways.proofs.Parts.{Part, buffer_in, done_there, has_started, read_leg, with_data_if}
use Rattle.storage_ways.proofs.Roled.{acked_works, written_target, up_served_good}
use Rattle.storage_ways.proofs.Sound.{Sound}
use Rattle.storage_ways.proofs.Ways.{Acked, Trying, Finishing, Settles, Buffers}
use Rattle.laws_writes.proofs.Ghosts.{Ghost, undecided, is_among, with_try, with_value}
use Rattle.laws_writes.proofs.Contents.{Contents, is_stale}
use Rattle.laws_writes.proofs.Points.{and_left}
use Rattle.laws_recovery.proofs.Stale.{lacks, BufferValue}
use Rattle.laws_recovery.proofs.Values.{same_self, only_value, stale_tried}

both : (a b c : Bool) → (b ≡ true → c ≡ true) → (a && b) ≡ true → (a && c) ≡ true
both a b c f e = grind (arith, f)

below : (i j : ℕ) → nat_lt i j ≡ true → i < j
below i j e = grind (arith, nat_tests)

-- a leg lacks sectors of the room alone
pub lacks_below : (w : Part) (g : Ghost) (l s : ℕ) → lacks w g l s ≡ true → s < w.geometry.room
lacks_below w g l s e = below s w.geometry.room (and_left (nat_lt s w.geometry.room) (is_stale w g l s) e)

pub lacks_tried : (w : Part) (g : Ghost) → Contents w g → (n k l : ℕ) (x : LiveWrite) (left : Bool) → Trying w n k l x → (j s : ℕ)
    → lacks (record w { stored = with_data_if left w.stored l x.sector x.value }) (with_try g n k x) j s ≡ true → lacks w g j s ≡ true
lacks_tried w g c n k l x left t j s e =
    both (nat_lt s w.geometry.room) _ _ (stale_tried w.stored g.values x.sector l x.value left x.started (λ h. c.started_value n k x t.write h) j s) e

stale_copied : (stored : ℕ → ℕ → Sector) (values : ℕ → List Sector) (t i : ℕ) (v : Sector) (left : Bool) → is_among v (values t) ≡ true → (j s : ℕ)
    → not (is_among (with_data_if left stored i t v j s) (values s)) ≡ true → not (is_among (stored j s) (values s)) ≡ true
stale_copied stored values t i v left known j s e = grind (arith, nat_tests, known)

pub lacks_copied : (w : Part) (g : Ghost) (l t : ℕ) (v : Sector) (left : Bool) → is_among v (g.values t) ≡ true → (j s : ℕ)
    → lacks (record w { stored = with_data_if left w.stored l t v }) g j s ≡ true → lacks w g j s ≡ true
lacks_copied w g l t v left known j s e = both (nat_lt s w.geometry.room) _ _ (stale_copied w.stored g.values t l v left known j s) e

-- a node decides a sector: all that it writes to have the value
pub record Decides (w : Part) (g : Ghost) (n t : ℕ) (v : Sector) : Type 0 where
  pub up : is_up (w.state n) ≡ true
  pub acked : Acked w n
  pub known : is_among v (g.values t) ≡ true
  pub holds : (l : ℕ) → is_target (w.view n) l ≡ true → w.stored l t ≡ v

works_target : (w : Part) → Sound w → (n : ℕ) → is_up (w.state n) ≡ true → is_target (w.view n) (read_leg w n) ≡ true
works_target w s n up = let e = s.serves n (inside n up) in role ((w.view n).role (read_leg w n)) ((w.view n).lost (read_leg w n)) e
  where
    inside : (m : ℕ) → is_up (w.state m) ≡ true → is_in (w.state m) ≡ true
    inside m u = grind arith

    role : (r : Role) (lost : Bool) → (is_working r && not lost) ≡ true → (is_written r && not lost) ≡ true
    role r lost e = grind arith

pub decides_end : (w : Part) (g : Ghost) → Sound w → Contents w g → (n k : ℕ) (x : LiveWrite) → Finishing w n k x → Decides w g n x.sector x.value
decides_end w g s c n k x f =
    let leg = read_leg w n in
    let done = f.done leg (works_target w s n f.ending.up) in
    let here = f.ending.write in
    let began = c.done_started n k leg (ap (λ o. done_there o leg) here ∙ done) in
    record {
      up = f.ending.up;
      acked = f.acked;
      known = c.started_value n k x here (sym (ap has_started here) ∙ began);
      holds = λ l t. c.done_holds n k l x here (f.done l t);
    }

pub buffer_is : (w : Part) (n : ℕ) (p : Passing) (b : Buffer) → Buffers w n p b → buffer_in (w.copy n).pass ≡ Some b
buffer_is w n p b e = ap buffer_in e.pass ∙ e.buffer

pub decides_settle : (w : Part) (g : Ghost) → Contents w g → BufferValue w g → (n : ℕ) (p : Passing) (b : Buffer) → Settles w n p b → Decides w g n b.sector b.value
decides_settle w g c known n p b e = record {
  up = e.buffers.up;
  acked = e.buffers.acked;
  known = known n b (buffer_is w n p b e.buffers);
  holds = λ l t. c.buffer_done n l p b e.buffers.pass e.buffers.buffer (e.done l t);
}

module _ (w : Part) (g : Ghost) (s : Sound w) (n t : ℕ) (v : Sector) (d : Decides w g n t v) where
  held : (l : ℕ) → is_written (w.ghost.agreed.role l) ≡ true → w.stored l t ≡ v
  held l written = d.holds l (written_target w s n l d.up d.acked written)

  -- who has the value lacks nothing there
  pub not_there : (l q : ℕ) → is_written (w.ghost.agreed.role l) ≡ true → lacks w (with_value g t v) l q ≡ true → (q == t) ≡ false
  not_there l q written e = by (q == t) refl
    where
      by : (b : Bool) → (q == t) ≡ b → (q == t) ≡ false
      by false h = h
      by true h = grind (arith, nat_tests, held l written, same_self v)

  -- a sector that was decided before stays as it was
  pub lacked : (l q : ℕ) → ((q == t) && undecided g t) ≡ false → lacks w (with_value g t v) l q ≡ true → lacks w g l q ≡ true
  lacked l q old e = by (q == t) refl
    where
      by : (b : Bool) → (q == t) ≡ b → lacks w g l q ≡ true
      by false h = grind arith
      by true h = grind (arith, nat_tests, only_value v (g.values t), d.known)

  pub lacked_written : (l q : ℕ) → is_written (w.ghost.agreed.role l) ≡ true → lacks w (with_value g t v) l q ≡ true → lacks w g l q ≡ true
  lacked_written l q written e = let apart = not_there l q written e in lacked l q (grind (arith, apart)) e

  -- a working leg is good
  pub working_good : (x : ℕ) → is_working (w.ghost.agreed.role x) ≡ true → w.ghost.good x ≡ true
  working_good x e = up_served_good w s n x d.up (acked_works w s n x d.up d.acked ∙ e)
