-- Copying meets no write, in one state.
use Rattle.std.proofs.Common.{◌≡◌, ◌≢◌, ℕ, true, Option, Some, None, refl, ap, subst, ◌∙◌}
use Rattle.std.specs.Prelude.{is_some}
use Rattle.mdc_types.specs.declared.numbers.Range.{Range}
use Rattle.mirror_io.specs.Flight.{write_in}
use Rattle.mirror_io.specs.declared.live.LiveWrite.{LiveWrite}
use Rattle.resync_worker.specs.Copying.{Passing}
use Rattle.resync_worker.specs.declared.buffer.Buffer.{Buffer}
use Rattle.suspend_ranges.specs.Suspended.{suspends}
use Rattle.cluster_model.specs.State.{State}
use Rattle.cluster_model.specs.Copying.{buffer_in}
use Rattle.storage_ways.proofs.Parts.{Part, chunk_in, write_of, writes_at}
use Rattle.storage_ways.proofs.Sound.{Sound}
use Rattle.storage_ways.proofs.Place.{Around, here, Place, sound_of}
use Rattle.laws_writes.specs.Laws.{CopiesFreely}
use Rattle.laws_writes.proofs.Ghosts.{Ghost}
use Rattle.laws_writes.proofs.Windows.{Windows}
use Rattle.laws_writes.proofs.Contents.{Contents, here_by}
use Rattle.laws_writes.proofs.Chunks.{here_holds}
use Rattle.laws_writes.proofs.Flights.{write_there}
use Rattle.laws_writes.proofs.Races.{buffer_here, no_write_buffer}

module _ (w : Part) (g : Ghost) (sound : Sound w) (win : Windows w) (con : Contents w g) where
  within_window : (n : ℕ) (p : Passing) (b : Buffer) → (w.copy n).pass ≡ Some p → p.buffer ≡ Some b → suspends b.sector (w.copy n).window ≡ true
  within_window n p b is there = by (w.copy n).window refl (buffer_here w g sound win con n p b is there)
    where
      none : (q : Option Passing) → here_by w.geometry q None ≡ Some (chunk_in w b.sector) → ⊥
      none None e = cc
      none (Some q) e = cc

      by : (x : Option Range) → (w.copy n).window ≡ x → here_by w.geometry (w.copy n).pass x ≡ Some (chunk_in w b.sector) → suspends b.sector x ≡ true
      by None e h = absurd (none (w.copy n).pass h)
      by (Some r) e h =
          let form = win.own_form n r (win.window_own n (ap is_some e) ∙ e) in
          here_holds w.geometry (w.copy n).pass r (chunk_in w b.sector) b.sector sound.within.geometry form h (sound.within.buffer n p b is there) refl

  buffer_within : (n : ℕ) (b : Buffer) → buffer_in (w.copy n).pass ≡ Some b → suspends b.sector (w.copy n).window ≡ true
  buffer_within n b e = by (w.copy n).pass refl e
    where
      by : (q : Option Passing) → (w.copy n).pass ≡ q → buffer_in q ≡ Some b → suspends b.sector (w.copy n).window ≡ true
      by None is h = cc
      by (Some p) is h = within_window n p b is h

  buffer_free : (n m k : ℕ) (b : Buffer) (x : LiveWrite) → buffer_in (w.copy n).pass ≡ Some b → write_in k (w.writes m) ≡ Some x → x.sector ≢ b.sector
  buffer_free n m k b x e write same = by (w.copy n).pass refl e
    where
      by : (q : Option Passing) → (w.copy n).pass ≡ q → buffer_in q ≡ Some b → ⊥
      by None is h = cc
      by (Some p) is h = no_write_buffer w g sound win con n m k p b is h (subst (λ t. writes_at (write_of w m k) t ≡ true) same (write_there w m k x write))

pub copies_freely : (state : State) (g : Ghost) (a : Around) → Place state.core a → Windows (here state.core a) → Contents (here state.core a) g → CopiesFreely state
copies_freely state g a p win con = record {
  within = λ n b e. buffer_within (here state.core a) g (sound_of state.core a p) win con n b e;
  free = λ n m k b x e is same. buffer_free (here state.core a) g (sound_of state.core a p) win con n m k b x e is same;
}
