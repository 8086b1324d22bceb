-- No live write of any node lies in the chunk that a pass copies in its window.
use Rattle.std.proofs.Common.{◌≡◌, ℕ, ◌<◌, ◌==◌, ◌&&◌, Bool, true, false, Option, Some, None, [], refl, sym, ap, subst, ◌∙◌, arith}
use Rattle.std.specs.Prelude.{is_some, not}
use Rattle.msg_rounds.specs.Phases.{has_processed}
use Rattle.resync_worker.specs.Sectors.{is_behind}
use Rattle.resync_worker.specs.declared.buffer.Buffer.{Buffer}
use Rattle.mdc_types.specs.Ranges.{holds}
use Rattle.mdc_types.specs.declared.numbers.Range.{Range}
use Rattle.mdc_types.specs.declared.roles.NodeState.{NodeState}
use Rattle.mdc_types.specs.declared.roles.NodeState.TheVariants as states
use Rattle.mirror_io.specs.Flight.{write_in}
use Rattle.mirror_io.specs.declared.live.LiveWrite.{LiveWrite}
use Rattle.resync_worker.specs.Copying.{Passing}
use Rattle.suspend_ranges.specs.Suspended.{suspends}
use Rattle.cluster_model.specs.Guards.{is_out}
use Rattle.cluster_model.specs.Phases.{is_up}
use Rattle.storage_ways.proofs.Parts.{Part, chunk_in, write_of, writes_at, waits, tells_range, has_pass, reached_in}
use Rattle.storage_ways.proofs.Sound.{Sound}
use Rattle.laws_writes.proofs.Windows.{Windows}
use Rattle.laws_writes.proofs.Contents.{Contents, here, here_by, is_settled}
use Rattle.laws_writes.proofs.Ghosts.{Ghost}
use Rattle.laws_writes.proofs.Flights.{is_same}
use Rattle.laws_writes.proofs.Chunks.{here_holds, behind_reached, behind_chunk, next_chunk}

module _ (w : Part) (sound : Sound w) (win : Windows w) where
  writer_up : (m k s : ℕ) → writes_at (write_of w m k) s ≡ true → is_up (w.state m) ≡ true
  writer_up m k s e = by (is_up (w.state m)) refl
    where
      none : w.writes m ≡ [] → ⊥
      none is = let there : writes_at (write_in k []) s ≡ true = ap (λ ws. writes_at (write_in k ws) s) (sym is) ∙ e in cc

      by : (b : Bool) → is_up (w.state m) ≡ b → b ≡ true
      by true up = refl
      by false down = absurd (none (sound.rests.writes m down))

  in_room : (m k s : ℕ) → writes_at (write_of w m k) s ≡ true → s < w.geometry.room
  in_room m k s e = by (write_of w m k) refl e
    where
      by : (x : Option LiveWrite) → write_of w m k ≡ x → writes_at x s ≡ true → s < w.geometry.room
      by None is h = cc
      by (Some x) is h = subst (λ t. t < w.geometry.room) (is_same x.sector s h) (sound.within.writes m k x is)

  quiet : (n m : ℕ) (r : Range) → (w.copy n).window ≡ Some r → waits w m n ≡ false
  quiet n m r is = by (tells_range w n) refl
    where
      none : (w.copy n).window ≡ None → ⊥
      none e = let both : Some r ≡ None = sym is ∙ e in cc

      by : (b : Bool) → tells_range w n ≡ b → (b && not (m == n) && not (has_processed (w.receiver m).phase)) ≡ false
      by true told = absurd (none (win.range_shut n told))
      by false told = refl

  -- the node with a window is up, and each node that is up has its window in its list
  pub window_up : (n : ℕ) (r : Range) → (w.copy n).window ≡ Some r → is_up (w.state n) ≡ true
  window_up n r is = by (is_up (w.state n)) refl
    where
      some : is_some (w.copy n).window ≡ true
      some = ap is_some is

      by : (b : Bool) → is_up (w.state n) ≡ b → b ≡ true
      by true up = refl
      by false down = let own_there = win.window_own n some ∙ is in let gone = win.own_up n down in let both : Some r ≡ None = sym own_there ∙ gone in cc

  pub window_listed : (n m : ℕ) (r : Range) → (w.copy n).window ≡ Some r → is_up (w.state m) ≡ true → w.suspended m n ≡ Some r
  window_listed n m r is up = win.list_own m n up (quiet n m r is) ∙ win.window_own n (ap is_some is) ∙ is

  -- nobody writes in a window
  pub none_in_window : (n m k s : ℕ) (r : Range) → (w.copy n).window ≡ Some r → writes_at (write_of w m k) s ≡ true → holds r.lo r.hi s ≡ false
  none_in_window n m k s r is e =
      let up = writer_up m k s e in
      let below = sound.phases.below n (up_not_out (w.state n) (window_up n r is)) in
      ap (λ x. suspends s x) (sym (window_listed n m r is up)) ∙ win.no_write_there m n k s below e
    where
      up_not_out : (s : NodeState) → is_up s ≡ true → is_out s ≡ false
      up_not_out states.Up e = refl
      up_not_out s e = cc

  pub no_race : (n m k s : ℕ) → here w n ≡ Some (chunk_in w s) → writes_at (write_of w m k) s ≡ true → ⊥
  no_race n m k s is e = by (w.copy n).window refl is
    where
      by : (x : Option Range) → (w.copy n).window ≡ x → here_by w.geometry (w.copy n).pass x ≡ Some (chunk_in w s) → ⊥
      by None window h = none (w.copy n).pass h
        where
          none : (p : Option Passing) → here_by w.geometry p None ≡ Some (chunk_in w s) → ⊥
          none None f = cc
          none (Some p) f = cc
      by (Some r) window h =
          let form = win.own_form n r (win.window_own n (ap is_some window) ∙ window) in
          let inside = here_holds w.geometry (w.copy n).pass r (chunk_in w s) s sound.within.geometry form h (in_room m k s e) refl in
          let outside = none_in_window n m k s r window e in
          absurd (clash (sym inside ∙ outside))
        where
          clash : true ≡ false → ⊥
          clash f = cc

module _ (w : Part) (g : Ghost) (sound : Sound w) (win : Windows w) (con : Contents w g) where
  -- what was settled in a window lies in the chunk that is copied there
  pub settled_here : (n s : ℕ) → is_settled w n s ≡ true → here w n ≡ Some (chunk_in w s)
  settled_here n s e =
      let behind = right (has_pass (w.copy n)) (is_behind w.geometry (reached_in (w.copy n).pass) s) e in
      let place = con.reached_place n (behind_reached w.geometry (reached_in (w.copy n).pass) s behind) in
      place ∙ ap Some (sym (behind_chunk w.geometry (reached_in (w.copy n).pass) s sound.within.geometry behind))
    where
      right : (a b : Bool) → (a && b) ≡ true → b ≡ true
      right a b e = grind arith

  -- so nobody writes there, nor where a buffer's sector is
  pub no_write_settled : (n m k s : ℕ) → is_settled w n s ≡ true → writes_at (write_of w m k) s ≡ true → ⊥
  no_write_settled n m k s e f = no_race w sound win n m k s (settled_here n s e) f

  pub buffer_here : (n : ℕ) (p : Passing) (b : Buffer) → (w.copy n).pass ≡ Some p → p.buffer ≡ Some b → here w n ≡ Some (chunk_in w b.sector)
  buffer_here n p b is there = next_chunk w.geometry (w.copy n).pass (w.copy n).window b.sector sound.within.geometry (con.buffer_place n p b is there)

  pub no_write_buffer : (n m k : ℕ) (p : Passing) (b : Buffer) → (w.copy n).pass ≡ Some p → p.buffer ≡ Some b → writes_at (write_of w m k) b.sector ≡ true → ⊥
  no_write_buffer n m k p b is there f = no_race w sound win n m k b.sector (buffer_here n p b is there) f
