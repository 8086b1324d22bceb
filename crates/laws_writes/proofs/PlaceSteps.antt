-- Each way keeps where a pass stands in its window.
use Rattle.std.proofs.Common.{◌≡◌, ℕ, ◌<◌, Bool, false, Option, Some, None, option_map, refl, sym, ap, subst, ◌∙◌, arith}
use Rattle.mdc_types.specs.Geometry.{Sizes, IsGeometry, chunk_of}
use Rattle.mdc_types.specs.declared.numbers.Range.{Range}
use Rattle.mdc_types.specs.declared.numbers.Sector.{Sector}
use Rattle.resync_worker.specs.Copying.{Passing, filled, copied, settled_at, covering_only, done_on}
use Rattle.resync_worker.specs.Sectors.{ends_chunk, todo_after, first_chunk_in}
use Rattle.resync_worker.specs.declared.buffer.Buffer.{Buffer}
use Rattle.cluster_model.specs.State.{Copy}
use Rattle.cluster_model.specs.Copying.{next_for}
use Rattle.storage_ways.proofs.Parts.{Part, reached_in, buffer_in}
use Rattle.storage_ways.proofs.Sound.{Sound}
use Rattle.storage_ways.proofs.Ways.{Way}
use Rattle.laws_writes.proofs.Ghosts.{Ghost}
use Rattle.laws_writes.proofs.Windows.{Windows}
use Rattle.laws_writes.proofs.Contents.{Contents, BufferPlace, ReachedPlace, ReachedWithin, here_by}
use Rattle.laws_writes.proofs.Chunks.{next_chunk, reached_more}
use Rattle.laws_writes.proofs.Moves.{Move, Settling, moves, same_geometry}
use Rattle.laws_writes.proofs.Moves as move

record Placed (g : Sizes) (p : Option Passing) (r : Option Range) : Type 0 where
  buffer : (b : Buffer) → buffer_in p ≡ Some b → next_for g p r ≡ Some b.sector
  reached : 0 < reached_in p → here_by g p r ≡ Some (chunk_of g (reached_in p))
  within : 0 < reached_in p → reached_in p < g.room

next_covered : (g : Sizes) (legs : ℕ → Bool) (p : Option Passing) (r : Option Range) → next_for g (option_map (λ q. covering_only q legs) p) r ≡ next_for g p r
next_covered g legs None r = refl
next_covered g legs (Some p) None = refl
next_covered g legs (Some p) (Some r) = refl

here_covered : (g : Sizes) (legs : ℕ → Bool) (p : Option Passing) (r : Option Range) → here_by g (option_map (λ q. covering_only q legs) p) r ≡ here_by g p r
here_covered g legs None r = refl
here_covered g legs (Some p) None = refl
here_covered g legs (Some p) (Some r) = refl

reached_covered : (legs : ℕ → Bool) (p : Option Passing) → reached_in (option_map (λ q. covering_only q legs) p) ≡ reached_in p
reached_covered legs None = refl
reached_covered legs (Some p) = refl

buffer_covered : (legs : ℕ → Bool) (p : Option Passing) → buffer_in (option_map (λ q. covering_only q legs) p) ≡ buffer_in p
buffer_covered legs None = refl
buffer_covered legs (Some p) = refl

placed_covered : (g : Sizes) (legs : ℕ → Bool) (p : Option Passing) (r : Option Range) → Placed g p r → Placed g (option_map (λ q. covering_only q legs) p) r
placed_covered g legs p r o = record {
  buffer = λ b e. next_covered g legs p r ∙ o.buffer b (sym (buffer_covered legs p) ∙ e);
  reached = λ lt. here_covered g legs p r ∙ o.reached (subst (λ x. 0 < x) (reached_covered legs p) lt) ∙ ap (λ x. Some (chunk_of g x)) (sym (reached_covered legs p));
  within = λ lt. subst (λ x. x < g.room) (sym (reached_covered legs p)) (o.within (subst (λ x. 0 < x) (reached_covered legs p) lt));
}

placed_restarted : (g : Sizes) (p : Option Passing) (r : Option Range) → reached_in p ≡ 0 → buffer_in p ≡ None → Placed g p r
placed_restarted g p r none empty = record {
  buffer = λ b e. let both : Some b ≡ None = sym e ∙ empty in cc;
  reached = λ lt. absurd (omega (arith, lt, none));
  within = λ lt. absurd (omega (arith, lt, none));
}

-- without a window nothing is reached, and there is no buffer
next_none : (g : Sizes) (p : Option Passing) → next_for g p None ≡ None
next_none g None = refl
next_none g (Some p) = refl

here_none : (g : Sizes) (p : Option Passing) → here_by g p None ≡ None
here_none g None = refl
here_none g (Some p) = refl

placed_opened : (g : Sizes) (p : Option Passing) (r s : Option Range) → r ≡ None → Placed g p r → Placed g p s
placed_opened g p r s shut o = record {
  buffer = λ b e. let both : None ≡ Some b.sector = sym (next_none g p) ∙ ap (next_for g p) (sym shut) ∙ o.buffer b e in cc;
  reached = λ lt. let both : None ≡ Some (chunk_of g (reached_in p)) = sym (here_none g p) ∙ ap (here_by g p) (sym shut) ∙ o.reached lt in cc;
  within = o.within;
}

-- a pass with another buffer
next_buffered : (g : Sizes) (p : Passing) (x : Option Buffer) (r : Option Range) → next_for g (Some (record p { buffer = x })) r ≡ next_for g (Some p) r
next_buffered g p x None = refl
next_buffered g p x (Some r) = refl

here_buffered : (g : Sizes) (p : Passing) (x : Option Buffer) (r : Option Range) → here_by g (Some (record p { buffer = x })) r ≡ here_by g (Some p) r
here_buffered g p x None = refl
here_buffered g p x (Some r) = refl

placed_buffered : (g : Sizes) (p : Passing) (x : Option Buffer) (r : Option Range) → ((b : Buffer) → x ≡ Some b → next_for g (Some p) r ≡ Some b.sector) → Placed g (Some p) r → Placed g (Some (record p { buffer = x })) r
placed_buffered g p x r here o = record {
  buffer = λ b e. next_buffered g p x r ∙ here b e;
  reached = λ lt. here_buffered g p x r ∙ o.reached lt;
  within = o.within;
}

placed_filled : (g : Sizes) (p : Passing) (s l : ℕ) (v : Sector) (r : Option Range) → next_for g (Some p) r ≡ Some s → Placed g (Some p) r → Placed g (Some (filled p s v l)) r
placed_filled g p s l v r next o = placed_buffered g p (filled p s v l).buffer r (λ b e. next ∙ ap Some (place b e)) o
  where
    place : (b : Buffer) → (filled p s v l).buffer ≡ Some b → s ≡ b.sector
    place b e = cc

placed_copied : (g : Sizes) (p : Passing) (l : ℕ) (r : Option Range) → Placed g (Some p) r → Placed g (Some (copied p l)) r
placed_copied g p l r o = placed_buffered g p (option_map (done_on l) p.buffer) r (λ b e. by p.buffer refl b e) o
  where
    by : (x : Option Buffer) → p.buffer ≡ x → (b : Buffer) → option_map (done_on l) x ≡ Some b → next_for g (Some p) r ≡ Some b.sector
    by None is b e = cc
    by (Some y) is b e = let same : y.sector ≡ b.sector = cc in o.buffer y is ∙ ap Some same

here_settled : (g : Sizes) (p : Passing) (b : Buffer) (r : Option Range) → ends_chunk g b.sector ≡ false → here_by g (Some (settled_at g p b)) r ≡ here_by g (Some p) r
here_settled g p b None more = refl
here_settled g p b (Some r) more = ap (λ t. first_chunk_in g t r.lo r.hi) (todo_kept g p.todo b.sector more)
  where
    todo_kept : (g : Sizes) (todo : ℕ → Bool) (s : ℕ) → ends_chunk g s ≡ false → todo_after g todo s ≡ todo
    todo_kept g todo s e = rw e refl

placed_settled : (g : Sizes) (i : IsGeometry g) (p : Passing) (b : Buffer) (r : Option Range) → p.buffer ≡ Some b → b.sector < g.room → Placed g (Some p) r → Placed g (Some (settled_at g p b)) r
placed_settled g i p b r is room o = record {
  buffer = λ x e. cc;
  reached = λ lt. let m = reached_more g b.sector i room lt in
      here_settled g p b r m.0 ∙ next_chunk g (Some p) r b.sector i (o.buffer b is) ∙ ap Some (sym (m.2)) ∙ ap (λ x. Some (chunk_of g x)) (sym (m.1));
  within = λ lt. let m = reached_more g b.sector i room lt in subst (λ x. x < g.room) (sym m.1) m.3;
}

placed_move : (g : Sizes) → IsGeometry g → (stored : ℕ → ℕ → Sector) (c d : Copy) (Is : ℕ → Type 0) → Move g stored c d Is → Placed g c.pass c.window → Placed g d.pass d.window
placed_move g i stored c d Is (move.keeps p r) o = subst (λ x. Placed g d.pass x) (sym r) (subst (λ x. Placed g x c.window) (sym p) o)
placed_move g i stored c d Is (move.covers legs p r) o = subst (λ x. Placed g d.pass x) (sym r) (subst (λ x. Placed g x c.window) (sym p) (placed_covered g legs c.pass c.window o))
placed_move g i stored c d Is (move.restarts none empty) o = placed_restarted g d.pass d.window none empty
placed_move g i stored c d Is (move.opens shut p) o = subst (λ x. Placed g x d.window) (sym p) (placed_opened g c.pass c.window d.window shut o)
placed_move g i stored c d Is (move.fills s l v p is q r next has) o =
    subst (λ x. Placed g d.pass x) (sym r) (subst (λ x. Placed g x c.window) (sym q)
    (placed_filled g p s l v c.window (ap (λ x. next_for g x c.window) (sym is) ∙ next) (subst (λ x. Placed g x c.window) is o)))
placed_move g i stored c d Is (move.copies l p b is there has q r) o =
    subst (λ x. Placed g d.pass x) (sym r) (subst (λ x. Placed g x c.window) (sym q) (placed_copied g p l c.window (subst (λ x. Placed g x c.window) is o)))
placed_move g i stored c d Is (move.settles p b is there room at q r) o =
    subst (λ x. Placed g d.pass x) (sym r) (subst (λ x. Placed g x c.window) (sym q) (placed_settled g i p b c.window there room (subst (λ x. Placed g x c.window) is o)))

placed : (w : Part) (g : Ghost) → Contents w g → (n : ℕ) → Placed w.geometry (w.copy n).pass (w.copy n).window
placed w g con n = record {
  buffer = λ b e. by (w.copy n).pass refl b e;
  reached = con.reached_place n;
  within = con.reached_within n;
}
  where
    by : (p : Option Passing) → (w.copy n).pass ≡ p → (b : Buffer) → buffer_in p ≡ Some b → next_for w.geometry (w.copy n).pass (w.copy n).window ≡ Some b.sector
    by None is b e = cc
    by (Some p) is b e = con.buffer_place n p b is e

placed_after : (w v : Part) → Way w v → (g : Ghost) → Sound w → Windows w → Contents w g → (n : ℕ) → Placed v.geometry (v.copy n).pass (v.copy n).window
placed_after w v x g sound win con n =
    subst (λ z. Placed z (v.copy n).pass (v.copy n).window) (sym (same_geometry w v x))
    (placed_move w.geometry sound.within.geometry v.stored (w.copy n) (v.copy n) (Settling x n) (moves w v x sound win n) (placed w g con n))

pub buffer_place : (w v : Part) → Way w v → (g : Ghost) → Sound w → Windows w → Contents w g → BufferPlace v
buffer_place w v x g sound win con n p b is there = (placed_after w v x g sound win con n).buffer b (ap buffer_in is ∙ there)

pub reached_place : (w v : Part) → Way w v → (g : Ghost) → Sound w → Windows w → Contents w g → ReachedPlace v
reached_place w v x g sound win con n = (placed_after w v x g sound win con n).reached

pub reached_within : (w v : Part) → Way w v → (g : Ghost) → Sound w → Windows w → Contents w g → ReachedWithin v
reached_within w v x g sound win con n = (placed_after w v x g sound win con n).within
