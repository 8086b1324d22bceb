-- Each way keeps what an open recovery has read among what its node has to copy.
use Rattle.std.proofs.Common.{◌≡◌, ◌≢◌, ℕ, ◌==◌, ◌<◌, ◌||◌, Bool, true, false, if◌then◌else◌, Option, Some, None, refl, ap, subst, ◌∙◌, arith}
use Rattle.std.specs.Prelude.{is_some}
use Rattle.std.proofs.lemmas.Bool.Decides.{nat_tests}
use Rattle.dlm_modes.specs.Points.{with_at}
use Rattle.mdc_types.specs.Geometry.{chunk_of}
use Rattle.node_bitmaps.specs.Bitmap.{Bitmap, found_page}
use Rattle.node_recovery.specs.Progress.{Recovering, begun, with_cleared, with_found, with_read}
use Rattle.resync_worker.specs.Copying.{Passing, completes}
use Rattle.resync_worker.specs.Sectors.{ends_chunk}
use Rattle.resync_worker.specs.declared.buffer.Buffer.{Buffer}
use Rattle.cluster_model.specs.Copying.{need_met}
use Rattle.storage_ways.proofs.Parts.{Part, chunk_in, found_in}
use Rattle.storage_ways.proofs.Sound.{Sound}
use Rattle.storage_ways.proofs.Ways as ways
use Rattle.storage_ways.proofs.Ways.{Way, Settles}
use Rattle.laws_writes.proofs.Contents.{Contents}
use Rattle.laws_writes.proofs.Ghosts.{Ghost}
use Rattle.laws_writes.proofs.Places.{before_next, past_last}
use Rattle.laws_writes.proofs.Points.{at_point, either_if, same_point, clash}
use Rattle.laws_writes.proofs.Settled.{Since, since_after, Settled, ReadNeed}
use Rattle.laws_writes.proofs.Settling.{need_met_at}
use Rattle.laws_writes.proofs.SettledSteps.{since_pass, since_settled}

-- What was read is needed.

-- a chunk stays needed
more_need : (f : ℕ → Bitmap) (n : ℕ) (b : Bitmap) (k c : ℕ) → ((f n).need c ≡ true → b.need c ≡ true) → (f k).need c ≡ true → (with_at f n b k).need c ≡ true
more_need f n b k c more old = at_point (λ (m : Bitmap). m.need c ≡ true) f n b k (λ is. more (subst (λ j. (f j).need c ≡ true) is old)) (λ e. old)

needed_set : (need : ℕ → Bool) (c d : ℕ) → need d ≡ true → with_at need c true d ≡ true
needed_set need c d e = grind (arith, nat_tests)

found_left : (recovery : ℕ → Option Recovering) (n m c : ℕ) → found_in (with_at recovery n None m) c ≡ true → found_in (recovery m) c ≡ true
found_left recovery n m c = at_point (λ y. found_in y c ≡ true → found_in (recovery m) c ≡ true) recovery n None m (λ is e. cc) (λ apart e. e)

found_begun : (recovery : ℕ → Option Recovering) (n d m c : ℕ) → found_in (with_at recovery n (Some (begun d)) m) c ≡ true → found_in (recovery m) c ≡ true
found_begun recovery n d m c = at_point (λ y. found_in y c ≡ true → found_in (recovery m) c ≡ true) recovery n (Some (begun d)) m (λ is e. cc) (λ apart e. e)

found_cleared : (recovery : ℕ → Option Recovering) (n p i m c : ℕ) (r : Recovering) → recovery n ≡ Some r → found_in (with_at recovery n (Some (with_cleared r p i)) m) c ≡ true → found_in (recovery m) c ≡ true
found_cleared recovery n p i m c r rec = at_point (λ y. found_in y c ≡ true → found_in (recovery m) c ≡ true) recovery n (Some (with_cleared r p i)) m
    (λ is e. ap (λ j. found_in (recovery j) c) is ∙ ap (λ y. found_in y c) rec ∙ e) (λ apart e. e)

apart_else : (recovery : ℕ → Option Recovering) (n m c : ℕ) (x : Option Recovering) → found_in x c ≡ false → found_in (with_at recovery n x m) c ≡ true → (m == n) ≡ false
apart_else recovery n m c x none found = grind (arith, none)

or_left : (a b : Bool) → a ≡ true → (a || b) ≡ true
or_left a b e = grind arith

or_right : (a b : Bool) → b ≡ true → (a || b) ≡ true
or_right a b e = grind arith

at_begun : (b c : Bool) → (if b then false else c) ≡ false → b ≡ false → c ≡ false
at_begun b c e f = grind arith

module _ (w : Part) (g : Ghost) (z : Since) (s : Sound w) (c : Contents w g) (a : Settled w z) where
  -- the need of who goes is nobody's
  gone_need : (n m t : ℕ) (b : Bitmap) → t < w.geometry.room → found_in (with_at w.recovery n None m) (chunk_in w t) ≡ true → ((m == n) ≡ false → z.since m t ≡ false) → (with_at w.bitmap n b m).need (chunk_in w t) ≡ true
  gone_need n m t b lt found since =
      let apart = apart_else w.recovery n m (chunk_in w t) None refl found in
      either_if (λ (y : Bitmap). y.need (chunk_in w t) ≡ true) (m == n) b (w.bitmap m) (λ is. absurd (clash (m == n) is apart)) (λ e. a.read_need m t lt (found_left w.recovery n m (chunk_in w t) found) (since e))

  read_more : (n p i m t : ℕ) (r : Recovering) (has : ℕ → Bool) → w.recovery n ≡ Some r → t < w.geometry.room → found_in (with_at w.recovery n (Some (with_found (with_read r p i) has)) m) (chunk_in w t) ≡ true → z.since m t ≡ false
      → (with_at w.bitmap n (found_page w.geometry (w.bitmap n) p has) m).need (chunk_in w t) ≡ true
  read_more n p i m t r has rec lt found since = by (m == n) refl found
    where
      here : m ≡ n → (b : Bool) → r.found (chunk_in w t) ≡ b → (b || has (chunk_in w t)) ≡ true → ((w.bitmap n).need (chunk_in w t) || has (chunk_in w t)) ≡ true
      here is true e h = or_left ((w.bitmap n).need (chunk_in w t)) (has (chunk_in w t)) (a.read_need n t lt (ap (λ y. found_in y (chunk_in w t)) rec ∙ e) (subst (λ j. z.since j t ≡ false) is since))
      here is false e h = or_right ((w.bitmap n).need (chunk_in w t)) (has (chunk_in w t)) h

      by : (b : Bool) → (m == n) ≡ b → found_in (if b then Some (with_found (with_read r p i) has) else w.recovery m) (chunk_in w t) ≡ true
          → (if b then found_page w.geometry (w.bitmap n) p has else w.bitmap m).need (chunk_in w t) ≡ true
      by true e f = here (same_point m n e) (r.found (chunk_in w t)) refl f
      by false e f = a.read_need m t lt f since

  -- where a sector is settled that completes its chunk, nothing of the chunk is left
  still_needed : (n : ℕ) (p : Passing) (b : Buffer) → Settles w n p b → (t : ℕ) → t < w.geometry.room → is_some (w.recovery n) ≡ true → z.since n t ≡ false → (t == b.sector) ≡ false
      → ends_chunk w.geometry b.sector ≡ true → (chunk_in w t == chunk_of w.geometry b.sector) ≡ false
  still_needed n p b e t lt some since apart last = by (chunk_in w t == chunk_of w.geometry b.sector) refl
    where
      by : (x : Bool) → (chunk_in w t == chunk_of w.geometry b.sector) ≡ x → x ≡ false
      by false h = refl
      by true h =
          let same = same_point (chunk_in w t) (chunk_of w.geometry b.sector) h in
          let differ : t ≢ b.sector = grind (arith, nat_tests) in
          let under = past_last w.geometry t b.sector s.within.geometry last same lt differ in
          let done = before_next w n t b.sector s.within.geometry (ap is_some e.buffers.pass) (c.buffer_place n p b e.buffers.pass e.buffers.buffer) same under in
          absurd (clash (z.since n t) (a.since_settled n t some done) since)

  settled_need : (n m : ℕ) (p : Passing) (b : Buffer) → Settles w n p b → (t : ℕ) → t < w.geometry.room → found_in (w.recovery m) (chunk_in w t) ≡ true → (if t == b.sector then true else z.since m t) ≡ false
      → (with_at w.bitmap n (need_met (w.bitmap n) (completes w.geometry b)) m).need (chunk_in w t) ≡ true
  settled_need n m p b e t lt found since =
      let apart = other (t == b.sector) (z.since m t) since in
      let before = old (t == b.sector) (z.since m t) since in
      more_need w.bitmap n (need_met (w.bitmap n) (completes w.geometry b)) m (chunk_in w t)
      (λ need. need_met_at w.geometry (w.bitmap n) b (chunk_in w t) (still_needed n p b e t lt (some_one e found) (subst (λ j. z.since j t ≡ false) (same e found) before) apart) ∙ need)
      (a.read_need m t lt found before)
    where
      other : (b c : Bool) → (if b then true else c) ≡ false → b ≡ false
      other b c e = grind arith

      old : (b c : Bool) → (if b then true else c) ≡ false → c ≡ false
      old b c e = grind arith

      found_some : (x : Option Recovering) (d : ℕ) → found_in x d ≡ true → is_some x ≡ true
      found_some None d e = cc
      found_some (Some r) d e = refl

      same : Settles w n p b → found_in (w.recovery m) (chunk_in w t) ≡ true → m ≡ n
      same e found = s.turns.one m n (s.turns.recovery m (found_some (w.recovery m) (chunk_in w t) found)) e.buffers.turn

      some_one : Settles w n p b → found_in (w.recovery m) (chunk_in w t) ≡ true → is_some (w.recovery n) ≡ true
      some_one e found = subst (λ j. is_some (w.recovery j) ≡ true) (same e found) (found_some (w.recovery m) (chunk_in w t) found)

pub read_need : (w v : Part) (x : Way w v) → Sound w → (g : Ghost) → Contents w g → (z : Since) → Settled w z → ReadNeed v (since_after x z)
read_need w v (ways.finishes n o e meta) s g c z a m t lt found since = more_need w.bitmap n _ m (chunk_in w t) (λ h. h) (a.read_need m t lt found since)
read_need w v (ways.hears_roles n roles size o e meta same) s g c z a m t lt found since = more_need w.bitmap n _ m (chunk_in w t) (λ h. h) (a.read_need m t lt found since)
read_need w v (ways.comes n k says lost ranges e) s g c z a m t lt found since = more_need w.bitmap n _ m (chunk_in w t) (λ h. h) (a.read_need m t lt found since)
read_need w v (ways.leaves n x) s g c z a m t lt found since = gone_need w g z s c a n m t _ lt found (λ e. since)
read_need w v (ways.quits n x) s g c z a m t lt found since = gone_need w g z s c a n m t _ lt found (λ e. since)
read_need w v (ways.parts n o x) s g c z a m t lt found since = gone_need w g z s c a n m t _ lt found (at_begun (m == n) (z.since m t) since)
read_need w v (ways.dies n told x) s g c z a m t lt found since = gone_need w g z s c a n m t _ lt found (at_begun (m == n) (z.since m t) since)
read_need w v (ways.asks n u k y new e) s g c z a m t lt found since = more_need w.bitmap n _ m (chunk_in w t) (λ h. h) (a.read_need m t lt found since)
read_need w v (ways.ends n k x e) s g c z a m t lt found since = more_need w.bitmap n _ m (chunk_in w t) (λ h. h) (a.read_need m t lt found since)
read_need w v (ways.breaks n k x e) s g c z a m t lt found since = more_need w.bitmap n _ m (chunk_in w t) (needed_set (w.bitmap n).need (chunk_in w x.sector) (chunk_in w t)) (a.read_need m t lt found since)
read_need w v (ways.marks n p i e) s g c z a m t lt found since = more_need w.bitmap n _ m (chunk_in w t) (λ h. h) (a.read_need m t lt found since)
read_need w v (ways.misses_page n p i left e) s g c z a m t lt found since = more_need w.bitmap n _ m (chunk_in w t) (λ h. h) (a.read_need m t lt found since)
read_need w v (ways.clears n d e) s g c z a m t lt found since = more_need w.bitmap n _ m (chunk_in w t) (λ h. h) (a.read_need m t lt found since)
read_need w v (ways.settles n p b e) s g c z a m t lt found since = settled_need w g z s c a n m p b e t lt found since
read_need w v (ways.recovers_slot n d e) s g c z a m t lt found since =
    a.read_need m t lt (found_begun w.recovery n d m (chunk_in w t) found) (at_begun (m == n) (z.since m t) since (apart_else w.recovery n m (chunk_in w t) (Some (begun d)) refl found))
read_need w v (ways.slot_reads n p i r has e) s g c z a m t lt found since = read_more w g z s c a n p i m t r has e.opened.recovery lt found since
read_need w v (ways.slot_clears n p i r e) s g c z a m t lt found since =
    more_need w.bitmap r.slot _ m (chunk_in w t) (λ h. h) (a.read_need m t lt (found_cleared w.recovery n p i m (chunk_in w t) r e.all.opened.recovery found) since)
read_need w v (ways.misses_slot n p i r left e) s g c z a m t lt found since = more_need w.bitmap r.slot _ m (chunk_in w t) (λ h. h) (a.read_need m t lt found since)
read_need w v (ways.ends_recovery n r e) s g c z a m t lt found since = a.read_need m t lt (found_left w.recovery n m (chunk_in w t) found) since
read_need w v x s g c z a m t lt found since = a.read_need m t lt found since

pub settled_step : (w v : Part) (x : Way w v) → Sound w → (g : Ghost) → Contents w g → (z : Since) → Settled w z → Settled v (since_after x z)
settled_step w v x s g c z a = record {
  since_pass = since_pass w v x s z a;
  since_settled = since_settled w v x s g c z a;
  read_need = read_need w v x s g c z a;
}
