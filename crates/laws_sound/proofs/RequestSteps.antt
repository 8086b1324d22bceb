-- Each change keeps what is in flight, and the bitmaps' counts of it.
use Rattle.std.proofs.Common.{◌≡◌, ◌⊎◌, inl, inr, ℕ, zero, suc, ◌+◌, ◌-◌, ◌<◌, ◌≤◌, ◌==◌, ◌||◌, Bool, true, false, if◌then◌else◌, length, List, [], ◌∷◌, ◌++◌, Option, Some, None, refl, sym, subst, ◌∙◌, arith}
use Rattle.std.proofs.lemmas.Bool.Decides.{nat_tests}
use Rattle.dlm_modes.specs.Points.{with_at}
use Rattle.mdc_types.specs.Geometry.{Sizes, IsGeometry, chunk_size_test, chunk_of, chunks_of}
use Rattle.mdc_types.specs.declared.numbers.Sector.{Sector}
use Rattle.mirror_io.specs.Flight.{write_in, without_write, without_read, new_write, new_read, start_in, done_in, started, done_on, WritesRise}
use Rattle.mirror_io.specs.declared.live.LiveWrite.{LiveWrite}
use Rattle.mirror_io.specs.declared.live.LiveRead.{LiveRead}
use Rattle.mirror_io.proofs.Lookups.{write_in-last, write_in-without, write_in-start, write_in-done, read_in-last, read_in-without}
use Rattle.mirror_io.proofs.Order.{WritesRise-push, WritesRise-without, ReadsRise-push, ReadsRise-without}
use Rattle.resync_worker.proofs.SectorLaws.{chunk_of-lt}
use Rattle.node_bitmaps.specs.Bitmap.{Bitmap, with_set, with_need, entered, exited, forgotten, with_new_legs, found_page, written}
use Rattle.cluster_model.specs.State.{Core, sizes}
use Rattle.cluster_model.specs.Writes.{bitmap_ended}
use Rattle.cluster_model.specs.Copying.{need_met}
use Rattle.laws_sound.proofs.Points.{at_one}
use Rattle.laws_sound.proofs.Change.{Marks}
use Rattle.laws_sound.specs.Requests.{writes_in, RequestsFit, BitmapFits}

-- The lists.

pub length-last : {A : Type 0} (xs : List A) (x : A) → length (xs ++ x ∷ []) ≡ length xs + 1
length-last [] x = refl
length-last (y ∷ xs) x = omega (arith, length-last xs x)

length-without : (k : ℕ) (ws : List LiveWrite) → length (without_write k ws) ≤ length ws
length-without k [] = omega arith
length-without k (w ∷ ws) = grind (arith, length-without k ws)

length-without_read : (k : ℕ) (rs : List LiveRead) → length (without_read k rs) ≤ length rs
length-without_read k [] = omega arith
length-without_read k (r ∷ rs) = grind (arith, length-without_read k rs)

length-start : (k : ℕ) (ws : List LiveWrite) → length (start_in k ws) ≡ length ws
length-start k [] = refl
length-start k (w ∷ ws) = omega (arith, length-start k ws)

length-done : (k l : ℕ) (ws : List LiveWrite) → length (done_in k l ws) ≡ length ws
length-done k l [] = refl
length-done k l (w ∷ ws) = omega (arith, length-done k l ws)

start_number : (b : Bool) (w : LiveWrite) → (if b then started w else w).number ≡ w.number
start_number true w = refl
start_number false w = refl

start_sector : (b : Bool) (w : LiveWrite) → (if b then started w else w).sector ≡ w.sector
start_sector true w = refl
start_sector false w = refl

done_number : (b : Bool) (l : ℕ) (w : LiveWrite) → (if b then done_on l w else w).number ≡ w.number
done_number true l w = refl
done_number false l w = refl

done_sector : (b : Bool) (l : ℕ) (w : LiveWrite) → (if b then done_on l w else w).sector ≡ w.sector
done_sector true l w = refl
done_sector false l w = refl

rise_same : (lo hi n : ℕ) (m : ℕ) (ws : List LiveWrite) → n ≡ m → (lo ≤ m) × (m < hi) × WritesRise (m + 1) hi ws → (lo ≤ n) × (n < hi) × WritesRise (n + 1) hi ws
rise_same lo hi n m ws e r = subst (λ x. (lo ≤ x) × (x < hi) × WritesRise (x + 1) hi ws) (sym e) r

rise-start : (k lo hi : ℕ) (ws : List LiveWrite) → WritesRise lo hi ws → WritesRise lo hi (start_in k ws)
rise-start k lo hi [] r = tt
rise-start k lo hi (w ∷ ws) r = rise_same lo hi (if w.number == k then started w else w).number w.number (start_in k ws) (start_number (w.number == k) w) (r.0, r.1, rise-start k (w.number + 1) hi ws r.2)

rise-done : (k l lo hi : ℕ) (ws : List LiveWrite) → WritesRise lo hi ws → WritesRise lo hi (done_in k l ws)
rise-done k l lo hi [] r = tt
rise-done k l lo hi (w ∷ ws) r = rise_same lo hi (if w.number == k then done_on l w else w).number w.number (done_in k l ws) (done_number (w.number == k) l w) (r.0, r.1, rise-done k l (w.number + 1) hi ws r.2)

-- How many are in a chunk.

writes_in-last : (g : Sizes) (c : ℕ) (ws : List LiveWrite) (w : LiveWrite) → writes_in g c (ws ++ w ∷ []) ≡ (if c == chunk_of g w.sector then writes_in g c ws + 1 else writes_in g c ws)
writes_in-last g c [] w = grind (arith, nat_tests)
writes_in-last g c (x ∷ ws) w = grind (arith, nat_tests, writes_in-last g c ws w)

pub writes_in-start : (g : Sizes) (c k : ℕ) (ws : List LiveWrite) → writes_in g c (start_in k ws) ≡ writes_in g c ws
writes_in-start g c k [] = refl
writes_in-start g c k (w ∷ ws) = rw (start_sector (w.number == k) w, writes_in-start g c k ws) refl

pub writes_in-done : (g : Sizes) (c k l : ℕ) (ws : List LiveWrite) → writes_in g c (done_in k l ws) ≡ writes_in g c ws
writes_in-done g c k l [] = refl
writes_in-done g c k l (w ∷ ws) = rw (done_sector (w.number == k) l w, writes_in-done g c k l ws) refl

pub writes_in-few : (g : Sizes) (c : ℕ) (ws : List LiveWrite) → writes_in g c ws ≤ length ws
writes_in-few g c [] = omega arith
writes_in-few g c (w ∷ ws) = grind (arith, writes_in-few g c ws)

without-below : (k lo hi : ℕ) (ws : List LiveWrite) → WritesRise lo hi ws → k < lo → without_write k ws ≡ ws
without-below k lo hi [] r lt = refl
without-below k lo hi (w ∷ ws) r lt = grind (arith, nat_tests, r, without-below k (w.number + 1) hi ws)

-- the write of this number was one of its chunk
pub writes_in-without : (g : Sizes) (c k lo hi : ℕ) (ws : List LiveWrite) (w : LiveWrite) → WritesRise lo hi ws → write_in k ws ≡ Some w
    → writes_in g c ws ≡ (if c == chunk_of g w.sector then writes_in g c (without_write k ws) + 1 else writes_in g c (without_write k ws))
writes_in-without g c k lo hi [] w r is = cc
writes_in-without g c k lo hi (x ∷ ws) w r is = by (x.number == k) refl is (λ e. writes_in-without g c k (x.number + 1) hi ws w r.2 e)
  where
    by : (b : Bool) → (x.number == k) ≡ b → (if b then Some x else write_in k ws) ≡ Some w
        → (write_in k ws ≡ Some w → writes_in g c ws ≡ (if c == chunk_of g w.sector then writes_in g c (without_write k ws) + 1 else writes_in g c (without_write k ws)))
        → writes_in g c (x ∷ ws) ≡ (if c == chunk_of g w.sector then writes_in g c (if b then without_write k ws else x ∷ without_write k ws) + 1 else writes_in g c (if b then without_write k ws else x ∷ without_write k ws))
    by true e is more =
        let rest : without_write k ws ≡ ws = without-below k (x.number + 1) hi ws r.2 (grind (arith, nat_tests)) in
        let same : x ≡ w = cc in
        rw rest (subst (λ y. writes_in g c (x ∷ ws) ≡ (if c == chunk_of g y.sector then writes_in g c ws + 1 else writes_in g c ws)) same (grind (arith, nat_tests)))
    by false e is more = let m = more is in grind (arith, nat_tests)

chunk_of_size : (c : ℕ) → chunk_size_test c ≡ true → 0 < c
chunk_of_size zero e = cc
chunk_of_size (suc c) e = omega arith

pub chunk_some : (g : Sizes) → IsGeometry g → 0 < g.chunk
chunk_some g geometry = chunk_of_size g.chunk geometry.chunk

-- What is in flight.

pub none_fits : (g : Sizes) (a b : ℕ) → RequestsFit g [] [] a b
none_fits g a b = record {
  few = (omega arith, omega arith);
  order = record { writes_rise = tt; reads_rise = tt };
  write_sectors = λ k w e. cc;
  read_sectors = λ k r e. cc;
}

module _ (g : Sizes) (ws : List LiveWrite) (rs : List LiveRead) (a b : ℕ) (i : RequestsFit g ws rs a b) where
  pub more_writes : (s : ℕ) (v : Sector) → length ws < 16 → s < g.room → RequestsFit g (ws ++ new_write a s v ∷ []) rs (a + 1) b
  more_writes s v few lt = record {
    few = (omega (arith, length-last ws (new_write a s v)), i.few.1);
    order = record { writes_rise = WritesRise-push 0 a ws (new_write a s v) i.order.writes_rise (omega arith) refl; reads_rise = i.order.reads_rise };
    write_sectors = λ k w e. grind (arith, write_in-last k ws (new_write a s v), i.write_sectors k);
    read_sectors = i.read_sectors;
  }

  pub more_reads : (s l : ℕ) → length rs < 16 → s < g.room → l < 8 → RequestsFit g ws (rs ++ new_read b s l ∷ []) a (b + 1)
  more_reads s l few lt leg = record {
    few = (i.few.0, omega (arith, length-last rs (new_read b s l)));
    order = record { writes_rise = i.order.writes_rise; reads_rise = ReadsRise-push 0 b rs (new_read b s l) i.order.reads_rise (omega arith) refl };
    write_sectors = i.write_sectors;
    read_sectors = λ k r e. grind (arith, read_in-last k rs (new_read b s l), i.read_sectors k);
  }

  pub start_fits : (k : ℕ) → RequestsFit g (start_in k ws) rs a b
  start_fits k = record {
    few = (omega (arith, length-start k ws, i.few.0), i.few.1);
    order = record { writes_rise = rise-start k 0 a ws i.order.writes_rise; reads_rise = i.order.reads_rise };
    write_sectors = λ j w e. grind (arith, write_in-start j k ws, i.write_sectors j);
    read_sectors = i.read_sectors;
  }

  pub done_fits : (k l : ℕ) → RequestsFit g (done_in k l ws) rs a b
  done_fits k l = record {
    few = (omega (arith, length-done k l ws, i.few.0), i.few.1);
    order = record { writes_rise = rise-done k l 0 a ws i.order.writes_rise; reads_rise = i.order.reads_rise };
    write_sectors = λ j w e. grind (arith, write_in-done j k l ws, i.write_sectors j);
    read_sectors = i.read_sectors;
  }

  pub without_fits : (k : ℕ) → RequestsFit g (without_write k ws) rs a b
  without_fits k = record {
    few = (omega (arith, length-without k ws, i.few.0), i.few.1);
    order = record { writes_rise = WritesRise-without k 0 a ws i.order.writes_rise; reads_rise = i.order.reads_rise };
    write_sectors = λ j w e. grind (arith, write_in-without j k ws, i.write_sectors j);
    read_sectors = i.read_sectors;
  }

  pub without_read_fits : (k : ℕ) → RequestsFit g ws (without_read k rs) a b
  without_read_fits k = record {
    few = (i.few.0, omega (arith, length-without_read k rs, i.few.1));
    order = record { writes_rise = i.order.writes_rise; reads_rise = ReadsRise-without k 0 b rs i.order.reads_rise };
    write_sectors = i.write_sectors;
    read_sectors = λ j r e. grind (arith, read_in-without j k rs, i.read_sectors j);
  }

-- Bitmaps.

pub forgotten_fits : (g : Sizes) (m : Bitmap) → BitmapFits g [] (forgotten m)
forgotten_fits g m = record { set = λ c e. cc; need = λ c e. cc; counts = λ c. refl }

pub legs_fit : (g : Sizes) (ws : List LiveWrite) (m : Bitmap) (legs : ℕ → Bool) → BitmapFits g ws m → BitmapFits g ws (with_new_legs m legs)
legs_fit g ws m legs i = record { set = i.set; need = i.need; counts = i.counts }

pub written_fits : (g : Sizes) (ws : List LiveWrite) (m : Bitmap) (p l : ℕ) → BitmapFits g ws m → BitmapFits g ws (written m p l)
written_fits g ws m p l i = record { set = i.set; need = i.need; counts = i.counts }

either : (a b : Bool) → (a || b) ≡ true → (a ≡ true) ⊎ (b ≡ true)
either true b e = inl refl
either false b e = inr e

pub found_fits : (g : Sizes) (ws : List LiveWrite) (m : Bitmap) (p : ℕ) (has : ℕ → Bool) → ((c : ℕ) → has c ≡ true → c < chunks_of g) → BitmapFits g ws m → BitmapFits g ws (found_page g m p has)
found_fits g ws m p has fit i = record {
  set = λ c e. elim (either (m.set c) (has c) e) [ inl x ↦ i.set c x | inr x ↦ fit c x ];
  need = λ c e. elim (either (m.need c) (has c) e) [ inl x ↦ i.need c x | inr x ↦ fit c x ];
  counts = i.counts;
}

true_at : (f : ℕ → Bool) (n bound : ℕ) (b : Bool) → ((c : ℕ) → f c ≡ true → c < bound) → (b ≡ true → n < bound) → (c : ℕ) → with_at f n b c ≡ true → c < bound
true_at f n bound b i lt c e = at_one (λ k x. x ≡ true → k < bound) f n b i lt c e

count_in : (f : ℕ → ℕ) (c k n : ℕ) → f k ≡ n → with_at f c (f c + 1) k ≡ (if k == c then n + 1 else n)
count_in f c k n e = grind (arith, nat_tests)

pub enter_fits : (g : Sizes) (ws : List LiveWrite) (m : Bitmap) (k s : ℕ) (v : Sector) → IsGeometry g → s < g.room → BitmapFits g ws m
    → BitmapFits g (ws ++ new_write k s v ∷ []) (entered (with_set m (chunk_of g s) true) (chunk_of g s))
enter_fits g ws m k s v geometry lt i = record {
  set = true_at m.set (chunk_of g s) (chunks_of g) true i.set (λ e. chunk_of-lt g s (chunk_some g geometry) lt);
  need = i.need;
  counts = λ c. count_in m.writes (chunk_of g s) c (writes_in g c ws) (i.counts c) ∙ sym (writes_in-last g c ws (new_write k s v));
}

count_out : (f : ℕ → ℕ) (c k n : ℕ) → f k ≡ (if k == c then n + 1 else n) → with_at f c (f c - 1) k ≡ n
count_out f c k n e = grind (arith, nat_tests)

exit_fits : (g : Sizes) (ws : List LiveWrite) (m : Bitmap) (k hi : ℕ) (w : LiveWrite) → WritesRise 0 hi ws → write_in k ws ≡ Some w → BitmapFits g ws m → BitmapFits g (without_write k ws) (exited m (chunk_of g w.sector))
exit_fits g ws m k hi w rise is i = record {
  set = i.set;
  need = i.need;
  counts = λ c. count_out m.writes (chunk_of g w.sector) c (writes_in g c (without_write k ws)) (i.counts c ∙ writes_in-without g c k 0 hi ws w rise is);
}

pub needed_fits : (g : Sizes) (ws : List LiveWrite) (m : Bitmap) (c : ℕ) (b : Bool) → (b ≡ true → c < chunks_of g) → BitmapFits g ws m → BitmapFits g ws (with_need m c b)
needed_fits g ws m c b lt i = record { set = i.set; need = true_at m.need c (chunks_of g) b i.need lt; counts = i.counts }

pub met_fits : (g : Sizes) (ws : List LiveWrite) (m : Bitmap) (x : Option ℕ) → BitmapFits g ws m → BitmapFits g ws (need_met m x)
met_fits g ws m None i = i
met_fits g ws m (Some c) i = needed_fits g ws m c false (λ e. cc) i

pub end_fits : (core : Core) (n k hi : ℕ) (w : LiveWrite) (broken : Bool) → IsGeometry (sizes core) → w.sector < (sizes core).room → WritesRise 0 hi (core.writes n) → write_in k (core.writes n) ≡ Some w → BitmapFits (sizes core) (core.writes n) (core.bitmap n)
    → BitmapFits (sizes core) (without_write k (core.writes n)) (bitmap_ended core n (Some w) broken)
end_fits core n k hi w false geometry lt rise is i = exit_fits (sizes core) (core.writes n) (core.bitmap n) k hi w rise is i
end_fits core n k hi w true geometry lt rise is i =
    needed_fits (sizes core) (without_write k (core.writes n)) (exited (core.bitmap n) (chunk_of (sizes core) w.sector)) (chunk_of (sizes core) w.sector) true (λ e. chunk_of-lt (sizes core) w.sector (chunk_some (sizes core) geometry) lt)
    (exit_fits (sizes core) (core.writes n) (core.bitmap n) k hi w rise is i)

pub marks_fit : (g : Sizes) (ws : List LiveWrite) (new old : Bitmap) → Marks new old → BitmapFits g ws old → BitmapFits g ws new
marks_fit g ws new old m i = record { set = λ c e. i.set c (m.set c e); need = λ c e. i.need c (m.need c e); counts = λ c. m.writes c ∙ i.counts c }

pub same_writes : (g : Sizes) (ws now : List LiveWrite) (m : Bitmap) → ((c : ℕ) → writes_in g c now ≡ writes_in g c ws) → BitmapFits g ws m → BitmapFits g now m
same_writes g ws now m same i = record { set = i.set; need = i.need; counts = λ c. i.counts c ∙ sym (same c) }

-- a live write is counted in its chunk
pub some_live : (g : Sizes) (k : ℕ) (ws : List LiveWrite) (w : LiveWrite) → write_in k ws ≡ Some w → 1 ≤ writes_in g (chunk_of g w.sector) ws
some_live g k [] w is = cc
some_live g k (x ∷ ws) w is = by (x.number == k) is (some_live g k ws w)
  where
    by : (b : Bool) → (if b then Some x else write_in k ws) ≡ Some w → (write_in k ws ≡ Some w → 1 ≤ writes_in g (chunk_of g w.sector) ws) → 1 ≤ writes_in g (chunk_of g w.sector) (x ∷ ws)
    by true e more = let same : x ≡ w = cc in subst (λ (y : LiveWrite). 1 ≤ writes_in g (chunk_of g y.sector) (x ∷ ws)) same (grind (arith, nat_tests))
    by false e more = let m = more e in grind (arith, nat_tests)
