-- The core after a change of the requests, or of the bitmaps.
use Rattle.std.proofs.Common.{◌≡◌, ℕ, ◌+◌, List, [], ◌∷◌, ◌++◌, Option, Some, None, IsSome, refl, ap, sym, subst, ◌∙◌, arith, Bool, true, false}
use Rattle.mdc_types.specs.Geometry.{chunk_of}
use Rattle.mdc_types.specs.declared.numbers.Sector.{Sector}
use Rattle.mirror_io.specs.Flight.{write_in, read_in, without_write, new_write, start_in, done_in, started}
use Rattle.cluster_model.specs.Changes.{headed}
use Rattle.cluster_model.specs.Reads.{end_read, in_done, read_sector}
use Rattle.cluster_model.specs.Writes.{ask_write, start_write, out_done, write_ended, write_sector, bitmap_ended}
use Rattle.std.proofs.Math.Path.{fun_ext}
use Rattle.std.proofs.lemmas.Bool.Decides.{nat_tests}
use Rattle.dlm_modes.specs.Points.{with_at}
use Rattle.mirror_io.specs.declared.live.LiveWrite.{LiveWrite}
use Rattle.mirror_io.specs.declared.live.LiveRead.{LiveRead}
use Rattle.node_bitmaps.specs.Bitmap.{Bitmap, with_set, with_need, entered, exited}
use Rattle.node_bits.specs.Bitmaps.{Maps, bitmaps_of}
use Rattle.node_requests.specs.Requests.{AllRequests, writes_of, reads_of, writes_made_of, reads_made_of}
use Rattle.cluster_model.specs.State.{Core, sizes}
use Rattle.world_state.specs.Kept.{Kept, core_of}

abbrev flying : Core → (ℕ → List LiveWrite) → (ℕ → List LiveRead) → (ℕ → ℕ) → (ℕ → ℕ) → Core
flying core w r v s = record core { writes = w; reads = r; writes_made = v; reads_made = s }

all_are : (core : Core) (w w1 : ℕ → List LiveWrite) (r r1 : ℕ → List LiveRead) (v v1 s s1 : ℕ → ℕ) → w ≡ w1 → r ≡ r1 → v ≡ v1 → s ≡ s1
    → flying core w r v s ≡ flying core w1 r1 v1 s1
all_are core w w1 r r1 v v1 s s1 e0 e1 e2 e3 = rw (e0, e1, e2, e3) refl

module _ (k : Kept) (now : AllRequests) where
  -- the writes change
  pub writes_are : (w : ℕ → List LiveWrite) → writes_of now ≡ w → reads_of now ≡ reads_of k.requests
      → writes_made_of now ≡ writes_made_of k.requests → reads_made_of now ≡ reads_made_of k.requests
      → core_of (record k { requests = now }) ≡ record (core_of k) { writes = w }
  writes_are w e0 e1 e2 e3 = all_are (core_of k) _ _ _ _ _ _ _ _ e0 e1 e2 e3

  -- the reads change
  pub reads_are : (r : ℕ → List LiveRead) → writes_of now ≡ writes_of k.requests → reads_of now ≡ r
      → writes_made_of now ≡ writes_made_of k.requests → reads_made_of now ≡ reads_made_of k.requests
      → core_of (record k { requests = now }) ≡ record (core_of k) { reads = r }
  reads_are r e0 e1 e2 e3 = all_are (core_of k) _ _ _ _ _ _ _ _ e0 e1 e2 e3

  -- a write, or a read, is asked
  pub asked_write : (w : ℕ → List LiveWrite) (made : ℕ → ℕ) → writes_of now ≡ w → writes_made_of now ≡ made
      → reads_of now ≡ reads_of k.requests → reads_made_of now ≡ reads_made_of k.requests
      → core_of (record k { requests = now }) ≡ record (core_of k) { writes = w; writes_made = made }
  asked_write w made e0 e2 e1 e3 = all_are (core_of k) _ _ _ _ _ _ _ _ e0 e1 e2 e3

  pub asked_read : (r : ℕ → List LiveRead) (made : ℕ → ℕ) → reads_of now ≡ r → reads_made_of now ≡ made
      → writes_of now ≡ writes_of k.requests → writes_made_of now ≡ writes_made_of k.requests
      → core_of (record k { requests = now }) ≡ record (core_of k) { reads = r; reads_made = made }
  asked_read r made e1 e3 e0 e2 = all_are (core_of k) _ _ _ _ _ _ _ _ e0 e1 e2 e3

pub bits_are : (k : Kept) (now : Maps) (b : ℕ → Bitmap) → bitmaps_of now ≡ b → core_of (record k { bitmaps = now }) ≡ record (core_of k) { bitmap = b }
bits_are k now b e = ap (λ (x : ℕ → Bitmap). record (core_of k) { bitmap = x }) e

-- a change of what was changed before
then_at : {A : Type 0} (f f1 f2 : ℕ → A) (n : ℕ) (a : A) (h : A → A) → f1 ≡ with_at f n a → f2 ≡ with_at f1 n (h (f1 n)) → f2 ≡ with_at f n (h a)
then_at f f1 f2 n a h e0 e1 = e1 ∙ fun_ext (λ m. grind (arith, nat_tests, e0))

module _ (k : Kept) (mid now : Maps) (n c : ℕ) where
  pub entered_are : bitmaps_of mid ≡ with_at (bitmaps_of k.bitmaps) n (with_set (bitmaps_of k.bitmaps n) c true)
      → bitmaps_of now ≡ with_at (bitmaps_of mid) n (entered (bitmaps_of mid n) c)
      → core_of (record k { bitmaps = now }) ≡ record (core_of k) { bitmap = with_at (core_of k).bitmap n (entered (with_set ((core_of k).bitmap n) c true) c) }
  entered_are e0 e1 = bits_are k now _ (then_at (bitmaps_of k.bitmaps) (bitmaps_of mid) (bitmaps_of now) n _ (λ m. entered m c) e0 e1)

  pub broken_are : bitmaps_of mid ≡ with_at (bitmaps_of k.bitmaps) n (exited (bitmaps_of k.bitmaps n) c)
      → bitmaps_of now ≡ with_at (bitmaps_of mid) n (with_need (bitmaps_of mid n) c true)
      → core_of (record k { bitmaps = now }) ≡ record (core_of k) { bitmap = with_at (core_of k).bitmap n (with_need (exited ((core_of k).bitmap n) c) c true) }
  broken_are e0 e1 = bits_are k now _ (then_at (bitmaps_of k.bitmaps) (bitmaps_of mid) (bitmaps_of now) n _ (λ m. with_need m c true) e0 e1)

-- the live writes of a chunk stay where the set changes
pub same_counts : (f f1 : ℕ → Bitmap) (n c : ℕ) (b : Bool) → f1 ≡ with_at f n (with_set (f n) c b) → (f1 n).writes c ≡ (f n).writes c
same_counts f f1 n c b e = ap (λ (x : ℕ → Bitmap). (x n).writes c) e ∙ grind (arith, nat_tests)

-- The core after a row's changes, one after another.

abbrev set_entered : Core → ℕ → ℕ → Core
set_entered core n c = record core { bitmap = with_at core.bitmap n (entered (with_set (core.bitmap n) c true) c) }

abbrev asked : Core → ℕ → ℕ → Sector → Core
asked core n s v = record core {
  writes = with_at core.writes n (core.writes n ++ new_write (core.writes_made n) s v ∷ []);
  writes_made = with_at core.writes_made n (core.writes_made n + 1);
}

pub ask_write_after : (core x0 x1 : Core) (n s c : ℕ) (v : Sector) → c ≡ chunk_of (sizes core) s → x0 ≡ set_entered core n c → x1 ≡ asked x0 n s v → x1 ≡ ask_write core n s v
ask_write_after core x0 x1 n s c v chunk e0 e1 = e1 ∙ ap (λ (x : Core). asked x n s v) (e0 ∙ ap (set_entered core n) chunk)

abbrev dropped : Core → ℕ → ℕ → Core
dropped core n k = record core { writes = with_at core.writes n (without_write k (core.writes n)) }

abbrev set_bits : Core → ℕ → Bitmap → Core
set_bits core n m = record core { bitmap = with_at core.bitmap n m }

-- the bits at the end of a write, whose chunk is known
abbrev bits_ended : Bool → Bitmap → ℕ → Bitmap
bits_ended false m c = exited m c
bits_ended true m c = with_need (exited m c) c true

bits_are_ended : (core : Core) (n c : ℕ) (w : LiveWrite) (broken : Bool) → c ≡ chunk_of (sizes core) w.sector → bits_ended broken (core.bitmap n) c ≡ bitmap_ended core n (Some w) broken
bits_are_ended core n c w false chunk = ap (λ (j : ℕ). exited (core.bitmap n) j) chunk
bits_are_ended core n c w true chunk = ap (λ (j : ℕ). with_need (exited (core.bitmap n) j) j true) chunk

pub ended_after : (core x0 x1 : Core) (n k c : ℕ) (w : LiveWrite) (broken : Bool) → write_in k (core.writes n) ≡ Some w → c ≡ chunk_of (sizes core) w.sector
    → x0 ≡ set_bits core n (bits_ended broken (core.bitmap n) c) → x1 ≡ dropped x0 n k → x1 ≡ write_ended core n k broken
ended_after core x0 x1 n k c w broken found chunk e0 e1 =
    e1 ∙ ap (λ (x : Core). dropped x n k) (e0 ∙ ap (set_bits core n) (bits_are_ended core n c w broken chunk ∙ ap (λ (o : Option LiveWrite). bitmap_ended core n o broken) (sym found)))

abbrev done_at : Core → ℕ → ℕ → ℕ → Core
done_at core n k l = record core { writes = with_at core.writes n (done_in k l (core.writes n)) }

started_done : (core : Core) (n k l : ℕ) → done_at (start_write core n k) n k l ≡ record core { writes = with_at core.writes n (done_in k l (start_in k (core.writes n))) }
started_done core n k l = ap (λ (x : ℕ → List LiveWrite). record core { writes = x }) (then_at core.writes _ _ n (start_in k (core.writes n)) (done_in k l) refl refl)

head_known : (core : Core) (n k l s : ℕ) → write_sector (write_in k (core.writes n)) ≡ Some s
    → headed (record core { writes = with_at core.writes n (done_in k l (start_in k (core.writes n))) }) n l (Some s) ≡ out_done core n k l
head_known core n k l s is =
    let f : Core → Core = λ x. record x { writes = with_at core.writes n (done_in k l (start_in k (core.writes n))) } in
    ap (λ (o : Option ℕ). f (headed core n l o)) (sym is)

pub out_after : (core x0 x1 x2 : Core) (n k l s : ℕ) → write_sector (write_in k (core.writes n)) ≡ Some s → x0 ≡ start_write core n k → x1 ≡ done_at x0 n k l → x2 ≡ headed x1 n l (Some s) → x2 ≡ out_done core n k l
out_after core x0 x1 x2 n k l s is e0 e1 e2 =
    let both : x1 ≡ record core { writes = with_at core.writes n (done_in k l (start_in k (core.writes n))) } = e1 ∙ ap (λ (x : Core). done_at x n k l) e0 ∙ started_done core n k l in
    e2 ∙ ap (λ (x : Core). headed x n l (Some s)) both ∙ head_known core n k l s is

pub in_after : (core x0 x1 : Core) (n k l s : ℕ) → read_sector (read_in k (core.reads n)) ≡ Some s → x0 ≡ end_read core n k → x1 ≡ headed x0 n l (Some s) → x1 ≡ in_done core n k l
in_after core x0 x1 n k l s is e0 e1 = e1 ∙ ap (λ (x : Core). headed x n l (Some s)) e0 ∙ ap (headed (end_read core n k) n l) (sym is)

-- A write that has started is still live.

at_same : {A : Type 0} (f : ℕ → A) (n : ℕ) (a : A) → with_at f n a n ≡ a
at_same f n a = grind (arith, nat_tests)

started_some : (k : ℕ) (ws : List LiveWrite) → IsSome (write_in k ws) → IsSome (write_in k (start_in k ws))
started_some k [] live = live
started_some k (w ∷ ws) live = grind (arith, started_some k ws)

pub live_started : (core : Core) (n k : ℕ) → IsSome (write_in k (core.writes n)) → IsSome (write_in k ((start_write core n k).writes n))
live_started core n k live = subst (λ (ws : List LiveWrite). IsSome (write_in k ws)) (sym (at_same core.writes n (start_in k (core.writes n)))) (started_some k (core.writes n) live)

started_found : (k : ℕ) (ws : List LiveWrite) (w : LiveWrite) → write_in k ws ≡ Some w → write_in k (start_in k ws) ≡ Some (started w)
started_found k [] w found = cc
started_found k (x ∷ ws) w found = grind (arith, nat_tests, started_found k ws w)

found_started : (core : Core) (n k : ℕ) (w : LiveWrite) → write_in k (core.writes n) ≡ Some w → write_in k ((start_write core n k).writes n) ≡ Some (started w)
found_started core n k w found = ap (write_in k) (at_same core.writes n (start_in k (core.writes n))) ∙ started_found k (core.writes n) w found

io_by : (core y0 x0 x1 : Core) (n k c : ℕ) (o : Option LiveWrite) → write_in k (core.writes n) ≡ o → IsSome o → ((w : LiveWrite) → write_in k (core.writes n) ≡ Some w → c ≡ chunk_of (sizes core) w.sector)
    → y0 ≡ start_write core n k → x0 ≡ set_bits y0 n (bits_ended true (y0.bitmap n) c) → x1 ≡ dropped x0 n k → x1 ≡ write_ended (start_write core n k) n k true
io_by core y0 x0 x1 n k c None is live chunk e e0 e1 = cc
io_by core y0 x0 x1 n k c (Some w) is live chunk e e0 e1 =
    ended_after (start_write core n k) x0 x1 n k c (started w) true (found_started core n k w is) (chunk w is) (e0 ∙ ap (λ (y : Core). set_bits y n (bits_ended true (y.bitmap n) c)) e) e1

pub io_after : (core y0 x0 x1 : Core) (n k c : ℕ) → IsSome (write_in k (core.writes n)) → ((w : LiveWrite) → write_in k (core.writes n) ≡ Some w → c ≡ chunk_of (sizes core) w.sector)
    → y0 ≡ start_write core n k → x0 ≡ set_bits y0 n (bits_ended true (y0.bitmap n) c) → x1 ≡ dropped x0 n k → x1 ≡ write_ended (start_write core n k) n k true
io_after core y0 x0 x1 n k c live chunk e e0 e1 = io_by core y0 x0 x1 n k c (write_in k (core.writes n)) refl live chunk e e0 e1
