-- What is known between the ways of one event: a transfer that failed, and then the leg that is lost,
-- or the write that is broken.
use Rattle.std.proofs.Common.{◌≡◌, ℕ, ◌<◌, ◌==◌, ◌&&◌, Bool, true, false, if◌then◌else◌, List, [], Some, refl, sym, ap, subst, ◌∙◌, arith}
use Rattle.std.proofs.lemmas.Bool.Decides.{nat_tests}
use Rattle.dlm_modes.specs.Points.{with_at}
use Rattle.mdc_types.specs.Geometry.{chunks_of, nodes_of, page_of}
use Rattle.mdc_types.specs.declared.numbers.Sector.{Sector}
use Rattle.mirror_io.specs.Flight.{write_in, start_in, started}
use Rattle.mirror_io.specs.declared.live.LiveWrite.{LiveWrite}
use Rattle.node_bitmaps.specs.Bitmap.{Bitmap, failed}
use Rattle.cluster_model.specs.Phases.{is_up}
use Rattle.storage_ways.proofs.Parts.{Part, with_page_if}
use Rattle.storage_ways.proofs.Sound.{Sound}
use Rattle.storage_ways.proofs.Ways.{Trying}

-- Only writes, bitmaps and what stands on the legs change.

abbrev pub with_storage : Part → (ℕ → List LiveWrite) → (ℕ → Bitmap) → (ℕ → ℕ → ℕ → Bool) → (ℕ → ℕ → Sector) → (ℕ → List Sector) → Part
with_storage w writes bitmap bit stored values = record w { writes = writes; bitmap = bitmap; bit = bit; stored = stored; values = values }

pub record Fits (w : Part) (writes : ℕ → List LiveWrite) (bitmap : ℕ → Bitmap) (bit : ℕ → ℕ → ℕ → Bool) : Type 0 where
  pub none : (n : ℕ) → is_up (w.state n) ≡ false → writes n ≡ []
  pub set : (n c : ℕ) → (bitmap n).set c ≡ (w.bitmap n).set c
  pub need : (n c : ℕ) → (bitmap n).need c ≡ (w.bitmap n).need c
  pub bits : (k c l : ℕ) → bit k c l ≡ true → c < chunks_of w.geometry
  pub slots : (k c l : ℕ) → bit k c l ≡ true → k < nodes_of w.geometry
  pub sectors : (n k : ℕ) (x : LiveWrite) → write_in k (writes n) ≡ Some x → x.sector < w.geometry.room

pub stored_sound : (w : Part) (writes : ℕ → List LiveWrite) (bitmap : ℕ → Bitmap) (bit : ℕ → ℕ → ℕ → Bool) (stored : ℕ → ℕ → Sector) (values : ℕ → List Sector) → Sound w → Fits w writes bitmap bit → Sound (with_storage w writes bitmap bit stored values)
stored_sound w writes bitmap bit stored values s f = record {
  numbers = s.numbers;
  roles = s.roles;
  additions = s.additions;
  sources = s.sources;
  phases = record {
    live = s.phases.live;
    pending = s.phases.pending;
    below = s.phases.below;
    alone = s.phases.alone;
    stands = s.phases.stands;
    offering = s.phases.offering;
    meta = s.phases.meta;
    hearers = s.phases.hearers;
    from = s.phases.from;
    gone = s.phases.gone;
    sending = s.phases.sending;
    loaded = s.phases.loaded;
    slots = s.phases.slots;
  };
  turns = record {
    one = s.turns.one;
    recovery = s.turns.recovery;
    slot = s.turns.slot;
    other = s.turns.other;
    unclean = s.turns.unclean;
    pass = s.turns.pass;
  };
  rests = record {
    writes = f.none;
    copy = s.rests.copy;
    recovery = s.rests.recovery;
    set = λ n c e. f.set n c ∙ s.rests.set n c e;
    need = λ n c e. f.need n c ∙ s.rests.need n c e;
  };
  within = record {
    geometry = s.within.geometry;
    set = λ n c e. s.within.set n c (sym (f.set n c) ∙ e);
    need = λ n c e. s.within.need n c (sym (f.need n c) ∙ e);
    todo = s.within.todo;
    buffer = s.within.buffer;
    found = s.within.found;
    gathered = s.within.gathered;
    bits = f.bits;
    slots = f.slots;
    writes = f.sectors;
  };
  serves = s.serves;
}

fits_data : (w : Part) → Sound w → Fits w w.writes w.bitmap w.bit
fits_data w s = record {
  none = s.rests.writes;
  set = λ n c. refl;
  need = λ n c. refl;
  bits = s.within.bits;
  slots = s.within.slots;
  sectors = s.within.writes;
}

pub copy_sound : (w : Part) (stored : ℕ → ℕ → Sector) → Sound w → Sound (record w { stored = stored })
copy_sound w stored s = stored_sound w w.writes w.bitmap w.bit stored w.values s (fits_data w s)

-- A try of a write.

started_within : (w : Part) (n k l : ℕ) (x : LiveWrite) → Sound w → Trying w n k l x → (m j : ℕ) (y : LiveWrite) → write_in j (with_at w.writes n (start_in k (w.writes n)) m) ≡ Some y → y.sector < w.geometry.room
started_within w n k l x s t m j y found = by (m == n) found
  where
    here : (b : Bool) → (if b then Some (started x) else write_in j (w.writes n)) ≡ Some y → y.sector < w.geometry.room
    here true e = let same : started x ≡ y = cc in subst (λ (z : LiveWrite). z.sector < w.geometry.room) same t.sector
    here false e = s.within.writes n j y e

    by : (b : Bool) → write_in j (if b then start_in k (w.writes n) else w.writes m) ≡ Some y → y.sector < w.geometry.room
    by true e = here (j == k) (sym (t.starts j) ∙ e)
    by false e = s.within.writes m j y e

started_none : (w : Part) (n k : ℕ) → Sound w → is_up (w.state n) ≡ true → (m : ℕ) → is_up (w.state m) ≡ false → with_at w.writes n (start_in k (w.writes n)) m ≡ []
started_none w n k s up m down = by (m == n) refl
  where
    by : (b : Bool) → (m == n) ≡ b → (if b then start_in k (w.writes n) else w.writes m) ≡ []
    by true e = let same : m ≡ n = grind (arith, nat_tests) in let no : is_up (w.state n) ≡ false = subst (λ j. is_up (w.state j) ≡ false) same down in cc
    by false e = s.rests.writes m down

pub try_sound : (w : Part) (n k l : ℕ) (x : LiveWrite) (stored : ℕ → ℕ → Sector) (values : ℕ → List Sector) → Sound w → Trying w n k l x → Sound (record w { writes = with_at w.writes n (start_in k (w.writes n)); stored = stored; values = values })
try_sound w n k l x stored values s t = stored_sound w (with_at w.writes n (start_in k (w.writes n))) w.bitmap w.bit stored values s (record {
  none = started_none w n k s t.up;
  set = λ m c. refl;
  need = λ m c. refl;
  bits = s.within.bits;
  slots = s.within.slots;
  sectors = started_within w n k l x s t;
})

-- A page that may stand or not.

failed_set : (m : ℕ → Bitmap) (n p l j c : ℕ) → (with_at m n (failed (m n) p l) j).set c ≡ (m j).set c
failed_set m n p l j c = by (j == n) refl
  where
    by : (b : Bool) → (j == n) ≡ b → (if b then failed (m n) p l else m j).set c ≡ (m j).set c
    by true e = let same : n ≡ j = grind (arith, nat_tests) in ap (λ i. (m i).set c) same
    by false e = refl

failed_need : (m : ℕ → Bitmap) (n p l j c : ℕ) → (with_at m n (failed (m n) p l) j).need c ≡ (m j).need c
failed_need m n p l j c = by (j == n) refl
  where
    by : (b : Bool) → (j == n) ≡ b → (if b then failed (m n) p l else m j).need c ≡ (m j).need c
    by true e = let same : n ≡ j = grind (arith, nat_tests) in ap (λ i. (m i).need c) same
    by false e = refl

module _ (w : Part) (s : Sound w) (n p l : ℕ) (left : Bool) (set : ℕ → Bool) (below : (c : ℕ) → set c ≡ true → c < chunks_of w.geometry) (node : n < nodes_of w.geometry) where
  page_bits : (k c j : ℕ) → with_page_if left w.bit n p l set k c j ≡ true → c < chunks_of w.geometry
  page_bits k c j = by (left && (k == n) && (page_of c == p) && (j == l))
    where
      by : (b : Bool) → (if b then set c else w.bit k c j) ≡ true → c < chunks_of w.geometry
      by true e = below c e
      by false e = s.within.bits k c j e

  page_slots : (k c j : ℕ) → with_page_if left w.bit n p l set k c j ≡ true → k < nodes_of w.geometry
  page_slots k c j = by (left && (k == n) && (page_of c == p) && (j == l)) refl
    where
      second : (a b c d : Bool) → (a && b && c && d) ≡ true → b ≡ true
      second a b c d e = grind arith

      by : (b : Bool) → (left && (k == n) && (page_of c == p) && (j == l)) ≡ b → (if b then set c else w.bit k c j) ≡ true → k < nodes_of w.geometry
      by true t e = let same = second left (k == n) (page_of c == p) (j == l) t in let is : n ≡ k = grind (arith, nat_tests) in subst (λ i. i < nodes_of w.geometry) is node
      by false t e = s.within.slots k c j e

  pub page_sound : Sound (record w { bitmap = with_at w.bitmap n (failed (w.bitmap n) p l); bit = with_page_if left w.bit n p l set })
  page_sound = stored_sound w w.writes (with_at w.bitmap n (failed (w.bitmap n) p l)) (with_page_if left w.bit n p l set) w.stored w.values s (record {
    none = s.rests.writes;
    set = failed_set w.bitmap n p l;
    need = failed_need w.bitmap n p l;
    bits = page_bits;
    slots = page_slots;
    sectors = s.within.writes;
  })
