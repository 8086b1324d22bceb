-- Each way keeps what is known of writes that were broken, and that each sector has a value.
use Rattle.std.proofs.Common.{◌≡◌, ◌⊎◌, inl, inr, ℕ, ◌==◌, ◌&&◌, if◌then◌else◌, not, Bool, true, false, List, [], ◌∷◌, ◌++◌, refl, sym, ap, subst, ◌∙◌, arith}
use Rattle.std.proofs.lemmas.Bool.Decides.{nat_tests}
use Rattle.dlm_modes.specs.Points.{with_at}
use Rattle.mdc_types.specs.declared.numbers.Sector.{Sector}
use Rattle.mirror_io.specs.declared.live.LiveWrite.{LiveWrite}
use Rattle.node_bitmaps.specs.Bitmap.{Bitmap, with_need, exited}
use Rattle.resync_worker.specs.Copying.{Passing, completes}
use Rattle.resync_worker.specs.declared.buffer.Buffer.{Buffer}
use Rattle.cluster_model.specs.Copying.{need_met}
use Rattle.cluster_model.specs.Phases.{is_up}
use Rattle.storage_ways.proofs.Parts.{Part, chunk_in, write_of, writes_at, has_started}
use Rattle.storage_ways.proofs.Sound.{Sound}
use Rattle.storage_ways.proofs.Ways.{Way, Ending, Settles}
use Rattle.storage_ways.proofs.Ways as ways
use Rattle.laws_writes.proofs.Ghosts.{Ghost, ghost_after, undecided, is_open, has_value, with_break, with_value, with_try}
use Rattle.laws_writes.proofs.Contents.{Contents, BrokeLive, BrokeNeed, BrokeUndecided, SomeValue}
use Rattle.laws_writes.proofs.Flights.{is_same, write_there}
use Rattle.laws_writes.proofs.Behind.{value_kept}
use Rattle.laws_writes.proofs.Settling.{need_when_settled}

-- What broke there.

broke_here : (g : Ghost) (n : ℕ) (x : LiveWrite) (m s : ℕ) → (with_break g n x).broke m s ≡ true
    → ((m ≡ n) × (s ≡ x.sector) × (x.started ≡ true)) ⊎ (g.broke m s ≡ true)
broke_here g n x m s = by (m == n) refl (s == x.sector) refl x.started refl
  where
    by : (a : Bool) → (m == n) ≡ a → (b : Bool) → (s == x.sector) ≡ b → (c : Bool) → x.started ≡ c → (if a && b && c then true else g.broke m s) ≡ true
        → ((m ≡ n) × (s ≡ x.sector) × (x.started ≡ true)) ⊎ (g.broke m s ≡ true)
    by true e true f true h is = inl (is_same m n e, is_same s x.sector f, h)
    by true e true f false h is = inr is
    by true e false f c h is = inr is
    by false e b f c h is = inr is

unbroken : (g : Ghost) (t : ℕ) (v : Sector) (m s : ℕ) → (with_value g t v).broke m s ≡ true → ((s == t) ≡ false) × (g.broke m s ≡ true)
unbroken g t v m s e = (grind arith, grind arith)

up_live : (w : Part) → Sound w → (n : ℕ) → is_up (w.state n) ≡ true → w.live n ≡ true
up_live w sound n up = grind (arith, sound.phases.live n)

need_more : (bitmap : ℕ → Bitmap) (n e m c : ℕ) → (bitmap m).need c ≡ true → (with_at bitmap n (with_need (exited (bitmap n) e) e true) m).need c ≡ true
need_more bitmap n e m c old = grind (arith, nat_tests)

need_there : (bitmap : ℕ → Bitmap) (n e : ℕ) → (with_at bitmap n (with_need (exited (bitmap n) e) e true) n).need e ≡ true
need_there bitmap n e = grind (arith, nat_tests)

open_kept : (v : Sector) (us : List Sector) → is_open us ≡ true → is_open (us ++ v ∷ []) ≡ true
open_kept v [] e = cc
open_kept v (u ∷ []) e = cc
open_kept v (u ∷ t ∷ us) e = refl

value_more : (v : Sector) (us : List Sector) → has_value (us ++ v ∷ []) ≡ true
value_more v [] = refl
value_more v (u ∷ us) = refl

still_open : (g : Ghost) (n k : ℕ) (x : LiveWrite) (s : ℕ) → undecided g s ≡ true → undecided (with_try g n k x) s ≡ true
still_open g n k x s e = by ((s == x.sector) && not x.started)
  where
    by : (b : Bool) → is_open (if b then g.values s ++ x.value ∷ [] else g.values s) ≡ true
    by true = open_kept x.value (g.values s) e
    by false = e

still_some : (g : Ghost) (n k : ℕ) (x : LiveWrite) (s : ℕ) → has_value (g.values s) ≡ true → has_value ((with_try g n k x).values s) ≡ true
still_some g n k x s e = by ((s == x.sector) && not x.started)
  where
    by : (b : Bool) → has_value (if b then g.values s ++ x.value ∷ [] else g.values s) ≡ true
    by true = value_more x.value (g.values s)
    by false = e

one_some : (g : Ghost) (t : ℕ) (v : Sector) (s : ℕ) → has_value (g.values s) ≡ true → has_value ((with_value g t v).values s) ≡ true
one_some g t v s e = by (s == t)
  where
    by : (b : Bool) → has_value (if b then v ∷ [] else g.values s) ≡ true
    by true = refl
    by false = e

pub some_value : (w v : Part) (x : Way w v) (g : Ghost) → Contents w g → SomeValue (ghost_after x g)
some_value w v (ways.outs n k j x t) g con s = still_some g n k x s (con.some_value s)
some_value w v (ways.misses n k j x left t) g con s = still_some g n k x s (con.some_value s)
some_value w v (ways.ends n k x e) g con s = one_some g x.sector x.value s (con.some_value s)
some_value w v (ways.settles n p b e) g con s = one_some g b.sector b.value s (con.some_value s)
some_value w v x g con s = con.some_value s

need_ended : (w : Part) (n t m c : ℕ) → (w.bitmap m).need c ≡ true → (with_at w.bitmap n (exited (w.bitmap n) (chunk_in w t)) m).need c ≡ true
need_ended w n t m c old = kept w.bitmap n (chunk_in w t) m c old
  where
    kept : (bitmap : ℕ → Bitmap) (n e m c : ℕ) → (bitmap m).need c ≡ true → (with_at bitmap n (exited (bitmap n) e) m).need c ≡ true
    kept bitmap n e m c old = grind (arith, nat_tests)

need_settled : (w : Part) (g : Ghost) → Sound w → Contents w g → (n : ℕ) (p : Passing) (b : Buffer) → Settles w n p b → (m s : ℕ) → (s == b.sector) ≡ false → g.broke m s ≡ true
    → (with_at w.bitmap n (need_met (w.bitmap n) (completes w.geometry b)) m).need (chunk_in w s) ≡ true
need_settled w g sound con n p b e m s other broke = by (m == n) refl
  where
    by : (a : Bool) → (m == n) ≡ a → (if a then need_met (w.bitmap n) (completes w.geometry b) else w.bitmap m).need (chunk_in w s) ≡ true
    by true t = need_when_settled w g sound con n p b e s (con.broke_undecided m s broke) other ∙ ap (λ a. (w.bitmap a).need (chunk_in w s)) (sym (is_same m n t)) ∙ con.broke_need m s broke
    by false t = con.broke_need m s broke

pub broke_live : (w v : Part) (x : Way w v) (g : Ghost) → Sound w → Contents w g → BrokeLive v (ghost_after x g)
broke_live w v (ways.joins n j) g sound con m s = grind (arith, nat_tests, con.broke_live m s)
broke_live w v (ways.ends n f x e) g sound con m s = λ h. con.broke_live m s (unbroken g x.sector x.value m s h).1
broke_live w v (ways.settles n p b e) g sound con m s = λ h. con.broke_live m s (unbroken g b.sector b.value m s h).1
broke_live w v (ways.breaks n f x e) g sound con m s = λ h. elim (broke_here g n x m s h) [
  | inl now ↦ ap w.live now.0 ∙ up_live w sound n e.up
  | inr old ↦ con.broke_live m s old
]
broke_live w v (ways.leaves n p) g sound con m s = grind (arith, nat_tests, con.broke_live m s)
broke_live w v (ways.quits n p) g sound con m s = grind (arith, nat_tests, con.broke_live m s)
broke_live w v (ways.parts n o p) g sound con m s = grind (arith, nat_tests, con.broke_live m s)
broke_live w v (ways.dies n told p) g sound con m s = grind (arith, nat_tests, con.broke_live m s)
broke_live w v x g sound con m s = con.broke_live m s

pub broke_need : (w v : Part) (x : Way w v) (g : Ghost) → Sound w → Contents w g → BrokeNeed v (ghost_after x g)
broke_need w v (ways.finishes n o z meta) g sound con m s = grind (arith, nat_tests, con.broke_need m s)
broke_need w v (ways.hears_roles n roles size o h meta same) g sound con m s = grind (arith, nat_tests, con.broke_need m s)
broke_need w v (ways.comes n j says lost ranges z) g sound con m s = grind (arith, nat_tests, con.broke_need m s)
broke_need w v (ways.leaves n p) g sound con m s = grind (arith, nat_tests, con.broke_need m s)
broke_need w v (ways.quits n p) g sound con m s = grind (arith, nat_tests, con.broke_need m s)
broke_need w v (ways.parts n o p) g sound con m s = grind (arith, nat_tests, con.broke_need m s)
broke_need w v (ways.dies n told p) g sound con m s = grind (arith, nat_tests, con.broke_need m s)
broke_need w v (ways.asks n t j y new x) g sound con m s = grind (arith, nat_tests, con.broke_need m s)
broke_need w v (ways.ends n f x e) g sound con m s = λ h. need_ended w n x.sector m (chunk_in w s) (con.broke_need m s (unbroken g x.sector x.value m s h).1)
broke_need w v (ways.breaks n f x e) g sound con m s = λ h. elim (broke_here g n x m s h) [
  | inl now ↦ subst (λ a. (with_at w.bitmap n (with_need (exited (w.bitmap n) (chunk_in w x.sector)) (chunk_in w x.sector) true) a).need (chunk_in w s) ≡ true) (sym now.0)
      (subst (λ t. (with_at w.bitmap n (with_need (exited (w.bitmap n) (chunk_in w x.sector)) (chunk_in w x.sector) true) n).need (chunk_in w t) ≡ true) (sym now.1) (need_there w.bitmap n (chunk_in w x.sector)))
  | inr old ↦ need_more w.bitmap n (chunk_in w x.sector) m (chunk_in w s) (con.broke_need m s old)
]
broke_need w v (ways.marks n p j t) g sound con m s = grind (arith, nat_tests, con.broke_need m s)
broke_need w v (ways.misses_page n p j left t) g sound con m s = grind (arith, nat_tests, con.broke_need m s)
broke_need w v (ways.clears n q e) g sound con m s = grind (arith, nat_tests, con.broke_need m s)
broke_need w v (ways.settles n p b e) g sound con m s = λ h. let was = unbroken g b.sector b.value m s h in need_settled w g sound con n p b e m s was.0 was.1
broke_need w v (ways.slot_reads n p j r has e) g sound con m s = grind (arith, nat_tests, con.broke_need m s)
broke_need w v (ways.slot_clears n p j r e) g sound con m s = grind (arith, nat_tests, con.broke_need m s)
broke_need w v (ways.misses_slot n p j r left e) g sound con m s = grind (arith, nat_tests, con.broke_need m s)
broke_need w v x g sound con m s = con.broke_need m s

pub broke_undecided : (w v : Part) (x : Way w v) (g : Ghost) → Sound w → Contents w g → BrokeUndecided v (ghost_after x g)
broke_undecided w v (ways.leaves n p) g sound con m s = grind (arith, nat_tests, con.broke_undecided m s)
broke_undecided w v (ways.quits n p) g sound con m s = grind (arith, nat_tests, con.broke_undecided m s)
broke_undecided w v (ways.parts n o p) g sound con m s = grind (arith, nat_tests, con.broke_undecided m s)
broke_undecided w v (ways.dies n told p) g sound con m s = grind (arith, nat_tests, con.broke_undecided m s)
broke_undecided w v (ways.outs n f j x t) g sound con m s = λ h. still_open g n f x s (con.broke_undecided m s h)
broke_undecided w v (ways.misses n f j x left t) g sound con m s = λ h. still_open g n f x s (con.broke_undecided m s h)
broke_undecided w v (ways.ends n f x e) g sound con m s = λ h. let was = unbroken g x.sector x.value m s h in ap is_open (value_kept g x.sector x.value s was.0) ∙ con.broke_undecided m s was.1
broke_undecided w v (ways.settles n p b e) g sound con m s = λ h. let was = unbroken g b.sector b.value m s h in ap is_open (value_kept g b.sector b.value s was.0) ∙ con.broke_undecided m s was.1
broke_undecided w v (ways.breaks n f x e) g sound con m s = λ h. elim (broke_here g n x m s h) [
  | inl now ↦ con.started_undecided n f s (ap (λ t. writes_at (write_of w n f) t) now.1 ∙ write_there w n f x e.write) (ap has_started e.write ∙ now.2)
  | inr old ↦ con.broke_undecided m s old
]
broke_undecided w v x g sound con m s = con.broke_undecided m s
