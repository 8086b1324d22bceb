-- Each way keeps that the keeper's bit stands on covered legs, where the chunk isn't to be copied.
use Rattle.std.proofs.Common.{◌≡◌, ℕ, suc, ◌==◌, ◌<◌, ◌≤◌, ◌+◌, ◌*◌, if◌then◌else◌, Bool, true, false, Option, Some, None, [], ◌∷◌, refl, sym, subst, ◌∙◌, arith}
use Rattle.std.specs.Prelude.{option_map, nat_lt}
use Rattle.std.proofs.Math.Nat.{mul-le-mul_right, suc-mul}
use Rattle.std.proofs.lemmas.Bool.Decides.{nat_tests}
use Rattle.dlm_modes.specs.Points.{with_at}
use Rattle.mdc_types.specs.Geometry.{Sizes, chunks_of, nodes_of, page_of, pages_of}
use Rattle.slot_gathering.specs.Gatherings.{all_pages}
use Rattle.mdc_types.specs.declared.numbers.Sector.{Sector}
use Rattle.resync_worker.specs.Copying.{Passing, begun, restarted, filled, copied, settled_at, covering_only}
use Rattle.resync_worker.specs.declared.buffer.Buffer.{Buffer}
use Rattle.cluster_model.specs.State.{Copy}
use Rattle.laws_roles.proofs.Parts as roles
use Rattle.storage_ways.proofs.Parts.{Part, chunk_in, covers, todo_in}
use Rattle.storage_ways.proofs.Sound.{Sound}
use Rattle.storage_ways.proofs.Ways.{Way, PassesAgain, Settles, pass_with}
use Rattle.storage_ways.proofs.Ways as ways
use Rattle.storage_ways.proofs.Roled.{covers_target, read_good}
use Rattle.laws_writes.proofs.Ghosts.{Ghost, undecided, is_open, with_value, ghost_after}
use Rattle.laws_writes.proofs.Bits.{Bits}
use Rattle.laws_writes.proofs.Contents.{Contents}
use Rattle.laws_writes.proofs.Pages.{Pages}
use Rattle.laws_writes.proofs.Intent.{Intents, CoveredIntent, is_gathered}
use Rattle.laws_writes.proofs.Heirs.{heir_bit, up_inside}
use Rattle.laws_writes.proofs.KeeperSteps.{live_up}
use Rattle.laws_writes.proofs.MarkSteps.{tried_bit, written_bit}
use Rattle.laws_writes.proofs.Places.{chunk_lt, page_lt}
use Rattle.laws_writes.proofs.Settling.{todo_when_settled}

-- What a pass covers, with nothing of the chunk left to copy, after a change of it.

abbrev Left : Option Passing → ℕ → ℕ → Type 0
Left p l c = (roles.covered_by p l ≡ true) × (todo_in p c ≡ false)

abbrev Marks : Option Passing → ℕ → ℕ → Bool → Bool → Type 0
Marks p l c two bit = roles.covered_by p l ≡ true → todo_in p c ≡ false → two ≡ true → bit ≡ true

left_at : (w : Part) (n m l c : ℕ) (new : Copy) → (Left new.pass l c → Left (w.copy n).pass l c) → Left (with_at w.copy n new m).pass l c → Left (w.copy m).pass l c
left_at w n m l c new h = by (m == n) refl
  where
    by : (b : Bool) → (m == n) ≡ b → Left (if b then new else w.copy m).pass l c → Left (w.copy m).pass l c
    by true e x = let same : n ≡ m = grind (arith, nat_tests) in subst (λ k. Left (w.copy k).pass l c) same (h x)
    by false e x = x

left_covering : (p : Option Passing) (legs : ℕ → Bool) (l c : ℕ) → Left (option_map (λ x. covering_only x legs) p) l c → Left p l c
left_covering None legs l c h = h
left_covering (Some p) legs l c h = (grind arith, h.1)

left_restarted : (p : Option Passing) (l c : ℕ) → Left (option_map restarted p) l c → Left p l c
left_restarted None l c h = h
left_restarted (Some p) l c h = h

left_filled : (p : Option Passing) (l c s k : ℕ) (v : Sector) → Left (option_map (λ q. filled q s v k) p) l c → Left p l c
left_filled None l c s k v h = h
left_filled (Some p) l c s k v h = h

left_copied : (p : Option Passing) (l c k : ℕ) → Left (option_map (λ q. copied q k) p) l c → Left p l c
left_copied None l c k h = h
left_copied (Some p) l c k h = h

left_settled : (g : Sizes) (x : Option Passing) (p : Passing) (b : Buffer) (l c : ℕ) → x ≡ Some p → (settled_at g p b).todo c ≡ p.todo c → Left (option_map (λ q. settled_at g q b) x) l c → Left x l c
left_settled g None p b l c is same h = h
left_settled g (Some q) p b l c is same h =
    let whole : q ≡ p = cc in
    (h.0, sym (subst (λ z. (settled_at g z b).todo c ≡ z.todo c) (sym whole) same) ∙ h.1)

pub true_not_false : false ≡ true → ⊥
true_not_false e = cc

not_left : (c n : ℕ) → c < n → nat_lt c n ≡ false → ⊥
not_left c n lt e = grind (arith, nat_tests)

-- A pass over what was gathered.

-- all pages were gathered, so the keeper's was
all_past : (g : Sizes) (k c next : ℕ) → k < nodes_of g → page_of c < pages_of g → all_pages g ≤ next → k * pages_of g + page_of c < next
all_past g k c next slot page all =
    let rows : suc k * pages_of g ≤ nodes_of g * pages_of g = mul-le-mul_right (pages_of g) slot in
    let row : suc k * pages_of g ≡ k * pages_of g + pages_of g = suc-mul k (pages_of g) in
    omega arith

again_bit : (w : Part) (g : Ghost) (n l t : ℕ) → Sound w → Intents w g → PassesAgain w n l → is_gathered w n (chunk_in w t) ≡ false → undecided g t ≡ true
    → w.bit (g.keeper t) (chunk_in w t) l ≡ true
again_bit w g n l t s i x fresh two =
    let good = read_good w s n (up_inside (w.state n) x.passes.up) in
    let bit = i.keeper_bit t _ two good in
    let slot = s.within.slots (g.keeper t) (chunk_in w t) _ bit in
    let page = page_lt w.geometry (chunk_in w t) (s.within.bits (g.keeper t) (chunk_in w t) _ bit) in
    i.again_intent n l t x.again two fresh (all_past w.geometry (g.keeper t) (chunk_in w t) _ slot page x.all)

again_covered : (w : Part) (g : Ghost) (n j m l t : ℕ) → Sound w → Intents w g → PassesAgain w n j
    → Marks (with_at w.copy n (record (w.copy n) { pass = Some (begun (w.adding n).gathering.gathered (λ k. k == j)) }) m).pass l (chunk_in w t) (undecided g t) (w.bit (g.keeper t) (chunk_in w t) l)
again_covered w g n j m l t s i x = by (m == n) refl
  where
    by : (b : Bool) → (m == n) ≡ b
        → Marks (if b then record (w.copy n) { pass = Some (begun (w.adding n).gathering.gathered (λ k. k == j)) } else w.copy m).pass l (chunk_in w t) (undecided g t) (w.bit (g.keeper t) (chunk_in w t) l)
    by true e h d two = let same : j ≡ l = grind (arith, nat_tests) in subst (λ k. w.bit (g.keeper t) (chunk_in w t) k ≡ true) same (again_bit w g n j t s i x d two)
    by false e h d two = i.covered_intent m l t h d two

-- A sector that is settled is decided, and the chunks of others stay to be copied.
settled_left : (w : Part) (g : Ghost) (n : ℕ) (p : Passing) (u : Buffer) → Settles w n p u → (m l t : ℕ) → Sound w → Contents w g → Intents w g
    → Marks (pass_with w n (λ q. settled_at w.geometry q u) m).pass l (chunk_in w t) (undecided (with_value g u.sector u.value) t) (w.bit (g.keeper t) (chunk_in w t) l)
settled_left w g n p u x m l t s c i = by (t == u.sector) refl
  where
    by : (b : Bool) → (t == u.sector) ≡ b
        → Marks (pass_with w n (λ q. settled_at w.geometry q u) m).pass l (chunk_in w t) (is_open (if b then u.value ∷ [] else g.values t)) (w.bit (g.keeper t) (chunk_in w t) l)
    by true e h d two = cc
    by false e h d two =
        let y = left_at w n m l (chunk_in w t) _ (left_settled w.geometry (w.copy n).pass p u l (chunk_in w t) x.buffers.pass (todo_when_settled w g s c n p u x t two e)) (h, d) in
        i.covered_intent m l t y.0 y.1 two

pub covered_intent : (w v : Part) (x : Way w v) (g : Ghost) → Sound w → Bits w → Contents w g → Pages w → Intents w g → CoveredIntent v (ghost_after x g)
covered_intent w v (ways.shuts n r o told x e) g s b c p i m l t = λ h d. let y = left_at w n m l (chunk_in w t) _ (left_restarted (w.copy n).pass l (chunk_in w t)) (h, d) in i.covered_intent m l t y.0 y.1
covered_intent w v (ways.opens n r o x e) g s b c p i m l t = λ h d. let y = left_at w n m l (chunk_in w t) _ (λ z. z) (h, d) in i.covered_intent m l t y.0 y.1
covered_intent w v (ways.finishes n o x e) g s b c p i m l t = λ h d. let y = left_at w n m l (chunk_in w t) _ (left_covering (w.copy n).pass _ l (chunk_in w t)) (h, d) in i.covered_intent m l t y.0 y.1
covered_intent w v (ways.hears_roles n roles size o x q e) g s b c p i m l t = λ h d. let y = left_at w n m l (chunk_in w t) _ (left_covering (w.copy n).pass _ l (chunk_in w t)) (h, d) in i.covered_intent m l t y.0 y.1
covered_intent w v (ways.comes n k says lost ranges x) g s b c p i m l t = λ h d. let y = left_at w n m l (chunk_in w t) _ (left_covering (w.copy n).pass _ l (chunk_in w t)) (h, d) in i.covered_intent m l t y.0 y.1
covered_intent w v (ways.leaves n x) g s b c p i m l t = grind (arith, nat_tests, i.covered_intent m l t)
covered_intent w v (ways.quits n x) g s b c p i m l t = grind (arith, nat_tests, i.covered_intent m l t)
covered_intent w v (ways.parts n o x) g s b c p i m l t = grind (arith, nat_tests, i.covered_intent m l t)
covered_intent w v (ways.dies n told x) g s b c p i m l t = grind (arith, nat_tests, i.covered_intent m l t)
covered_intent w v (ways.outs n k q x e) g s b c p i m l t = grind (arith, nat_tests, i.covered_intent m l t, tried_bit w n k q x b e t l, λ (h : covers w m l ≡ true). covers_target w s m n l h e.up e.acked)
covered_intent w v (ways.misses n k q x left e) g s b c p i m l t = grind (arith, nat_tests, i.covered_intent m l t, tried_bit w n k q x b e t l, λ (h : covers w m l ≡ true). covers_target w s m n l h e.up e.acked)
covered_intent w v (ways.ends n k x e) g s b c p i m l t = grind (arith, nat_tests, i.covered_intent m l t)
covered_intent w v (ways.marks n q j x) g s b c p i m l t = λ h d two. written_bit w g n q j t l s b i two (live_up w s n x.up) (i.covered_intent m l t h d two)
covered_intent w v (ways.misses_page n q j left x) g s b c p i m l t = λ h d two. grind (arith, i.covered_intent m l t h d two, written_bit w g n q j t l s b i two (live_up w s n x.up) (i.covered_intent m l t h d two))
covered_intent w v (ways.turns n up asked stays) g s b c p i m l t = λ h d. let y = left_at w n m l (chunk_in w t) _ (λ z. z) (h, d) in i.covered_intent m l t y.0 y.1
covered_intent w v (ways.holds_turn n up asked free) g s b c p i m l t = λ h d. let y = left_at w n m l (chunk_in w t) _ (λ z. z) (h, d) in i.covered_intent m l t y.0 y.1
covered_intent w v (ways.passes_own n x) g s b c p i m l t = grind (arith, nat_tests, i.covered_intent m l t)
covered_intent w v (ways.passes_full n x) g s b c p i m l t = λ h d two. let y = left_at w n m l (chunk_in w t) _ (λ z. absurd (not_left (chunk_in w t) (chunks_of w.geometry) (chunk_lt w.geometry t s.within.geometry (c.undecided_within t two)) z.1)) (h, d) in i.covered_intent m l t y.0 y.1 two
covered_intent w v (ways.passes_again n j x) g s b c p i m l t = again_covered w g n j m l t s i x
covered_intent w v (ways.fills n q k u y r x) g s b c p i m l t = λ h d. let y = left_at w n m l (chunk_in w t) _ (left_filled (w.copy n).pass l (chunk_in w t) q k u) (h, d) in i.covered_intent m l t y.0 y.1
covered_intent w v (ways.copies n k y u x) g s b c p i m l t = λ h d. let y = left_at w n m l (chunk_in w t) _ (left_copied (w.copy n).pass l (chunk_in w t) k) (h, d) in i.covered_intent m l t y.0 y.1
covered_intent w v (ways.ends_pass n x) g s b c p i m l t = λ h d. let y = left_at w n m l (chunk_in w t) _ (λ z. absurd (true_not_false z.0)) (h, d) in i.covered_intent m l t y.0 y.1
covered_intent w v (ways.slot_clears n q j r x) g s b c p i m l t = grind (arith, nat_tests, i.covered_intent m l t, heir_bit w g s p i b n t q j l r x, λ (h : covers w m l ≡ true). covers_target w s m n l h x.all.opened.up x.all.acked, x.all.opened.other)
covered_intent w v (ways.misses_slot n q j r left x) g s b c p i m l t = grind (arith, nat_tests, i.covered_intent m l t, heir_bit w g s p i b n t q j l r x, λ (h : covers w m l ≡ true). covers_target w s m n l h x.all.opened.up x.all.acked, x.all.opened.other)
covered_intent w v (ways.settles n y u e) g s b c p i m l t = settled_left w g n y u e m l t s c i
covered_intent w v x g s b c p i m l t = i.covered_intent m l t
