-- Each way keeps that the keeper's bit stands on a leg that is added again, where its page was read
-- and the chunk not gathered.
use Rattle.std.proofs.Common.{◌≡◌, ◌⊎◌, inl, inr, ℕ, ◌==◌, ◌<◌, ◌+◌, ◌/◌, ◌%◌, ◌&&◌, ◌||◌, if◌then◌else◌, Bool, true, false, refl, sym, ap, subst, ◌∙◌, arith}
use Rattle.std.proofs.lemmas.Bool.Decides.{nat_tests}
use Rattle.std.proofs.lemmas.Nat.{div-mul-add, mod-mul-add}
use Rattle.dlm_modes.specs.Points.{with_at}
use Rattle.mdc_types.specs.Geometry.{page_of, pages_of}
use Rattle.mdc_types.specs.declared.events.Wish.{Wish}
use Rattle.slot_gathering.specs.Gatherings.{Gathering}
use Rattle.disk_addition.specs.Additions.{after}
use Rattle.disk_addition.specs.declared.addition.Addition.{Addition}
use Rattle.disk_addition.specs.declared.addition.Addition.TheVariants.{Again}
use Rattle.cluster_model.specs.State.{Adding}
use Rattle.cluster_model.specs.Finishing.{adding_after, gathering_after}
use Rattle.cluster_model.specs.Gathering.{is_again_of}
use Rattle.storage_ways.proofs.Parts.{Part, chunk_in}
use Rattle.storage_ways.proofs.Sound.{Sound}
use Rattle.storage_ways.proofs.Ways.{Way, Gathers}
use Rattle.storage_ways.proofs.Ways as ways
use Rattle.storage_ways.proofs.Roled.{again_target, up_served_good}
use Rattle.laws_writes.proofs.Ghosts.{Ghost, undecided, ghost_after}
use Rattle.laws_writes.proofs.Bits.{Bits}
use Rattle.laws_writes.proofs.Contents.{Contents}
use Rattle.laws_writes.proofs.Pages.{Pages}
use Rattle.laws_writes.proofs.Intent.{Intents, AgainIntent, place_of}
use Rattle.laws_writes.proofs.Heirs.{heir_bit}
use Rattle.laws_writes.proofs.KeeperSteps.{live_up, keeper}
use Rattle.laws_writes.proofs.NeedSteps.{keeper_need, keeper_read}
use Rattle.laws_writes.proofs.CoverSteps.{covered_intent, true_not_false}
use Rattle.laws_writes.proofs.MarkSteps.{tried_bit, written_bit, keeper_bit}
use Rattle.laws_writes.proofs.Places.{page_lt}

-- the leg is added again, and of the page at this place the chunk wasn't gathered
abbrev Past : Adding → ℕ → ℕ → ℕ → Type 0
Past a l c place = (is_again_of a.addition l ≡ true) × (a.gathering.gathered c ≡ false) × (place < a.gathering.next)

past_at : (w : Part) (n m l c place : ℕ) (new : Adding) → (Past new l c place → Past (w.adding n) l c place) → Past (with_at w.adding n new m) l c place → Past (w.adding m) l c place
past_at w n m l c place new h = by (m == n) refl
  where
    by : (b : Bool) → (m == n) ≡ b → Past (if b then new else w.adding m) l c place → Past (w.adding m) l c place
    by true e x = let same : n ≡ m = grind (arith, nat_tests) in subst (λ k. Past (w.adding k) l c place) same (h x)
    by false e x = x

-- nothing is gathered at first
none_past : (a : Addition) (g : Gathering) (l place : ℕ) → is_again_of a l ≡ true → place < (gathering_after a g).next → ⊥
none_past (Again j) g l place e lt = omega arith
none_past a g l place e lt = cc

past_after : (w : Part) (n l c place : ℕ) (a : Adding) (wish : Wish) → Past (adding_after a wish) l c place → Past (w.adding n) l c place
past_after w n l c place a wish h = absurd (none_past (after a.addition wish) a.gathering l place h.0 h.2)

-- Of the page that is read now, the keeper's chunk is gathered.

due : (g : Ghost) (w : Part) (k c next : ℕ) → place_of w k c ≡ next → page_of c < pages_of w.geometry → (k ≡ next / pages_of w.geometry) × (page_of c ≡ next % pages_of w.geometry)
due g w k c next is lt = (
  sym (div-mul-add k (pages_of w.geometry) (page_of c) lt) ∙ ap (λ x. x / pages_of w.geometry) is,
  sym (mod-mul-add k (pages_of w.geometry) (page_of c) lt) ∙ ap (λ x. x % pages_of w.geometry) is,
)

or_none : (a b : Bool) → (a || b) ≡ false → (a ≡ false) × (b ≡ false)
or_none a b e = grind arith

now_gathered : (w : Part) (g : Ghost) (n k p l t : ℕ) (has : ℕ → Bool) → Sound w → Intents w g → Gathers w n k p l has → undecided g t ≡ true → has (chunk_in w t) ≡ false
    → place_of w (g.keeper t) (chunk_in w t) ≡ (w.adding n).gathering.next → ⊥
now_gathered w g n k p l t has s i x two none is =
    let bit = i.keeper_bit t l two (up_served_good w s n l x.up x.works) in
    let lt = page_lt w.geometry (chunk_in w t) (s.within.bits (g.keeper t) (chunk_in w t) l bit) in
    let at = due g w (g.keeper t) (chunk_in w t) (w.adding n).gathering.next is lt in
    let slot : g.keeper t ≡ k = at.0 ∙ sym x.slot in
    let page : (page_of (chunk_in w t) == p) ≡ true = let same : page_of (chunk_in w t) ≡ p = at.1 ∙ sym x.page in grind (arith, nat_tests) in
    let there : w.bit k (chunk_in w t) l ≡ true = subst (λ z. w.bit z (chunk_in w t) l ≡ true) slot bit in
    let found = x.bits (chunk_in w t) in
    not_both (page_of (chunk_in w t) == p) (w.bit k (chunk_in w t) l) (has (chunk_in w t)) page there found none
  where
    not_both : (a b h : Bool) → a ≡ true → b ≡ true → h ≡ (a && b) → h ≡ false → ⊥
    not_both a b h e f is none = grind arith

past_gathered : (w : Part) (g : Ghost) (n k p j t l : ℕ) (has : ℕ → Bool) → Sound w → Intents w g → Gathers w n k p j has → undecided g t ≡ true
    → Past (record (w.adding n) { gathering = record { next = (w.adding n).gathering.next + 1; gathered = λ c. (w.adding n).gathering.gathered c || has c } }) l (chunk_in w t) (place_of w (g.keeper t) (chunk_in w t))
    → Past (w.adding n) l (chunk_in w t) (place_of w (g.keeper t) (chunk_in w t))
past_gathered w g n k p j t l has s i x two h =
    let both = or_none ((w.adding n).gathering.gathered (chunk_in w t)) (has (chunk_in w t)) h.1 in (
      h.0,
      both.0,
      elim (le_or (place_of w (g.keeper t) (chunk_in w t)) (w.adding n).gathering.next h.2) [
        | inl lt ↦ lt
        | inr is ↦ absurd (now_gathered w g n k p j t has s i x two both.1 is)
      ],
    )
  where
    le_or : (a b : ℕ) → a < b + 1 → (a < b) ⊎ (a ≡ b)
    le_or a b lt = grind (arith, nat_tests)

pub again_intent : (w v : Part) (x : Way w v) (g : Ghost) → Sound w → Bits w → Contents w g → Pages w → Intents w g → AgainIntent v (ghost_after x g)
again_intent w v (ways.announces n o x known other q) g s b c p i m l t = λ a two d r. let y = past_at w n m l (chunk_in w t) (place_of w (g.keeper t) (chunk_in w t)) _ (past_after w n l _ _ (w.adding n) o.wish) (a, d, r) in i.again_intent m l t y.0 two y.1 y.2
again_intent w v (ways.finishes n o x e) g s b c p i m l t = λ a two d r. let y = past_at w n m l (chunk_in w t) (place_of w (g.keeper t) (chunk_in w t)) _ (past_after w n l _ _ (w.adding n) o.wish) (a, d, r) in i.again_intent m l t y.0 two y.1 y.2
again_intent w v (ways.hears_roles n roles size o x q e) g s b c p i m l t = λ a two d r. let y = past_at w n m l (chunk_in w t) (place_of w (g.keeper t) (chunk_in w t)) _ (λ z. absurd (true_not_false z.0)) (a, d, r) in i.again_intent m l t y.0 two y.1 y.2
again_intent w v (ways.leaves n x) g s b c p i m l t = λ a two d r. let y = past_at w n m l (chunk_in w t) (place_of w (g.keeper t) (chunk_in w t)) _ (λ z. absurd (true_not_false z.0)) (a, d, r) in i.again_intent m l t y.0 two y.1 y.2
again_intent w v (ways.quits n x) g s b c p i m l t = λ a two d r. let y = past_at w n m l (chunk_in w t) (place_of w (g.keeper t) (chunk_in w t)) _ (λ z. absurd (true_not_false z.0)) (a, d, r) in i.again_intent m l t y.0 two y.1 y.2
again_intent w v (ways.parts n o x) g s b c p i m l t = λ a two d r. let y = past_at w n m l (chunk_in w t) (place_of w (g.keeper t) (chunk_in w t)) _ (λ z. absurd (true_not_false z.0)) (a, d, r) in i.again_intent m l t y.0 two y.1 y.2
again_intent w v (ways.dies n told x) g s b c p i m l t = λ a two d r. let y = past_at w n m l (chunk_in w t) (place_of w (g.keeper t) (chunk_in w t)) _ (λ z. absurd (true_not_false z.0)) (a, d, r) in i.again_intent m l t y.0 two y.1 y.2
again_intent w v (ways.outs n k q x e) g s b c p i m l t = grind (arith, nat_tests, i.again_intent m l t, tried_bit w n k q x b e t l, λ (h : is_again_of (w.adding m).addition l ≡ true). again_target w s m n l h e.up e.acked)
again_intent w v (ways.misses n k q x left e) g s b c p i m l t = grind (arith, nat_tests, i.again_intent m l t, tried_bit w n k q x b e t l, λ (h : is_again_of (w.adding m).addition l ≡ true). again_target w s m n l h e.up e.acked)
again_intent w v (ways.ends n k x e) g s b c p i m l t = grind (arith, nat_tests, i.again_intent m l t)
again_intent w v (ways.settles n q y e) g s b c p i m l t = grind (arith, nat_tests, i.again_intent m l t)
again_intent w v (ways.marks n q j x) g s b c p i m l t = λ a two d r. written_bit w g n q j t l s b i two (live_up w s n x.up) (i.again_intent m l t a two d r)
again_intent w v (ways.misses_page n q j left x) g s b c p i m l t = λ a two d r. grind (arith, i.again_intent m l t a two d r, written_bit w g n q j t l s b i two (live_up w s n x.up) (i.again_intent m l t a two d r))
again_intent w v (ways.gathers n k q j has x) g s b c p i m l t = λ a two d r. let y = past_at w n m l (chunk_in w t) (place_of w (g.keeper t) (chunk_in w t)) _ (past_gathered w g n k q j t l has s i x two) (a, d, r) in i.again_intent m l t y.0 two y.1 y.2
again_intent w v (ways.slot_clears n q j r x) g s b c p i m l t = grind (arith, nat_tests, i.again_intent m l t, heir_bit w g s p i b n t q j l r x, λ (h : is_again_of (w.adding m).addition l ≡ true). again_target w s m n l h x.all.opened.up x.all.acked, x.all.opened.other)
again_intent w v (ways.misses_slot n q j r left x) g s b c p i m l t = grind (arith, nat_tests, i.again_intent m l t, heir_bit w g s p i b n t q j l r x, λ (h : is_again_of (w.adding m).addition l ≡ true). again_target w s m n l h x.all.opened.up x.all.acked, x.all.opened.other)
again_intent w v x g s b c p i m l t = i.again_intent m l t

pub intents_step : (w v : Part) (x : Way w v) (g : Ghost) → Sound w → Bits w → Contents w g → Pages w → Intents w g → Intents v (ghost_after x g)
intents_step w v x g s b c p i = record {
  keeper = keeper w v x g s b c p i;
  keeper_bit = keeper_bit w v x g s b c p i;
  keeper_need = keeper_need w v x g s b c p i;
  keeper_read = keeper_read w v x g s b c p i;
  covered_intent = covered_intent w v x g s b c p i;
  again_intent = again_intent w v x g s b c p i;
}
