-- Each way keeps who answers for the open writes of a sector, and that he needs its chunk.
use Rattle.std.proofs.Common.{◌≡◌, ℕ, ◌==◌, not, Bool, true, false, refl, ap, ◌∙◌, arith}
use Rattle.std.proofs.lemmas.Bool.Decides.{nat_tests}
use Rattle.mdc_types.specs.declared.roles.NodeState.{NodeState}
use Rattle.mdc_types.specs.declared.roles.NodeState.TheVariants as states
use Rattle.cluster_model.specs.Guards.{is_out}
use Rattle.cluster_model.specs.Phases.{is_up}
use Rattle.storage_ways.proofs.Parts.{Part, chunk_in}
use Rattle.storage_ways.proofs.Sound.{Sound}
use Rattle.storage_ways.proofs.Ways.{Way}
use Rattle.storage_ways.proofs.Ways as ways
use Rattle.laws_writes.proofs.Ghosts.{Ghost, undecided, ghost_after}
use Rattle.laws_writes.proofs.Bits.{Bits}
use Rattle.laws_writes.proofs.Contents.{Contents}
use Rattle.laws_writes.proofs.Pages.{Pages}
use Rattle.laws_writes.proofs.Intent.{Intents, Keeper}
use Rattle.laws_writes.proofs.Heirs.{heir_found, heir_need}

up_live : (x : NodeState) (b : Bool) → is_up x ≡ true → b ≡ not (is_out x) → b ≡ true
up_live states.Up b e is = is
up_live x b e is = cc

pub live_up : (w : Part) → Sound w → (n : ℕ) → is_up (w.state n) ≡ true → w.live n ≡ true
live_up w s n up = up_live (w.state n) (w.live n) up (s.phases.live n)

-- a live keeper has the chunk in its set
pub keeper_set : (w : Part) (g : Ghost) → Bits w → Intents w g → (t : ℕ) → undecided g t ≡ true → w.live (g.keeper t) ≡ true
    → (w.bitmap (g.keeper t)).set (chunk_in w t) ≡ true
keeper_set w g b i t two live = by ((w.bitmap (g.keeper t)).need (chunk_in w t)) refl
  where
    by : (x : Bool) → (w.bitmap (g.keeper t)).need (chunk_in w t) ≡ x → (w.bitmap (g.keeper t)).set (chunk_in w t) ≡ true
    by true e = b.need_set (g.keeper t) (chunk_in w t) e
    by false e = let why = i.keeper_need t two live in b.write_set (g.keeper t) (g.number t) t (grind arith)

-- who has nothing set, and is live, is nobody's keeper
no_keeper : (w : Part) (g : Ghost) → Bits w → Intents w g → (n t : ℕ) → w.live n ≡ true → ((c : ℕ) → (w.bitmap n).set c ≡ false) → undecided g t ≡ true → (g.keeper t == n) ≡ false
no_keeper w g b i n t live clean two = by (g.keeper t == n) refl
  where
    by : (x : Bool) → (g.keeper t == n) ≡ x → x ≡ false
    by true e =
        let same : g.keeper t ≡ n = grind (arith, nat_tests) in
        let set = keeper_set w g b i t two (ap w.live same ∙ live) in
        let none = ap (λ k. (w.bitmap k).set (chunk_in w t)) same ∙ clean (chunk_in w t) in cc
    by false e = refl

pub keeper : (w v : Part) (x : Way w v) (g : Ghost) → Sound w → Bits w → Contents w g → Pages w → Intents w g → Keeper v (ghost_after x g)
keeper w v (ways.joins n x) g s b c p i t = grind (arith, nat_tests, i.keeper t)
keeper w v (ways.leaves n x) g s b c p i t = grind (arith, nat_tests, i.keeper t, no_keeper w g b i n t x.going.live x.clean)
keeper w v (ways.quits n x) g s b c p i t = grind (arith, nat_tests, i.keeper t, no_keeper w g b i n t x.going.live x.clean)
keeper w v (ways.parts n o x) g s b c p i t = grind (arith, nat_tests, i.keeper t)
keeper w v (ways.dies n told x) g s b c p i t = grind (arith, nat_tests, i.keeper t)
keeper w v (ways.outs n k l x e) g s b c p i t = grind (arith, nat_tests, i.keeper t, live_up w s n e.up)
keeper w v (ways.misses n k l x left e) g s b c p i t = grind (arith, nat_tests, i.keeper t, live_up w s n e.up)
keeper w v (ways.ends n k x e) g s b c p i t = grind (arith, nat_tests, i.keeper t)
keeper w v (ways.settles n q y e) g s b c p i t = grind (arith, nat_tests, i.keeper t)
keeper w v (ways.slot_clears n q l r x) g s b c p i t = grind (arith, nat_tests, i.keeper t, live_up w s n x.all.opened.up)
keeper w v (ways.misses_slot n q l r left x) g s b c p i t = grind (arith, nat_tests, i.keeper t, live_up w s n x.all.opened.up)
keeper w v (ways.ends_recovery n r x) g s b c p i t = grind (arith, nat_tests, i.keeper t, heir_found w g s p i n t r x.all, heir_need w g s p i n t r x.all, x.met (chunk_in w t))
keeper w v x g s b c p i t = i.keeper t
