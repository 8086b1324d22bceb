-- Ways that count no moment leave the roles that were agreed on last.
use Rattle.std.proofs.Common.{◌≡◌, ℕ, suc, ◌≤◌, refl, ◌∙◌, arith}
use Rattle.storage_ways.proofs.Parts.{Part}
use Rattle.storage_ways.proofs.Ways as ways
use Rattle.storage_ways.proofs.Ways.{Way, Ways}

no_more : {P : Type 0} (k : ℕ) → suc k ≡ k → P
no_more k e = absurd (omega (arith, e))

one_more : (k : ℕ) → k ≤ suc k
one_more k = omega arith

no_less : (k : ℕ) → k ≤ k
no_less k = omega arith

grows : (w v : Part) (x : Way w v) → w.moments ≤ v.moments
grows w v (ways.offers n o x) = one_more w.moments
grows w v (ways.opens n r o x e) = one_more w.moments
grows w v (ways.announces n o x a b c) = one_more w.moments
grows w v (ways.finishes n o x e) = one_more w.moments
grows w v (ways.parts n o x) = one_more w.moments
grows w v (ways.dies n told x) = one_more w.moments
grows w v (ways.settles n p b x) = one_more w.moments
grows w v x = no_less w.moments

grow : (w v : Part) (xs : Ways w v) → w.moments ≤ v.moments
grow w v ways.none = no_less w.moments
grow w v (ways.more {u = u} xs s x) = let a = grow w u xs in let b = grows u v x in omega (arith, a, b)

-- of ways that count none, neither the first nor the last does
pub calm_first : (w u v : Part) (xs : Ways w u) (x : Way u v) → v.moments ≡ w.moments → u.moments ≡ w.moments
calm_first w u v xs x calm = let a = grow w u xs in let b = grows u v x in omega (arith, a, b, calm)

calm_last : (w u v : Part) (xs : Ways w u) (x : Way u v) → v.moments ≡ w.moments → v.moments ≡ u.moments
calm_last w u v xs x calm = let a = grow w u xs in let b = grows u v x in omega (arith, a, b, calm)

same_agreed : (w v : Part) (x : Way w v) → v.moments ≡ w.moments → v.ghost.agreed ≡ w.ghost.agreed
same_agreed w v (ways.offers n o x) calm = no_more w.moments calm
same_agreed w v (ways.finishes n o x e) calm = no_more w.moments calm
same_agreed w v x calm = refl

pub agreed_over : (w v : Part) (xs : Ways w v) → v.moments ≡ w.moments → v.ghost.agreed ≡ w.ghost.agreed
agreed_over w v ways.none calm = refl
agreed_over w v (ways.more {u = u} xs s x) calm =
    same_agreed u v x (calm_last w u v xs x calm) ∙ agreed_over w u xs (calm_first w u v xs x calm)
