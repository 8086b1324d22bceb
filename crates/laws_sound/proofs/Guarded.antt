-- What a row tells whose guards refuse nothing.
use Rattle.std.proofs.Common.{◌≡◌, ◌<◌, ◌≤◌, ℕ, Bool, true, false, not, List, [], ◌∷◌, Option, Some, None, refl, arith}
use Rattle.std.specs.Prelude.{is_some, nat_lt}
use Rattle.std.proofs.lemmas.Bool.Decides.{nat_tests}
use Rattle.dlm_modes.specs.Guards.{unless, first_of}
use Rattle.mdc_types.specs.Geometry.{nodes_of}
use Rattle.mdc_types.specs.declared.refusals.Refusal.{Refusal}
use Rattle.mdc_types.specs.declared.refusals.Refusal.TheVariants.{NoNode, NotUp}
use Rattle.cluster_model.specs.State.{Core, sizes}
use Rattle.cluster_model.specs.Guards.{refused_by, found_or, no_node, not_fenced, of_live, is_out}

pub first_none : {R : Type 0} (g : Option R) (gs : List (Option R)) → first_of (g ∷ gs) ≡ None → (g ≡ None) × (first_of gs ≡ None)
first_none None gs e = (refl, e)
first_none (Some r) gs e = cc

pub unless_none : {R : Type 0} (b : Bool) (r : R) → unless b r ≡ None → b ≡ true
unless_none true r e = refl
unless_none false r e = cc

pub refused_none : {A : Type 0} (f : A → Refusal) (x : Option A) → refused_by f x ≡ None → x ≡ None
refused_none f None e = refl
refused_none f (Some a) e = cc

pub found_none : {A : Type 0} (x : Option A) (r : Refusal) → found_or x r ≡ None → is_some x ≡ true
found_none None r e = cc
found_none (Some a) r e = refl

-- the first guard of a list refuses nothing, by its test
pub tested : (b : Bool) (r : Refusal) (gs : List (Option Refusal)) → first_of (unless b r ∷ gs) ≡ None → (b ≡ true) × (first_of gs ≡ None)
tested true r gs e = (refl, e)
tested false r gs e = cc

-- each guard of a list refuses nothing
abbrev pub AllNone : {R : Type 0} → List (Option R) → Type 0
AllNone [] = Unit {0}
AllNone (g ∷ gs) = (g ≡ None) × AllNone gs

pub all_none : {R : Type 0} (gs : List (Option R)) → first_of gs ≡ None → AllNone gs
all_none [] e = tt
all_none (None ∷ gs) e = (refl, all_none gs e)
all_none (Some r ∷ gs) e = cc

below : (n k : ℕ) → nat_lt n k ≡ true → k ≤ 16 → n < 16
below n k e le = grind (arith, nat_tests)

not_false : (b : Bool) → not b ≡ true → b ≡ false
not_false b e = grind arith

pub a_node : (core : Core) (n : ℕ) → nodes_of (sizes core) ≤ 16 → no_node core n ≡ None → n < 16
a_node core n le e = below n (nodes_of (sizes core)) (unless_none (nat_lt n (nodes_of (sizes core))) (NoNode n) e) le

-- the node is live, and the other guards refuse nothing
pub record Living (core : Core) (n : ℕ) (gs : List (Option Refusal)) : Type 0 where
  pub node : n < 16
  pub live : is_out (core.state n) ≡ false
  pub rest : first_of gs ≡ None

pub living : (core : Core) (n : ℕ) (gs : List (Option Refusal)) → nodes_of (sizes core) ≤ 16 → first_of (of_live core n gs) ≡ None → Living core n gs
living core n gs le e =
    let a = first_none (no_node core n) _ e in
    let b = first_none (not_fenced core n) _ a.1 in
    let c = first_none (unless (not (is_out (core.state n))) (NotUp n)) gs b.1 in
    record { node = a_node core n le a.0; live = not_false _ (unless_none _ _ c.0); rest = c.1 }
