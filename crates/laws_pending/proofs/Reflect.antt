-- What the ghosts of trusted legs and marks mean of a state.
use Rattle.std.proofs.Common.{◌≡◌, ◌⊎◌, inl, inr, ℕ, ◌<◌, ◌≤◌, ◌&&◌, ◌||◌, not, Bool, true, false, Option, Some, None, refl, arith, nat_le, nat_lt}
use Rattle.std.proofs.lemmas.Bool.Decides.{nat_tests}
use Rattle.mdc_types.specs.Geometry.{nodes_of}
use Rattle.mdc_types.specs.Roles.{role_of, is_working}
use Rattle.mdc_types.specs.declared.roles.NodeState.{NodeState}
use Rattle.mdc_types.specs.declared.roles.NodeState.TheVariants.{Up}
use Rattle.md_superblock.specs.Arrays.{Says}
use Rattle.leg_failure.specs.Views.{works}
use Rattle.cluster_model.specs.State.{State, sizes}
use Rattle.cluster_model.specs.Phases.{is_up}
use Rattle.cluster_model.specs.Recovered.{WasMarked}
use Rattle.cluster_model.specs.Served.{Served, Trusted}
use Rattle.cluster_model.specs.Stored.{super_on, bit_on}
use Rattle.laws_roles.proofs.InState.{working_role}
use Rattle.laws_roles.proofs.Parts as roles
use Rattle.laws_roles.proofs.Parts.{number, said_role}
use Rattle.storage_ways.proofs.Moving.{Traced, around}
use Rattle.storage_ways.proofs.Parts.{Part}
use Rattle.storage_ways.proofs.Place.{here}
use Rattle.laws_pending.proofs.Ghosts.{serves, calls, is_served, is_called, is_trusted, marks_trusted}
use Rattle.laws_pending.proofs.Points.{each_of, has_such}
use Rattle.laws_pending.proofs.Trust.{left, right, true_le}

is_up_state : (x : NodeState) → is_up x ≡ true → x ≡ Up
is_up_state Up e = refl
is_up_state x e = cc

either : (a b : Bool) → (a || b) ≡ true → (a ≡ true) ⊎ (b ≡ true)
either true b e = inl refl
either false b e = inr e

of_or : (a b : Bool) → (a ≡ true → b ≡ true) → (not a || b) ≡ true
of_or true b f = f refl
of_or false b f = refl

and_true : (a b : Bool) → a ≡ true → b ≡ true → (a && b) ≡ true
and_true a b e f = grind arith

module _ (state : State) (rg : roles.Ghost) (tr : Traced) (some : 1 ≤ state.core.members.completed) where
  abbrev W : Part
  W = here state.core (around state.core state.legs rg tr)

  served_is : (l : ℕ) → is_served W l ≡ true → Served state l
  served_is l e =
      let n = has_such (λ n. serves W n l) 16 e in
      record {
        node = n.0;
        up = is_up_state (state.core.state n.0) (left (is_up (state.core.state n.0)) (works (state.core.view n.0) l) n.1.1);
        works = right (is_up (state.core.state n.0)) (works (state.core.view n.0) l) n.1.1;
      }

  called_by : (k l : ℕ) (x : Option Says) → super_on state.core.array state.legs k ≡ x → k < (sizes state.core).legs → state.core.members.completed ≤ number x → is_working (said_role x l) ≡ true → Trusted state l
  called_by k l None is lt new working = absurd (omega (arith, some, new))
  called_by k l (Some says) is lt new working = inr (record { leg = k; current = record { leg = lt; says = says; stands = is; new = new }; called = working_role (role_of says.roles l) working })

  pub trusted_is : (l : ℕ) → is_trusted W l ≡ true → Trusted state l
  trusted_is l e = elim (either (is_served W l) (is_called W l) e) [
    | inl s ↦ inl (served_is l s)
    | inr c ↦
        let k = has_such (λ k. calls W k l) (sizes state.core).legs c in
        let new = nat_le state.core.members.completed (number (W.super k.0)) in
        called_by k.0 l (W.super k.0) refl k.1.0 (true_le state.core.members.completed (number (W.super k.0)) (left new (is_working (said_role (W.super k.0) l)) k.1.1)) (right new (is_working (said_role (W.super k.0) l)) k.1.1)
  ]

  -- what a slot marked on each leg that may be read
  pub was_marked : (d c : ℕ) → d < nodes_of (sizes state.core) → WasMarked state d c → marks_trusted W d c ≡ true
  was_marked d c slot marked = each_of (λ l. not (is_trusted W l) || W.bit d c l) (sizes state.core).legs
      (λ l lt. of_or (is_trusted W l) (W.bit d c l) (λ t. and_true (nat_lt d (nodes_of (sizes state.core))) (bit_on (sizes state.core) state.legs d c l) (below d (nodes_of (sizes state.core)) slot) (marked l lt (trusted_is l t))))
    where
      below : (i j : ℕ) → i < j → nat_lt i j ≡ true
      below i j lt = grind (arith, nat_tests)
