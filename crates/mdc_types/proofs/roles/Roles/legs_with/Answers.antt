use Rattle.std.proofs.Common.{◌≡◌, ℕ, ◌+◌, Bool, true, false, ◌&&◌, sym, ◌∙◌, ap, arith, inl, inr}
use Rattle.std.specs.Prelude.{nat_lt}
use Rattle.std.proofs.lemmas.Bool.{cases_eq}
use Rattle.std.proofs.lemmas.Bool.Decides.{nat_tests}
use Rattle.mdc_types.specs.Bits.{has_bit, with_bit}
use Rattle.mdc_types.specs.Roles.{role_of, is_role}
use Rattle.mdc_types.proofs.BitsLaws.{has_bit-with_bit}
use Rattle.mdc_types.proofs.roles.Roles.legs_with.Goals as goal
use Rattle.mdc_types.proofs.roles.Roles.legs_with.Goals.{then-is, else-is}

upto_other : (f : ℕ → Bool) (i k : ℕ) → (k ≡ i → f i ≡ false) → (nat_lt k i && f k) ≡ (nat_lt k (i + 1) && f k)
upto_other f i k other = elim (cases_eq k i) [
  | inl same ↦ grind (arith, nat_tests, other same)
  | inr ne ↦ grind (arith, nat_tests)
]

kept : (f : ℕ → Bool) (i set : ℕ) → ((k : ℕ) → has_bit set k ≡ (nat_lt k i && f k)) → f i ≡ false → (k : ℕ) → has_bit set k ≡ (nat_lt k (i + 1) && f k)
kept f i set was fails k = was k ∙ upto_other f i k (λ _. fails)

added : (f : ℕ → Bool) (i set : ℕ) → ((k : ℕ) → has_bit set k ≡ (nat_lt k i && f k)) → f i ≡ true → (k : ℕ) → has_bit (with_bit set i) k ≡ (nat_lt k (i + 1) && f k)
added f i set was passes k = elim (cases_eq k i) [
  | inl same ↦ grind (arith, nat_tests, has_bit-with_bit set i k)
  | inr ne ↦ grind (arith, nat_tests, has_bit-with_bit set i k, was k)
]

pub loop-l-preserved : goal.loop-l-preserved
loop-l-preserved c =
    let f = λ (k : ℕ). is_role c.args.role (role_of c.args.self.now k) in
    let tests = ap (is_role c.args.role) (sym c.of.ensures) ∙ sym c.is.ensures in
    elim c.if-is.branch [
      | then-is w ↦ rw (w.set-is, w.with_leg-set.ensures) (added f c.loop-l.l c.loop-l.set c.loop-l.invariant (tests ∙ w.if-is.true))
      | else-is w ↦ rw w.set-is (kept f c.loop-l.l c.loop-l.set c.loop-l.invariant (tests ∙ w.if-is.false))
    ]
