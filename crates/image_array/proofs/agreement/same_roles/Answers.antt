use Rattle.std.proofs.Common.{◌≡◌, ap, sym, ◌∙◌, arith, true, false, not}
use Rattle.std.specs.Prelude.{is_none}
use Rattle.dlm_modes.proofs.FirstLaws.{first_such_more, first_such_found, first_such_end}
use Rattle.image_array.specs.Agreement.{same_role_at}
use Rattle.image_array.proofs.agreement.same_roles.Goals as goal

pub loop-l-preserved : goal.loop-l-preserved
loop-l-preserved c =
    let fails : not (same_role_at c.args.a.now c.args.b.now c.loop-l.l) ≡ false = grind arith in
    c.loop-l.invariant ∙ first_such_more (λ k. not (same_role_at c.args.a.now c.args.b.now k)) c.loop-l.l (8) (omega arith) fails

pub returns-then-not-same_role_at : goal.returns-then-not-same_role_at
returns-then-not-same_role_at c =
    let passes : not (same_role_at c.args.a.now c.args.b.now c.loop-l.l) ≡ true = grind arith in
    sym (ap is_none (c.loop-l.invariant ∙ first_such_found (λ k. not (same_role_at c.args.a.now c.args.b.now k)) c.loop-l.l (8) (omega arith) passes))

pub returns : goal.returns
returns c = sym (ap is_none (c.loop-l.invariant ∙ first_such_end (λ k. not (same_role_at c.args.a.now c.args.b.now k)) c.loop-l.l (8) (omega arith)))
