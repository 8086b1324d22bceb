use Rattle.std.proofs.Common.{◌≡◌, ap, sym, ◌∙◌, arith, true, false, length}
use Rattle.std.specs.Prelude.{is_none}
use Rattle.dlm_modes.proofs.FirstLaws.{first_such_more, first_such_found, first_such_end}
use Rattle.image_array.specs.Agreement.{contradicts}
use Rattle.image_array.specs.Legs.{super_at}
use Rattle.image_array.proofs.agreement.agrees.Goals as goal

pub loop-k-preserved : goal.loop-k-preserved
loop-k-preserved c =
    let fails : contradicts c.args.s.now (super_at c.args.images.now c.loop-k.k) ≡ false = sym c.contradicts_leg.ensures ∙ c.if-contradicts_leg.false in
    c.loop-k.invariant ∙ first_such_more (λ k. contradicts c.args.s.now (super_at c.args.images.now k)) c.loop-k.k (length c.args.images.now) (omega arith) fails

pub returns-then-contradicts_leg : goal.returns-then-contradicts_leg
returns-then-contradicts_leg c =
    let passes : contradicts c.args.s.now (super_at c.args.images.now c.loop-k.k) ≡ true = sym c.contradicts_leg.ensures ∙ c.if-contradicts_leg.true in
    sym (ap is_none (c.loop-k.invariant ∙ first_such_found (λ k. contradicts c.args.s.now (super_at c.args.images.now k)) c.loop-k.k (length c.args.images.now) (omega arith) passes))

pub returns : goal.returns
returns c = sym (ap is_none (c.loop-k.invariant ∙ first_such_end (λ k. contradicts c.args.s.now (super_at c.args.images.now k)) c.loop-k.k (length c.args.images.now) (omega arith)))
