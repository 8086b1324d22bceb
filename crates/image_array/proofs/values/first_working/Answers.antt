use Rattle.std.proofs.Common.{◌≡◌, ap, sym, ◌∙◌, arith, true, false}
use Rattle.dlm_modes.proofs.FirstLaws.{first_such_more, first_such_found, first_such_end}
use Rattle.std.specs.Prelude.{unwrap_or}
use Rattle.image_array.specs.Heads.{works}
use Rattle.image_array.proofs.values.first_working.Goals as goal

pub loop-l-preserved : goal.loop-l-preserved
loop-l-preserved c =
    let fails : works c.args.roles.now c.loop-l.l ≡ false = sym c.works.ensures ∙ c.if-works.false in
    c.loop-l.invariant ∙ first_such_more (works c.args.roles.now) c.loop-l.l (8) (omega arith) fails

pub returns-then-works-clause-value : goal.returns-then-works-clause-value
returns-then-works-clause-value c =
    let passes : works c.args.roles.now c.loop-l.l ≡ true = sym c.works.ensures ∙ c.if-works.true in
    sym (ap (λ r. unwrap_or r 0) (c.loop-l.invariant ∙ first_such_found (works c.args.roles.now) c.loop-l.l (8) (omega arith) passes))

pub returns-clause-value : goal.returns-clause-value
returns-clause-value c = sym (ap (λ r. unwrap_or r 0) (c.loop-l.invariant ∙ first_such_end (works c.args.roles.now) c.loop-l.l (8) (omega arith)))
