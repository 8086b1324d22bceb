use Rattle.std.proofs.Common.{◌≡◌, ap, sym, ◌∙◌, arith, true, false, ◌&&◌}
use Rattle.std.specs.Prelude.{is_some}
use Rattle.dlm_modes.proofs.FirstLaws.{first_such_more, first_such_found, first_such_end}
use Rattle.image_array.specs.Heads.{works, has_marks}
use Rattle.image_array.proofs.marks.is_pending.Goals as goal

pub loop-l-preserved : goal.loop-l-preserved
loop-l-preserved c =
    let fails : (works c.args.roles.now c.loop-l.l && has_marks c.args.images.now c.args.k c.loop-l.l) ≡ false = sym c.is_pending_on.ensures ∙ c.if-is_pending_on.false in
    c.loop-l.invariant ∙ first_such_more (λ l. works c.args.roles.now l && has_marks c.args.images.now c.args.k l) c.loop-l.l (8) (omega arith) fails

pub returns-then-is_pending_on : goal.returns-then-is_pending_on
returns-then-is_pending_on c =
    let passes : (works c.args.roles.now c.loop-l.l && has_marks c.args.images.now c.args.k c.loop-l.l) ≡ true = sym c.is_pending_on.ensures ∙ c.if-is_pending_on.true in
    sym (ap is_some (c.loop-l.invariant ∙ first_such_found (λ l. works c.args.roles.now l && has_marks c.args.images.now c.args.k l) c.loop-l.l (8) (omega arith) passes))

pub returns : goal.returns
returns c = sym (ap is_some (c.loop-l.invariant ∙ first_such_end (λ l. works c.args.roles.now l && has_marks c.args.images.now c.args.k l) c.loop-l.l (8) (omega arith)))
