use Rattle.std.proofs.Common.{◌≡◌, ap, sym, ◌∙◌, arith, true, false, ◌&&◌}
use Rattle.std.specs.Prelude.{is_some}
use Rattle.dlm_modes.proofs.FirstLaws.{first_such_more, first_such_found, first_such_end}
use Rattle.image_array.specs.Heads.{works}
use Rattle.image_array.specs.Values.{marks_on}
use Rattle.image_array.proofs.marks.is_marked.Goals as goal

pub loop-l-preserved : goal.loop-l-preserved
loop-l-preserved c =
    let fails : (works c.args.roles.now c.loop-l.l && marks_on c.args.images.now c.args.c c.loop-l.l) ≡ false = sym c.is_marked_on.ensures ∙ c.if-is_marked_on.false in
    c.loop-l.invariant ∙ first_such_more (λ l. works c.args.roles.now l && marks_on c.args.images.now c.args.c l) c.loop-l.l (8) (omega arith) fails

pub returns-then-is_marked_on : goal.returns-then-is_marked_on
returns-then-is_marked_on c =
    let passes : (works c.args.roles.now c.loop-l.l && marks_on c.args.images.now c.args.c c.loop-l.l) ≡ true = sym c.is_marked_on.ensures ∙ c.if-is_marked_on.true in
    sym (ap is_some (c.loop-l.invariant ∙ first_such_found (λ l. works c.args.roles.now l && marks_on c.args.images.now c.args.c l) c.loop-l.l (8) (omega arith) passes))

pub returns : goal.returns
returns c = sym (ap is_some (c.loop-l.invariant ∙ first_such_end (λ l. works c.args.roles.now l && marks_on c.args.images.now c.args.c l) c.loop-l.l (8) (omega arith)))
