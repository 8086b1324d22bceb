use Rattle.std.proofs.Common.{sym, ◌∙◌}
use Rattle.image_array.proofs.marks.is_pending_on.Goals as goal

pub has_marks-requires-clause-leg : goal.has_marks-requires-clause-leg
has_marks-requires-clause-leg c = c.requires.within.leg c.args.l c.requires.leg (sym c.works.ensures ∙ c.if-works.true)

pub has_marks-requires-clause-slot : goal.has_marks-requires-clause-slot
has_marks-requires-clause-slot c = c.requires.slot c.args.l (c.requires.within.leg c.args.l c.requires.leg (sym c.works.ensures ∙ c.if-works.true))
