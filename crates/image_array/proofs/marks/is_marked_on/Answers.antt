use Rattle.std.proofs.Common.{sym, ◌∙◌}
use Rattle.image_array.proofs.marks.is_marked_on.Goals as goal

pub marks_on-requires-clause-leg : goal.marks_on-requires-clause-leg
marks_on-requires-clause-leg c = c.requires.within.leg c.args.l c.requires.leg (sym c.works.ensures ∙ c.if-works.true)

pub marks_on-requires-clause-chunk : goal.marks_on-requires-clause-chunk
marks_on-requires-clause-chunk c = c.requires.chunk c.args.l (c.requires.within.leg c.args.l c.requires.leg (sym c.works.ensures ∙ c.if-works.true))
