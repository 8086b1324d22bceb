use Rattle.std.proofs.Common.{◌∙◌, arith}
use Rattle.image_array.proofs.Marked.{any_is}
use Rattle.image_array.proofs.marks.has_marks.Goals as goal

pub slot-requires-clause-slot : goal.slot-requires-clause-slot
slot-requires-clause-slot c = let many = (c.requires.legs.each c.args.l c.requires.leg).sets.many in let slot = c.requires.slot in omega (arith, many, slot)

pub returns : goal.returns
returns c = c.is_some.ensures ∙ any_is c.args.images.now c.args.l c.args.k _ _ c.requires.legs c.requires.leg c.requires.slot c.slot.ensures c.first_from.ensures
