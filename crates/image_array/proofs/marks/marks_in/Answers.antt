use Rattle.std.proofs.Common.{ap, ◌∙◌, get_or, false, length, arith}
use Rattle.image_array.proofs.marks.marks_in.Goals as goal

pub slot-requires-clause-slot : goal.slot-requires-clause-slot
slot-requires-clause-slot c = let many = (c.requires.legs.each c.args.l c.requires.leg).sets.many in let slot = c.requires.slot in omega (arith, many, slot)

pub has-requires : goal.has-requires
has-requires c =
    let size = (c.requires.legs.each c.args.l c.requires.leg).sets.each c.args.k c.requires.slot in
    let chunk = c.requires.chunk in
    omega (arith, ap length c.slot.ensures, size, chunk)

pub returns : goal.returns
returns c = c.has.ensures ∙ ap (λ xs. get_or xs c.args.c false) c.slot.ensures
