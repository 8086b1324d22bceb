use Rattle.std.proofs.Common.{sym, ◌∙◌}
use Rattle.image_array.proofs.ValueLaws.{row_length, row_is}
use Rattle.image_array.proofs.values.row_of.Goals as goal

pub bounds-rows-l : goal.bounds-rows-l
bounds-rows-l c = row_length c.args.rows.now c.args.l c.requires

pub returns : goal.returns
returns c = c.as_slice.ensures.value
    ∙ sym (row_is c.args.rows.now c.args.l c.index-rows-l.result (row_length c.args.rows.now c.args.l c.requires) c.index-rows-l.is)
