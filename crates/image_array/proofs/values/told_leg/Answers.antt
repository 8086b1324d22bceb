use Rattle.std.proofs.Common.{map}
use Rattle.image_array.proofs.RowsLaws.{same_rows}
use Rattle.image_array.proofs.values.told_leg.Goals as goal

pub returns-else-differ : goal.returns-else-differ
returns-else-differ c =
    same_rows c.args.head.now c.args.images.now c.args.count (map (λ row. row.items) c.args.rows.now) c.args.from c.args.s
    c.requires.rows c.requires.after c.requires.before (c.requires.same c.if-differ.false)
