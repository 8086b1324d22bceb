use Rattle.std.proofs.Common.{length, map, ap, sym, ◌∙◌, get_or, []}
use Rattle.image_array.proofs.RowsLaws.{as_long}
use Rattle.image_array.proofs.values.row_differs.Goals as goal

pub compare-requires-after_bounds : goal.compare-requires-after_bounds
compare-requires-after_bounds g c κs within =
    let rows = map (λ row. row.items) c.args.rows.now in
    ap length (c.row_of-2.ensures ∙ ap (λ k. get_or rows k []) c.first_working-first.ensures.value)
    ∙ as_long c.args.roles.now c.args.count rows c.args.l c.requires.rows c.requires.leg (sym c.works.ensures ∙ c.if-not-works.false)
    ∙ sym (ap length c.row_of.ensures)
