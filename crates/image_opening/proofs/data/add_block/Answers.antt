use Rattle.std.proofs.Common.{◌≡◌, ◌+◌, length, map, sym, subst, ◌∙◌}
use Rattle.std.proofs.lemmas.List.{length-map}
use Rattle.image_files.specs.Rows.{AreRowsOf}
use Rattle.image_array.specs.Values.{AreRows}
use Rattle.image_opening.proofs.DataLaws.{rows_there, base_grows, judged_ends}
use Rattle.image_opening.proofs.data.add_block.Goals as goal

pub add_values-requires-clause-rows : goal.add_values-requires-clause-rows
add_values-requires-clause-rows g c κs within =
    let told = map g.L.LegDev.contents c.args.legs.now.items in
    let many : length told ≡ length c.args.images.now = length-map c.args.legs.now.items g.L.LegDev.contents ∙ c.requires.many in
    subst (λ rows. AreRows c.args.head.now.roles c.args.count (map (λ row. row.items) rows)) (sym c.deref.ensures.value)
    (rows_there c.args.images.now c.args.head.now told _ c.args.count _ c.requires.all c.requires.head many c.in_ok-rows.ensures.rows)

pub returns-clause-base : goal.returns-clause-base
returns-clause-base g c =
    let told = map g.L.LegDev.contents c.args.legs.now.items in
    let many : length told ≡ length c.args.images.now = length-map c.args.legs.now.items g.L.LegDev.contents ∙ c.requires.many in
    let are = subst (λ n. AreRowsOf told c.args.head.now.roles (n + c.args.from) c.args.count (map (λ row. row.items) c.deref.result.now)) c.data_offset.ensures
    (subst (λ rows. AreRowsOf told c.args.head.now.roles (c.data_offset.result + c.args.from) c.args.count (map (λ row. row.items) rows)) (sym c.deref.ensures.value)
    c.in_ok-rows.ensures.rows) in
    base_grows c.args.images.now c.args.head.now told c.args.from c.args.count (map (λ row. row.items) c.deref.result.now) _ _ c.add_values.result
    c.requires.all c.requires.head many are c.add_values.ensures.judged c.add_values.ensures.values c.requires.base

pub returns-clause-end : goal.returns-clause-end
returns-clause-end g c =
    let told = map g.L.LegDev.contents c.args.legs.now.items in
    let many : length told ≡ length c.args.images.now = length-map c.args.legs.now.items g.L.LegDev.contents ∙ c.requires.many in
    let are = subst (λ n. AreRowsOf told c.args.head.now.roles (n + c.args.from) c.args.count (map (λ row. row.items) c.deref.result.now)) c.data_offset.ensures
    (subst (λ rows. AreRowsOf told c.args.head.now.roles (c.data_offset.result + c.args.from) c.args.count (map (λ row. row.items) rows)) (sym c.deref.ensures.value)
    c.in_ok-rows.ensures.rows) in
    judged_ends c.args.images.now c.args.head.now told c.args.from c.args.count (map (λ row. row.items) c.deref.result.now) _ _ c.add_values.result
    c.requires.all c.requires.head many are c.requires.within c.add_values.ensures.judged c.requires.base
