use Rattle.std.proofs.Common.{refl, ap, ◌∙◌, sym, subst, List, ◌∷◌, []}
use Rattle.atomic_table.specs.Table.{opening}
use Rattle.turn_table.specs.Rule.{Kept}
use Rattle.turn_table.specs.Views.{opened}
use Rattle.turn_table.proofs.Keeping.{opens}
use Rattle.turn_table.proofs.turns.Turn.open.Goals as goal

pub new-requires : goal.new-requires
new-requires g c =
    let is = sym c.of.ensures in
    subst (λ xs. Kept g.T.Story.entries g.T.Story.origin g.T.Story.number (g.T.Story.origin c.of.result.value) c.args.seats
    (opening (0 ∷ 0 ∷ []) xs (opened c.args.seats (g.T.Story.origin c.of.result.value))))
    (sym (c.in_ok-one_slot.ensures.ok))
    (opens g.T.Story.entries g.T.Story.origin g.T.Story.number (g.T.Story.origin c.of.result.value) c.args.seats
    c.args.value c.requires.empty (ap g.T.Story.origin is))
