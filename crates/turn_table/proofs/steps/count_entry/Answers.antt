use Rattle.std.proofs.Common.{◌≡◌, ◌<◌, length, List, ◌∷◌, true, Bool, refl, sym, ap, ◌∙◌, subst, rules, arith}
use Rattle.std.specs.Prelude.{MatchBool}
use Rattle.atomic_table.specs.Table.{Me}
use Rattle.turn_table.specs.Lists.{Adds, first_of}
use Rattle.turn_table.specs.Rule.{in_hand}
use Rattle.turn_table.specs.declared.views.View.{View}
use Rattle.turn_table.proofs.Keeping.{counts_at}
use Rattle.turn_table.proofs.steps.count_entry.Goals as goal

pub fetch_add-requires : goal.fetch_add-requires
fetch_add-requires g c =
    let me = c.args.place.now.me in
    let has = c.requires.value in
    let y = has.0 in
    let more = subst (λ b. MatchBool b (Adds g.T.Story.number (first_of me.0.numbers) me.0.seen (g.T.Story.entries y)) (g.T.Story.entries y ≡ me.0.seen)) c.if-grew.true has.2.1 in (
      c.requires.table.0,
      omega arith,
      counts_at g.T.Story.entries g.T.Story.origin g.T.Story.number _ _ _ _ me y more.0 has.1 c.requires.inside.0 c.requires.inside.1 more.2 more.1 has.2.0,
    )
