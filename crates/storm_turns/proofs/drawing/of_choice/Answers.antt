use Rattle.std.proofs.Common.{◌≡◌, ◌<◌, ◌≤◌, ℕ, true, ap, ◌∙◌, arith}
use Rattle.leg_failure.specs.Views.{NodeView}
use Rattle.world_state.specs.Kept.{core_of}
use Rattle.storm_turns.specs.Choosing.{has_sector}
use Rattle.storm_turns.proofs.Draws.{up_is_in}
use Rattle.storm_turns.proofs.drawing.of_choice.Goals as goal

pub draw_below-s-requires : goal.draw_below-s-requires
draw_below-s-requires c =
    let up = c.requires.up (ap has_sector c.in-Write.is) in
    let some = ((c.requires.ready.range.legs.views c.args.n).sectors (up_is_in ((core_of c.args.core.now).state c.args.n) up)).1 in
    let size = c.sure_size.ensures ∙ ap (λ (v : NodeView). v.sure_size) c.view.ensures in
    omega (arith, some, size)

pub draw_below-s-requires-in-Read : goal.draw_below-s-requires-in-Read
draw_below-s-requires-in-Read c =
    let up = c.requires.up (ap has_sector c.in-Read.is) in
    let some = ((c.requires.ready.range.legs.views c.args.n).sectors (up_is_in ((core_of c.args.core.now).state c.args.n) up)).1 in
    let size = c.sure_size-in-Read.ensures ∙ ap (λ (v : NodeView). v.sure_size) c.view-in-Read.ensures in
    omega (arith, some, size)
