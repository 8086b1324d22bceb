use Rattle.world_state.specs.contracts.state.CoreState.{the_view}
use Rattle.std.proofs.Common.{◌∙◌, ap}
use Rattle.node_bits.specs.Bitmaps.{bitmaps_of}
use Rattle.world_state.specs.Kept.{Kept}
use Rattle.world_io.proofs.Changing.{same_counts, entered_are}
use Rattle.world_io.proofs.changes.enter_chunk.Goals as goal

pub enter-requires-clause-room : goal.enter-requires-clause-room
enter-requires-clause-room c =
    let same = same_counts (bitmaps_of c.core.inside.bitmaps) _ c.args.n c.args.c _ c.set.ensures.bits ∙ ap (λ (k : Kept). (bitmaps_of k.bitmaps c.args.n).writes c.args.c) c.core.view_is in
    rw same c.requires.room

pub returns : goal.returns
returns c = rw (← c.core.view_is) (entered_are (the_view c.core.inside) c.set.new.self c.enter.new.self c.args.n c.args.c c.set.ensures.bits c.enter.ensures.bits)
