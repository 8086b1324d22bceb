use Rattle.std.proofs.Common.{◌≡◌, ◌<◌, ℕ, ap, ◌∙◌}
use Rattle.mdc_types.specs.Geometry.{nodes_of}
use Rattle.driver_rules.specs.Helpers.{is_live}
use Rattle.driver_rules.specs.Storms.{Drawn, live_nodes}
use Rattle.world_state.specs.Kept.{core_of}
use Rattle.storm_turns.proofs.Draws.{node_below, drawn_of_is}
use Rattle.storm_turns.proofs.drawing.drawn_turn.Goals as goal

pub one_of-requires-clause-node : goal.one_of-requires-clause-node
one_of-requires-clause-node c =
    node_below (is_live (core_of c.args.core.now)) (nodes_of c.args.core.now.identity.geometry) c.next_seed-seed.result c.in-Some.n c.as_slice.result.now (c.as_slice.ensures.value ∙ c.live_nodes-nodes.ensures)
    (c.node_drawn.ensures.some c.in-Some.n c.in-Some.is) (c.node_drawn.ensures.value c.in-Some.n c.in-Some.is)

pub returns-in-Some-clause-event : goal.returns-in-Some-clause-event
returns-in-Some-clause-event c =
    c.one_of.ensures.event ∙ ap (λ (d : Drawn). d.event)
    (drawn_of_is (core_of c.args.core.now) c.args.i c.args.x c.next_seed-seed.result c.in-Some.n (live_nodes (core_of c.args.core.now)) c.as_slice.result.now (c.as_slice.ensures.value ∙ c.live_nodes-nodes.ensures) c.next_seed-seed.ensures
    (c.node_drawn.ensures.some c.in-Some.n c.in-Some.is) (c.node_drawn.ensures.value c.in-Some.n c.in-Some.is))

pub returns-in-Some-clause-seed : goal.returns-in-Some-clause-seed
returns-in-Some-clause-seed c =
    c.one_of.ensures.seed ∙ ap (λ (d : Drawn). d.seed)
    (drawn_of_is (core_of c.args.core.now) c.args.i c.args.x c.next_seed-seed.result c.in-Some.n (live_nodes (core_of c.args.core.now)) c.as_slice.result.now (c.as_slice.ensures.value ∙ c.live_nodes-nodes.ensures) c.next_seed-seed.ensures
    (c.node_drawn.ensures.some c.in-Some.n c.in-Some.is) (c.node_drawn.ensures.value c.in-Some.n c.in-Some.is))
