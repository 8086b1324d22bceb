use Rattle.std.proofs.Common.{◌∙◌, ap}
use Rattle.world_state.specs.Kept.{core_of}
use Rattle.world_openings.proofs.Members.{came_in, free_slot, free_ack, free_dev, same_view, below_most}
use Rattle.world_openings.proofs.opened.bring_in.Goals as goal

pub take-requires-clause-free : goal.take-requires-clause-free
take-requires-clause-free c =
    free_slot c.args.opening.now (core_of c.args.core.now) (core_of c.set_state.new.self) (core_of c.replace_view.new.self) _ c.args.n
    (below_most c.args.opening.now.sizes c.args.n c.requires.node) c.requires.others c.set_state.ensures c.replace_view.ensures

pub take-requires-2-clause-free : goal.take-requires-2-clause-free
take-requires-2-clause-free c =
    free_ack c.args.opening.now (core_of c.args.core.now) (core_of c.set_state.new.self) (core_of c.replace_view.new.self) (core_of c.take.new.core) _ c.args.n
    (below_most c.args.opening.now.sizes c.args.n c.requires.node) c.requires.others c.set_state.ensures c.replace_view.ensures c.take.ensures

pub take-requires-3-clause-free : goal.take-requires-3-clause-free
take-requires-3-clause-free c =
    free_dev c.args.opening.now (core_of c.args.core.now) (core_of c.set_state.new.self) (core_of c.replace_view.new.self) (core_of c.take.new.core) _ c.args.n
    (below_most c.args.opening.now.sizes c.args.n c.requires.node) c.requires.others c.set_state.ensures c.replace_view.ensures c.take.ensures
    (core_of c.take-2.new.core) c.take-2.ensures

pub returns : goal.returns
returns c =
    came_in c.args.opening.now (core_of c.args.core.now) (core_of c.set_state.new.self) (core_of c.replace_view.new.self)
    (core_of c.take.new.core) (core_of c.take-2.new.core) (core_of c.take-3.new.core) (core_of c.open_bits.new.core) _ c.warm.result c.args.n
    c.requires.member (below_most c.args.opening.now.sizes c.args.n c.requires.node)
    (c.new.ensures ∙ same_view _ _ _ _ c.roles.ensures (c.sectors.ensures.value ∙ ap (λ g. g.sectors) c.geometry.ensures)) c.warm.ensures
    c.requires.others c.set_state.ensures c.replace_view.ensures c.take.ensures c.take-2.ensures c.take-3.ensures c.open_bits.ensures
