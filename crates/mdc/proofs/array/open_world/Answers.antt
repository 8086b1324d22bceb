use Rattle.std.proofs.Common.{inl, refl, ◌∙◌}
use Rattle.mdc.proofs.Header.{new_fits, new_header, starts_of}
use Rattle.mdc.proofs.array.open_world.Goals as goal

pub open-requires-clause-fits : goal.open-requires-clause-fits
open-requires-clause-fits c = new_fits c.in_ok-opening.opening c.faults.result.now c.in_ok-legs.legs.items c.in_ok-legs.ensures

pub open-requires-clause-contents : goal.open-requires-clause-contents
open-requires-clause-contents c =
    inl (new_header c.in_ok-opening.opening c.faults.result.now c.in_ok-legs.legs.items c.in_ok-legs.ensures
    c.geometry_of-geometry.result c.start-start.result.now.nodes c.start-start.result.now.warm c.start-start.result.now.spares c.in_ok-opening.ensures.value
    (rw c.start-start.ensures c.requires.some_node) (rw (c.geometry_of-geometry.ensures, c.start-start.ensures) c.requires.nodes))

pub returns-in-Ok-clause-starts : goal.returns-in-Ok-clause-starts
returns-in-Ok-clause-starts c =
    starts_of c.in_ok-opening.opening c.faults.result.now c.in_ok-legs.legs.items c.in_ok-legs.ensures
    c.geometry_of-geometry.result c.start-start.result.now.nodes c.start-start.result.now.warm c.start-start.result.now.spares c.in_ok-opening.ensures.value
    (rw c.start-start.ensures c.requires.some_node) (rw (c.geometry_of-geometry.ensures, c.start-start.ensures) c.requires.nodes)
    c.args.script.now c.in-Ok.world c.in_ok-opening.ensures.origin c.faults.ensures
    (c.in_ok-opening.ensures.value ∙ rw (c.geometry_of-geometry.ensures, c.start-start.ensures) refl)
    c.in-Ok.ensures.core c.in-Ok.ensures.legs c.in-Ok.ensures.past
