use Rattle.std.proofs.Common.{◌<◌, ◌^◌, ◌&&◌, nat_lt, sym, ◌∙◌, ap, subst, arith}
use Rattle.image_array.specs.Heads.{is_pending}
use Rattle.image_array.proofs.HeadLaws.{nodes_most}
use Rattle.image_array.proofs.heads.head_by.Goals as goal

pub pending_slots-requires-clause-most : goal.pending_slots-requires-clause-most
pending_slots-requires-clause-most c = omega (arith, nodes_most c.args.geometry, c.nodes.ensures)

pub pending_slots-requires-clause-slots : goal.pending_slots-requires-clause-slots
pending_slots-requires-clause-slots c = λ l lt. c.requires.slots l lt ∙ sym c.nodes.ensures

pub returns-clause-pending : goal.returns-clause-pending
returns-clause-pending c = λ k. c.pending_slots.ensures.slots k
    ∙ ap (λ n. nat_lt k n && is_pending c.args.images.now c.args.s.now.roles k) c.nodes.ensures

pub returns-clause-range : goal.returns-clause-range
returns-clause-range c = subst (λ n. c.pending_slots.result < 2 ^ n) c.nodes.ensures c.pending_slots.ensures.range
