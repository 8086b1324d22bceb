use Rattle.std.proofs.Common.{arith}
use Rattle.slot_gathering.proofs.SizeLaws.{few_in_all}
use Rattle.slot_gathering.proofs.gathering.Gathering.next.Goals as goal

pub overflow_mul-nodes : goal.overflow_mul-nodes
overflow_mul-nodes c = let few = few_in_all c.self.inside.geometry c.self.invariant.bits in grind
    (arith, few, c.nodes.ensures, c.pages-pages.ensures)
