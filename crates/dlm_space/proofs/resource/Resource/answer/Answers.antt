use Rattle.dlm_space.proofs.QueueLaws.{first_node}
use Rattle.dlm_space.proofs.resource.Resource.answer.Goals as goal

pub mode_of-requires : goal.mode_of-requires
mode_of-requires c = first_node c.self.inside.conversions.items _ c.self.invariant.0 (rw c.deref.ensures.0 at c.in-Some.ensures.value)
