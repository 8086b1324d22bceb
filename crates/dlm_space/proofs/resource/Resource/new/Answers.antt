use Rattle.dlm_space.specs.Locks.{zero_block}
use Rattle.dlm_space.proofs.PartLaws.{lock_of-fresh}
use Rattle.dlm_space.proofs.resource.Resource.new.Goals as goal

pub returns : goal.returns
unfolding zero_block
returns c = lock_of-fresh 16 c.new.result.items c.new-2.result.items c.new.ensures c.new-2.ensures
