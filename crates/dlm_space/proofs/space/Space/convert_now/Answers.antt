use Rattle.std.proofs.Common.{arith}
use Rattle.dlm_space.specs.Locks.{converted_now}
use Rattle.dlm_space.proofs.PartLaws.{locks_of-call}
use Rattle.dlm_space.proofs.space.Space.convert_now.Goals as goal

pub returns-clause-ok : goal.returns-clause-ok
returns-clause-ok c =
    rw (← c.self.view_is) (locks_of-call _ c.self.inside.resources c.args.res c.index-self-res.result c.convert_now.new.self (λ lock. converted_now lock c.args.node c.args.mode) (omega arith) c.convert_now.ensures.ok)
