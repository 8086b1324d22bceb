use Rattle.std.proofs.Common.{rules, tests}
use Rattle.dlm_space.proofs.QueueLaws.{without-retain}
use Rattle.dlm_space.proofs.resource.leave.Goals as goal

pub returns : goal.returns
returns c = without-retain _ c.args.node _ (λ x b f y k. search (rules, tests)) _ _ c.retain.ensures.filtered
