use Rattle.std.proofs.Common.{arith, rules}
use Rattle.dlm_space.proofs.PartLaws.{locks_of-new}
use Rattle.dlm_space.proofs.space.Space.new.Goals as goal

pub returns : goal.returns
returns c =
    let h = c.from_fn.ensures.items in
    locks_of-new c.from_fn.result (λ r d lt. let called = (h.at r d (omega (arith, h.long))).2 in search rules)
