use Rattle.std.proofs.Common.{◌∙◌, arith}
use Rattle.leg_failure.proofs.SetLaws.{is_empty}
use Rattle.leg_failure.proofs.legs.Legs.has_none.Goals as goal

pub returns : goal.returns
returns c = c.is_empty.ensures tt ∙ is_empty c.args.self.0 (omega arith)
