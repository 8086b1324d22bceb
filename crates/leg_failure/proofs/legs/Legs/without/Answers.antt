use Rattle.std.proofs.Common.{ap, ◌∙◌, arith}
use Rattle.mdc_types.specs.Bits.{has_bit}
use Rattle.leg_failure.proofs.SetLaws.{has_bit-without}
use Rattle.leg_failure.proofs.legs.Legs.without.Goals as goal

pub returns : goal.returns
returns c = λ l. ap (λ set. has_bit set l) (c.difference.ensures tt) ∙ has_bit-without c.args.self.0 c.args.other.0 l (omega arith) (omega arith)
