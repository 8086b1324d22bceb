use Rattle.std.proofs.Common.{ap, ◌∙◌}
use Rattle.mdc_types.specs.Bits.{has_bit}
use Rattle.leg_failure.proofs.SetLaws.{has_bit-and}
use Rattle.leg_failure.proofs.legs.Legs.both.Goals as goal

pub returns : goal.returns
returns c = λ l. ap (λ set. has_bit set l) (c.intersection.ensures tt) ∙ has_bit-and c.args.self.0 c.args.other.0 l
