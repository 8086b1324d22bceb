use Rattle.std.specs.Int.{w8}
use Rattle.mdc_types.proofs.BitsLaws.{has_bit-cleared}
use Rattle.mdc_types.proofs.bits.without_leg.Goals as goal

pub returns : goal.returns
returns c = λ k lt. has_bit-cleared w8 c.args.set c.args.l k c.requires lt
