use Rattle.std.specs.Int.{w16}
use Rattle.mdc_types.proofs.BitsLaws.{has_bit-cleared}
use Rattle.mdc_types.proofs.bits.without_node.Goals as goal

pub returns : goal.returns
returns c = λ k lt. has_bit-cleared w16 c.args.set c.args.n k c.requires lt
