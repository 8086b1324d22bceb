use Rattle.std.proofs.Common.{◌∙◌}
use Rattle.mdc_types.specs.Bits.{has_bit}
use Rattle.world_state.specs.Kept.{core_of}
use Rattle.helper_lines.proofs.Looking.{uncleared_is}
use Rattle.helper_lines.proofs.slots.uncleared.Goals as goal

pub returns : goal.returns
returns c = c.uncleared_on.ensures ∙ uncleared_is (core_of c.args.core.now) c.args.n ((core_of c.args.core.now).recovery c.args.n) (has_bit c.targets.result) c.targets.ensures
