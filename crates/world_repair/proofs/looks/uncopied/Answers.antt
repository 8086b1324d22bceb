use Rattle.std.proofs.Common.{◌∙◌}
use Rattle.mdc_types.specs.Bits.{has_bit}
use Rattle.cluster_model.specs.Copying.{buffer_of}
use Rattle.world_state.specs.Kept.{core_of}
use Rattle.world_repair.proofs.Looking.{uncopied_is}
use Rattle.world_repair.proofs.looks.uncopied.Goals as goal

pub returns : goal.returns
returns c = c.missing_of.ensures ∙ uncopied_is (core_of c.args.core.now) c.args.n (buffer_of (core_of c.args.core.now) c.args.n) (has_bit c.targets.result) c.targets.ensures
