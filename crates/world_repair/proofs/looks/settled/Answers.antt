use Rattle.std.proofs.Common.{sym, ◌∙◌}
use Rattle.cluster_model.specs.Copying.{buffer_of}
use Rattle.world_state.specs.Kept.{core_of}
use Rattle.world_repair.proofs.Looking.{told_none, told_some}
use Rattle.world_repair.proofs.looks.settled.Goals as goal

pub returns-in-Some : goal.returns-in-Some
returns-in-Some c = sym (told_some (buffer_of (core_of c.args.core.now) c.args.n) c.in-Some.sector c.in-Some.value (sym c.buffer.ensures.value ∙ c.in-Some.is))

pub returns-in-None : goal.returns-in-None
returns-in-None c = sym (told_none (buffer_of (core_of c.args.core.now) c.args.n) (sym c.buffer.ensures.value ∙ c.in-None.is))
