use Rattle.std.proofs.Common.{ap, ◌∙◌, arith}
use Rattle.dlm_modes.specs.Points.{with_at}
use Rattle.msg_rounds.specs.Phases.{new_receiving}
use Rattle.world_members.specs.Tables.{receivers_of}
use Rattle.world_members.proofs.Replacing.{receivers-set}
use Rattle.world_members.proofs.tables.tell_death.Goals as goal

pub returns-clause-receivers : goal.returns-clause-receivers
returns-clause-receivers c =
    receivers-set c.tell_if.new.receivers c.args.n c.new.result (omega arith)
    ∙ ap (with_at (receivers_of c.tell_if.new.receivers) c.args.n) c.new.ensures
    ∙ ap (λ f. with_at f c.args.n new_receiving) c.tell_if.ensures.receivers
