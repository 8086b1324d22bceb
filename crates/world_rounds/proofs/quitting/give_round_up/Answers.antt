use Rattle.world_state.specs.Kept.{core_of}
use Rattle.world_rounds.proofs.Rounding.{quit_at}
use Rattle.world_rounds.proofs.quitting.give_round_up.Goals as goal

pub is_up-requires : goal.is_up-requires
is_up-requires c = (quit_at (core_of c.args.core.now) c.args.n c.requires.accepted c.requires.ready).node
