use Rattle.world_state.proofs.Changing.{went_out}
use Rattle.world_state.proofs.state.CoreState.node_out.Goals as goal

pub returns : goal.returns
returns c = went_out _ _ _ _ _ _ _ c.set_state.ensures c.forget_rounds.ensures c.forget_bits.ensures c.forget_ranges.ensures c.forget_repair.ensures
