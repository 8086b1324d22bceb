use Rattle.world_state.specs.Kept.{core_of}
use Rattle.world_repair.proofs.Accepting.{slot_pends, slot_held}
use Rattle.world_repair.proofs.recovering.recovered.Goals as goal

pub end_recovery-requires-clause-pending : goal.end_recovery-requires-clause-pending
end_recovery-requires-clause-pending c = slot_pends (core_of c.args.core.now) c.args.n c.recovered_slot-d.result c.requires.ready c.recovered_slot-d.ensures.slot

pub end_recovery-requires-clause-held : goal.end_recovery-requires-clause-held
end_recovery-requires-clause-held c = slot_held (core_of c.args.core.now) c.args.n c.recovered_slot-d.result c.requires.ready c.recovered_slot-d.ensures.range c.recovered_slot-d.ensures.slot
