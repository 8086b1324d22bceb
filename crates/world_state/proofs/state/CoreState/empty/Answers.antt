use Rattle.world_state.proofs.Emptied.{emptied}
use Rattle.world_state.proofs.state.CoreState.empty.Goals as goal

pub returns-clause-core : goal.returns-clause-core
returns-clause-core c = emptied c.args.identity c.args.members c.args.requests c.args.bitmaps c.args.copies c.args.recoveries c.args.additions c.args.tried.items _ _ _ _ _ _ c.new.ensures c.new-2.ensures c.new-3.ensures c.new-4.ensures c.new-5.ensures c.new-6.ensures c.requires.tried
