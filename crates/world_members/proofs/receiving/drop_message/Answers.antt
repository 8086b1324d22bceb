use Rattle.world_members.proofs.receiving.drop_message.Goals as goal

pub drop_round-requires-clause-holds : goal.drop_round-requires-clause-holds
drop_round-requires-clause-holds c = (c.requires.ready.rounded.phased.holds c.args.n).receiver
