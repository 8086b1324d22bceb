use Rattle.world_members.proofs.receiving.take.Goals as goal

pub take_message-sender-requires-clause-holds : goal.take_message-sender-requires-clause-holds
take_message-sender-requires-clause-holds c = c.requires.ready.unblocked.may_take c.args.n c.requires.accepted
