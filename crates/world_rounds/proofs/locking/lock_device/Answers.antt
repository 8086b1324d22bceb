use Rattle.world_rounds.proofs.locking.lock_device.Goals as goal

pub lock_device-requires-clause-ask : goal.lock_device-requires-clause-ask
lock_device-requires-clause-ask c = rw (← c.core.view_is) at (c.requires.ready.unblocked.lock_asks c.args.n c.requires.accepted)

pub lock_device-requires-clause-convert : goal.lock_device-requires-clause-convert
lock_device-requires-clause-convert c = rw (← c.core.view_is) at (c.requires.ready.unblocked.lock_converts c.args.n c.requires.accepted)
