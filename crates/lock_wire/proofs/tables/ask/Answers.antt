use Rattle.lock_wire.proofs.Changed.{unless-refused}
use Rattle.lock_wire.proofs.tables.ask.Goals as goal

pub returns : goal.returns
returns c = unless-refused c.ask.result _ c.args.space.now c.ask.new.self c.args.res _ c.ask.ensures.refused c.ask.ensures.ok c.ask.ensures.err
