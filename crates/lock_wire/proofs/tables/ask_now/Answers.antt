use Rattle.lock_wire.proofs.Changed.{unless-refused}
use Rattle.lock_wire.proofs.tables.ask_now.Goals as goal

pub returns : goal.returns
returns c = unless-refused c.ask_now.result _ c.args.space.now c.ask_now.new.self c.args.res _ c.ask_now.ensures.refused c.ask_now.ensures.ok c.ask_now.ensures.err
