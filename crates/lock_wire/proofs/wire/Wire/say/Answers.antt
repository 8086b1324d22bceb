use Rattle.lock_wire.proofs.Wires.{said-is}
use Rattle.lock_wire.proofs.wire.Wire.say.Goals as goal

pub returns : goal.returns
returns c =
    rw (← c.self.view_is) (said-is (record { nodes = c.self.inside.nodes; live = c.self.inside.live; locals = c.self.inside.locals; links = c.self.inside.links; tables = c.self.inside.tables; wards = c.self.inside.wards }) c.set.new.self c.send.new.self c.args.n c.args.res c.master-master.result c.args.state c.args.packet c.master-master.ensures.master c.set.ensures c.send.ensures.sent)
