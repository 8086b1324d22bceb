use Rattle.std.proofs.Common.{arith, false}
use Rattle.lock_wire.proofs.Lists.{at-set}
use Rattle.lock_wire.proofs.Wires.{without-is}
use Rattle.lock_wire.proofs.wire.Wire.remove.Goals as goal

pub returns-clause-wire : goal.returns-clause-wire
returns-clause-wire c =
    rw (← c.self.view_is) (without-is (record { nodes = c.self.inside.nodes; live = c.self.inside.live; locals = c.self.inside.locals; links = c.self.inside.links; tables = c.self.inside.tables; wards = c.self.inside.wards }) _ c.clear.new.self c.drop_node.new.self c.die.new.self c.args.n (at-set (λ b. b) c.self.inside.live c.args.n false false (omega arith)) c.clear.ensures c.drop_node.ensures.gone c.die.ensures)
