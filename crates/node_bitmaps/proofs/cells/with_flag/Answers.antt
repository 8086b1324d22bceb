use Rattle.std.proofs.Common.{arith}
use Rattle.node_bitmaps.proofs.FlagLaws.{leg_in, leg_out}
use Rattle.node_bitmaps.proofs.cells.with_flag.Goals as goal

pub returns-then-flag : goal.returns-then-flag
returns-then-flag c = λ k. let h = leg_in c.args.legs c.args.leg k in grind arith

pub returns-else-flag : goal.returns-else-flag
returns-else-flag c = λ k. let h = leg_out c.args.legs _ c.args.leg (omega arith) (omega arith) c.without_leg.ensures k in grind arith
