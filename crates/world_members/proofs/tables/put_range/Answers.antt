use Rattle.std.proofs.Common.{arith}
use Rattle.suspend_ranges.specs.Suspended.{entry_of}
use Rattle.world_members.proofs.Replacing.{suspended-put}
use Rattle.world_members.proofs.tables.put_range.Goals as goal

pub returns-clause-ranges : goal.returns-clause-ranges
returns-clause-ranges c = suspended-put c.args.lists.now c.args.n c.args.o _ c.put.new.self (entry_of c.args.r) (omega arith) c.put.ensures
