use Rattle.std.proofs.Common.{arith}
use Rattle.storm_turns.proofs.NumberLists.{greatest_some}
use Rattle.storm_turns.proofs.nodes.greatest_of_two.Goals as goal

pub returns : goal.returns
returns c = greatest_some c.args.numbers.now (omega arith)
