use Rattle.std.proofs.Common.{◌≡◌}
use Rattle.node_member.specs.Parts.{members_of}
use Rattle.report_text.specs.Sets.{members}
use Rattle.report_text.proofs.sets.pending_nodes.Given as goal

abbrev pub invariant-loop-n : goal.invariant-loop-n
invariant-loop-n l = l.nodes.items ≡ members (members_of l.r).pending l.n
