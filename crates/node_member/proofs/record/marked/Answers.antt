use Rattle.std.proofs.Common.{refl, arith}
use Rattle.node_member.proofs.SetLaws.{put_in, taken_out}
use Rattle.node_member.proofs.record.marked.Goals as goal

pub returns-then-mark : goal.returns-then-mark
returns-then-mark c = rw (c.with_node.ensures, c.if-mark.true, put_in c.args.set c.args.n) refl

pub returns-else-mark : goal.returns-else-mark
returns-else-mark c = rw c.if-mark.false (taken_out c.args.set c.without_node.result c.args.n c.requires (omega arith) (omega arith) c.without_node.ensures)
