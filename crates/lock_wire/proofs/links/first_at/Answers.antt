use Rattle.std.proofs.Common.{arith, sym, ◌∙◌}
use Rattle.lock_wire.proofs.LinkLaws.{none_more}
use Rattle.lock_wire.proofs.links.first_at.Goals as goal

pub loop-i-preserved : goal.loop-i-preserved
loop-i-preserved c =
    none_more c.args.posts.now c.args.from c.args.to c.loop-i.i _ (omega arith) c.loop-i.invariant (sym c.is_on.ensures ∙ c.if-is_on.false)
