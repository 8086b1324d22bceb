use Rattle.std.proofs.Common.{◌∙◌, sym}
use Rattle.cluster_msgs.proofs.Said.{says_the_range, ends_read, no_range, other_range}
use Rattle.cluster_msgs.proofs.ranges.read_range.Goals as goal

pub returns-in_err-r : goal.returns-in_err-r
returns-in_err-r c =
    let bytes = c.args.block.now.bytes in
    rw c.from_residual.ensures (sym (no_range bytes (sym (ends_read bytes _ _ c.read_u64-lo.ensures c.read_u64-hi.ensures) ∙ sym c.range_of.ensures ∙ c.in_err-r.was)))

pub returns-then-spells_range : goal.returns-then-spells_range
returns-then-spells_range c = sym ((says_the_range c.args.block.now.bytes c.in_ok-r.r).1 (c.spells_range.ensures.0 c.if-spells_range.true))

pub returns-else-spells_range : goal.returns-else-spells_range
returns-else-spells_range c =
    let bytes = c.args.block.now.bytes in
    sym (other_range bytes c.in_ok-r.r (sym (ends_read bytes _ _ c.read_u64-lo.ensures c.read_u64-hi.ensures) ∙ sym c.range_of.ensures ∙ c.in_ok-r.was) (λ is. let yes = c.spells_range.ensures.1 is in let no = c.if-spells_range.false in cc))
