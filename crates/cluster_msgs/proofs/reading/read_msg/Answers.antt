use Rattle.std.proofs.Common.{◌∙◌, sym, ap}
use Rattle.cluster_msgs.specs.Reading.{msg_of}
use Rattle.cluster_msgs.proofs.Said.{says_what_is_spelled, no_message, other_message}
use Rattle.cluster_msgs.proofs.reading.read_msg.Goals as goal

pub returns-in_err-m : goal.returns-in_err-m
returns-in_err-m c = rw c.from_residual.ensures (sym (no_message c.args.block.now.bytes (ap msg_of (sym c.read.ensures) ∙ sym c.msg_of.ensures ∙ c.in_err-m.was)))

pub returns-then-spells : goal.returns-then-spells
returns-then-spells c = sym ((says_what_is_spelled c.args.block.now.bytes c.in_ok-m.m).1 (c.spells.ensures.0 c.if-spells.true))

pub returns-else-spells : goal.returns-else-spells
returns-else-spells c = sym (other_message c.args.block.now.bytes c.in_ok-m.m (ap msg_of (sym c.read.ensures) ∙ sym c.msg_of.ensures ∙ c.in_ok-m.was) (λ is. let yes = c.spells.ensures.1 is in let no = c.if-spells.false in cc))
