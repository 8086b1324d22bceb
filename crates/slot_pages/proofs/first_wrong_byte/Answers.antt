use Rattle.std.proofs.Common.{sym, ◌∙◌, arith}
use Rattle.dlm_modes.proofs.FirstLaws.{first_such_more, first_such_found, first_such_end}
use Rattle.slot_pages.specs.Faults.{differs}
use Rattle.slot_pages.proofs.HeaderLaws.{same_byte, other_byte}
use Rattle.slot_pages.proofs.first_wrong_byte.Goals as goal

pub loop-i-preserved : goal.loop-i-preserved
loop-i-preserved c = c.loop-i.invariant ∙ first_such_more (differs c.args.g.now c.args.uuid.now c.args.page.now.bytes) c.loop-i.i 256 (omega arith) (same_byte _ _ _ (c.header-wanted.ensures.bytes c.loop-i.i) c.if-page-i.false)

pub returns-then-page-i : goal.returns-then-page-i
returns-then-page-i c = sym (c.loop-i.invariant ∙ first_such_found (differs c.args.g.now c.args.uuid.now c.args.page.now.bytes) c.loop-i.i 256 (omega arith) (other_byte _ _ _ (c.header-wanted.ensures.bytes c.loop-i.i) c.if-page-i.true))

pub returns : goal.returns
returns c = sym (c.loop-i.invariant ∙ first_such_end (differs c.args.g.now c.args.uuid.now c.args.page.now.bytes) c.loop-i.i 256 (omega arith))
