use Rattle.std.proofs.Common.{sym, ◌∙◌, arith}
use Rattle.dlm_modes.proofs.FirstLaws.{first_such_more, first_such_found, first_such_end}
use Rattle.slot_pages.specs.Slot.{chunk_bit, page_end}
use Rattle.slot_pages.proofs.first_spare_bit.Goals as goal

pub loop-c-preserved : goal.loop-c-preserved
loop-c-preserved c = c.loop-c.invariant ∙ first_such_more (chunk_bit c.args.page.now.bytes) c.loop-c.c (page_end c.args.p) (omega arith) (sym c.has_chunk.ensures ∙ c.if-has_chunk.false)

pub returns-then-has_chunk : goal.returns-then-has_chunk
returns-then-has_chunk c = sym (c.loop-c.invariant ∙ first_such_found (chunk_bit c.args.page.now.bytes) c.loop-c.c (page_end c.args.p) (omega arith) (sym c.has_chunk.ensures ∙ c.if-has_chunk.true))

pub returns : goal.returns
returns c = sym (c.loop-c.invariant ∙ first_such_end (chunk_bit c.args.page.now.bytes) c.loop-c.c (page_end c.args.p) (omega arith))
