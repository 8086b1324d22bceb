use Rattle.std.proofs.Common.{sym}
use Rattle.mdc_types.proofs.SetBlocks.{unmarked}
use Rattle.mdc_types.proofs.chunks.first_in_block.Goals as goal

pub returns-then-not-blocks-b : goal.returns-then-not-blocks-b
returns-then-not-blocks-b c = sym (unmarked c.args.flags.now c.args.blocks.now c.requires.covers c.args.b c.args.from c.if-not-blocks-b.true)
