use Rattle.std.proofs.Common.{false}
use Rattle.std.proofs.lemmas.List.{length-set}
use Rattle.mdc_types.proofs.SetBlocks.{removed}
use Rattle.mdc_types.proofs.chunks.ChunkSet.remove.Goals as goal

pub invariant_of-self : goal.invariant_of-self
invariant_of-self c = rw c.block_of-b.ensures (record {
  covers = removed c.self.inside.flags.items c.self.inside.blocks.items c.self.invariant.covers c.args.c (rw c.self.view_is c.requires) c.has_one.result (rw (c.block_of-b.ensures, c.deref.ensures.value) at c.has_one.ensures);
  small = rw (length-set c.self.inside.flags.items c.args.c false) c.self.invariant.small;
})
