use Rattle.std.proofs.Common.{ap, ◌∙◌}
use Rattle.md_superblock.specs.Arrays.{spelled}
use Rattle.md_superblock.proofs.identity.Identity.write.Goals as goal

pub returns : goal.returns
returns c = c.write_super.ensures.bytes ∙ ap spelled c.superblock.ensures
