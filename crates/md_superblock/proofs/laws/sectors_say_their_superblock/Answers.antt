use Rattle.md_superblock.proofs.ArrayLaws.{says_the_super}
use Rattle.md_superblock.proofs.laws.sectors_say_their_superblock.Goals as goal

pub returns : goal.returns
returns c = says_the_super
