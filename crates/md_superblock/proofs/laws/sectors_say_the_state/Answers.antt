use Rattle.md_superblock.proofs.ArrayLaws.{says_the_state}
use Rattle.md_superblock.proofs.laws.sectors_say_the_state.Goals as goal

pub returns : goal.returns
returns c = says_the_state
