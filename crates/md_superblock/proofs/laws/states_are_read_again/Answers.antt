use Rattle.md_superblock.proofs.ArrayLaws.{says_again}
use Rattle.md_superblock.proofs.laws.states_are_read_again.Goals as goal

pub returns : goal.returns
returns c = says_again
