use Rattle.md_superblock.proofs.ArrayLaws.{spelled_is_written}
use Rattle.md_superblock.proofs.laws.superblocks_are_spelled.Goals as goal

pub returns : goal.returns
returns c = spelled_is_written
