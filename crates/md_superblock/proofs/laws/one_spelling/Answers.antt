use Rattle.md_superblock.proofs.OneSpelling.{one_spelling}
use Rattle.md_superblock.proofs.laws.one_spelling.Goals as goal

pub returns : goal.returns
returns c = one_spelling
