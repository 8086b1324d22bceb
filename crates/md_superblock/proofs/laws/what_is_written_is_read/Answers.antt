use Rattle.md_superblock.proofs.NoFault.{no_fault}
use Rattle.md_superblock.proofs.Spelled.{spelled_passes, spelled_is_read}
use Rattle.md_superblock.proofs.laws.what_is_written_is_read.Goals as goal

pub returns : goal.returns
returns c = λ s bytes in_range written. (no_fault bytes (spelled_passes s bytes in_range written), spelled_is_read s bytes in_range written)
