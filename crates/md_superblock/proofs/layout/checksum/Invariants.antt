use Rattle.md_superblock.proofs.Sums.{Sums}
use Rattle.md_superblock.proofs.layout.checksum.Given as goal

abbrev pub invariant-loop-k : goal.invariant-loop-k
invariant-loop-k l = Sums l.bytes l.k l.sum
