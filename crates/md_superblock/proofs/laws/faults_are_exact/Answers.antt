use Rattle.md_superblock.specs.Superblock.{super_of}
use Rattle.md_superblock.proofs.NoFault.{tests_pass, no_fault}
use Rattle.md_superblock.proofs.Spelled.{read_in_range, read_is_spelled, spelled_passes}
use Rattle.md_superblock.proofs.laws.faults_are_exact.Goals as goal

pub returns : goal.returns
returns c = λ bytes sector. (
  (λ none. let passes = tests_pass bytes none in (super_of bytes, read_in_range bytes passes, read_is_spelled bytes sector passes)),
  (λ spelled. no_fault bytes (spelled_passes spelled.0 bytes spelled.1 spelled.2)),
)
