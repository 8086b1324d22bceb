use Rattle.std.proofs.Common.{◌∙◌, sym}
use Rattle.md_superblock.proofs.Spelled.{spelled_is_read}
use Rattle.md_superblock.proofs.laws.one_value.Goals as goal

pub returns : goal.returns
returns c = λ s t bytes in_range others written others_written. sym (spelled_is_read s bytes in_range written) ∙ spelled_is_read t bytes others others_written
