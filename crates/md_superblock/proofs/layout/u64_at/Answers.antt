use Rattle.std.proofs.Common.{◌-◌, ◌∙◌, arith}
use Rattle.md_superblock.proofs.Bytes.{number_of_part}
use Rattle.md_superblock.proofs.layout.u64_at.Goals as goal

pub returns : goal.returns
returns c = c.read_u64.ensures ∙ number_of_part 8 c.args.at (512 - c.args.at) c.args.bytes.now (omega arith)
