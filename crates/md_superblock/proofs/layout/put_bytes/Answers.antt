use Rattle.md_superblock.proofs.Bytes.{put_bytes_is}
use Rattle.md_superblock.proofs.layout.put_bytes.Goals as goal

pub returns : goal.returns
returns c = put_bytes_is c.args.at c.args.b.now.bytes c.args.bytes.now c.copy_from_slice.new.self c.copy_from_slice.ensures.after
