use Rattle.std.proofs.Common.{arith}
use Rattle.md_superblock.specs.Layout.{bytes_of}
use Rattle.md_superblock.proofs.Bytes.{put_number, length-bytes_of}
use Rattle.md_superblock.proofs.layout.put_u16.Goals as goal

pub returns : goal.returns
unfolding bytes_of
returns c = put_number c.args.at 2 c.args.b.now.bytes (bytes_of 2 c.args.n) c.write_u16.new.buf (omega arith) (length-bytes_of 2 c.args.n) (omega arith) c.write_u16.ensures
