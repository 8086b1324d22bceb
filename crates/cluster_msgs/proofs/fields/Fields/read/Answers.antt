use Rattle.cluster_msgs.specs.Reading.{fields_in}
use Rattle.cluster_msgs.proofs.Bytes.{read_once}
use Rattle.cluster_msgs.proofs.Said.{fields_in-reads}
use Rattle.cluster_msgs.proofs.fields.Fields.read.Goals as goal

pub returns : goal.returns
returns c =
    read_once _ (fields_in c.args.bytes.now) c.args.bytes.now (record {
      kind = c.read_u32.ensures;
      slot = c.read_u32-2.ensures;
      first = c.read_u64.ensures;
      second = c.read_u64-2.ensures;
      leg = c.read_u32-3.ensures;
      uuid = c.copy_from_slice.ensures.after;
      roles = c.read_u16_into.ensures;
      eight = c.read_u16_into.auto.dst;
    }) (fields_in-reads c.args.bytes.now)
