use Rattle.cluster_msgs.proofs.Bytes.{range_once}
use Rattle.cluster_msgs.proofs.laws.ranges_have_one_spelling.Goals as goal

pub returns : goal.returns
returns c = range_once
