use Rattle.cluster_msgs.proofs.Said.{says_the_range}
use Rattle.cluster_msgs.proofs.laws.blocks_say_their_range.Goals as goal

pub returns : goal.returns
returns c = says_the_range
