use Rattle.cluster_msgs.proofs.Said.{says_what_is_spelled}
use Rattle.cluster_msgs.proofs.laws.blocks_say_what_they_spell.Goals as goal

pub returns : goal.returns
returns c = says_what_is_spelled
