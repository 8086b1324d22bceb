use Rattle.cluster_msgs.proofs.Spelling.{spelled_once}
use Rattle.cluster_msgs.proofs.laws.messages_have_one_spelling.Goals as goal

pub returns : goal.returns
returns c = spelled_once
