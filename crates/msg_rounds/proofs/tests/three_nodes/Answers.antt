use Rattle.msg_rounds.proofs.Examples.{all_up}
use Rattle.msg_rounds.proofs.tests.three_nodes.Goals as goal

pub returns : goal.returns
returns g c =
    all_up _ _ _ _ c.new-space.ensures c.in-Ok.ensures.ok c.in-Ok-ask_now.ensures.ok c.in-Ok-ask_now-2.ensures.ok
