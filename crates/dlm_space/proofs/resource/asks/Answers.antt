use Rattle.std.proofs.Common.{◌∙◌, ◌==◌, rules, tests}
use Rattle.std.proofs.lemmas.Iterator.{YieldsList-from_slice}
use Rattle.std.proofs.lemmas.Iterator.Search.{any_from_yields_List}
use Rattle.dlm_space.specs.declared.ask.Ask.{Ask}
use Rattle.dlm_space.proofs.QueueLaws.{asks-list_any}
use Rattle.dlm_space.proofs.resource.asks.Goals as goal

pub returns : goal.returns
returns c =
    let node = c.args.node in
    let queue = c.args.queue.now in
    any_from_yields_List (λ (a : Ask). a.node == node) _ _ _ c.any.ensures.ran (YieldsList-from_slice queue cc) (λ x b q k. search (rules, tests)) ∙ asks-list_any node queue
