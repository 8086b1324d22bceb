use Rattle.laws_writes.proofs.Promises.{runs_keep_the_intent}
use Rattle.laws_writes.proofs.runs_keep_the_intent.Goals as goal

pub returns : goal.returns
returns c = runs_keep_the_intent
