use Rattle.plain_history.proofs.Following.{tidy-break_write}
use Rattle.plain_history.proofs.plain.Plain.break_write.Goals as goal

pub invariant_of-self : goal.invariant_of-self
invariant_of-self c = rw c.drop_write.ensures.items (tidy-break_write _ c.self.invariant c.args.n c.args.k)
