use Rattle.plain_history.proofs.Following.{tidy-started}
use Rattle.plain_history.proofs.plain.Plain.start_write.Goals as goal

pub invariant_of-self : goal.invariant_of-self
invariant_of-self c = rw c.start.ensures (tidy-started _ c.self.invariant c.args.n c.args.k)
