use Rattle.plain_history.proofs.Following.{tidy-decided}
use Rattle.plain_history.proofs.plain.Plain.end_write.Goals as goal

pub invariant_of-self-in-Some : goal.invariant_of-self-in-Some
invariant_of-self-in-Some c = rw (c.drop_write.ensures.items, c.in_ok-decide-in-Some.ensures.ok) (tidy-decided _ c.self.invariant c.args.n c.args.k _ _)
