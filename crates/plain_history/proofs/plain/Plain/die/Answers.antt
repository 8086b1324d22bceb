use Rattle.plain_history.proofs.Following.{tidy-die}
use Rattle.plain_history.proofs.plain.Plain.die.Goals as goal

pub invariant_of-self : goal.invariant_of-self
invariant_of-self c = rw (c.drop_writes_of.ensures, c.drop_reads_of.ensures) (tidy-die _ c.self.invariant c.args.n)
