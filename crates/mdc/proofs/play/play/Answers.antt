use Rattle.std.proofs.Common.{inl, inr, refl}
use Rattle.mdc.proofs.Answering.{usage_told}
use Rattle.mdc.proofs.play.play.Goals as goal

pub returns-in-Ok-clause-answers : goal.returns-in-Ok-clause-answers
returns-in-Ok-clause-answers g c = inl (rw (← c.in-Ok.ensures.value) c.run_command.ensures.answers)
