use Rattle.std.proofs.Common.{refl, sym, ◌∙◌, Some}
use Rattle.dlm_modes.specs.declared.mode.Mode.TheVariants.{CW, EX}
use Rattle.dlm_space.specs.Locks.{Lock, holding, with_value, queued}
use Rattle.dlm_space.specs.Parts.{locks_of}
use Rattle.msg_rounds.proofs.Lawful.{other, second, publish_raises, publish_converts}
use Rattle.msg_rounds.proofs.sender.Sender.publish.Goals as goal

pub raise-requires-clause-stronger : goal.raise-requires-clause-stronger
raise-requires-clause-stronger c =
    publish_raises (locks_of c.args.space.now) (locks_of c.lower.new.space) c.args.node _ (sym c.self.view_is ∙ c.in-Offered.is) c.requires.holds (other _ _ 17 18 _ c.lower.ensures refl)

pub raise-requires-clause-may : goal.raise-requires-clause-may
raise-requires-clause-may c =
    publish_converts (locks_of c.args.space.now) (locks_of c.lower.new.space) c.args.node _ (sym c.self.view_is ∙ c.in-Offered.is) c.requires.holds (other _ _ 17 18 _ c.lower.ensures refl)

pub returns-clause-locks : goal.returns-clause-locks
returns-clause-locks c =
    second (locks_of c.args.space.now) (locks_of c.lower.new.space) (locks_of c.raise.new.space) 17 18 (holding (with_value (locks_of c.args.space.now 17) (Some c.args.block.now)) c.args.node CW) (λ (lock : Lock). queued lock c.args.node EX) c.lower.ensures c.raise.ensures
