use Rattle.std.proofs.Common.{refl, sym, ap, ◌∙◌}
use Rattle.dlm_modes.specs.declared.mode.Mode.TheVariants.{PR}
use Rattle.dlm_space.specs.Locks.{Lock, let_go, queued}
use Rattle.dlm_space.specs.Parts.{locks_of}
use Rattle.msg_rounds.specs.Phases.{Receiving}
use Rattle.msg_rounds.proofs.Lawful.{other, second, processed_raises, processed_converts}
use Rattle.msg_rounds.proofs.receiver.Receiver.processed.Goals as goal

pub raise-requires-clause-stronger : goal.raise-requires-clause-stronger
raise-requires-clause-stronger c =
    processed_raises (locks_of c.args.space.now) (locks_of c.let_go.new.space) c.args.node _ (ap (λ (r : Receiving). r.phase) (sym c.self.view_is) ∙ c.in-Taken.is) c.requires.holds (other _ _ 18 17 _ c.let_go.ensures refl)

pub raise-requires-clause-may : goal.raise-requires-clause-may
raise-requires-clause-may c =
    processed_converts (locks_of c.args.space.now) (locks_of c.let_go.new.space) c.args.node _ (ap (λ (r : Receiving). r.phase) (sym c.self.view_is) ∙ c.in-Taken.is) c.requires.holds (other _ _ 18 17 _ c.let_go.ensures refl)

pub returns-clause-locks : goal.returns-clause-locks
returns-clause-locks c =
    let old = locks_of c.args.space.now in
    second old (locks_of c.let_go.new.space) (locks_of c.raise.new.space) 18 17 (let_go (old 18) c.args.node) (λ (lock : Lock). queued lock c.args.node PR) c.let_go.ensures c.raise.ensures
