use Rattle.std.proofs.Common.{◌≡◌, Some, sym, ap, ◌∙◌}
use Rattle.dlm_space.specs.Locks.{caller}
use Rattle.dlm_space.specs.Parts.{locks_of}
use Rattle.msg_rounds.specs.Phases.{Receiving}
use Rattle.msg_rounds.specs.declared.phases.ReceiverPhase.TheVariants.{Idle}
use Rattle.msg_rounds.proofs.Lawful.{take_accepted, take_message}
use Rattle.msg_rounds.proofs.receiver.Receiver.take.Goals as goal

pub take-requires-clause-may : goal.take-requires-clause-may
take-requires-clause-may c =
    let phase : c.args.self.now.phase ≡ Idle = ap (λ (r : Receiving). r.phase) (sym c.self.view_is) ∙ c.in-Idle.is in
    let called : Some c.in-Some.sender ≡ caller (locks_of c.args.space.now 18) c.args.node = sym c.in-Some.is ∙ c.caller.ensures in
    take_message (locks_of c.args.space.now) c.args.node (c.requires.may (take_accepted (locks_of c.args.space.now) c.args.node c.in-Some.sender c.args.self.now phase called))
