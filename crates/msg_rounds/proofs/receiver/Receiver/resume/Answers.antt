use Rattle.std.proofs.Common.{◌≡◌, None, true, refl, sym, ◌∙◌}
use Rattle.dlm_modes.specs.declared.mode.Mode.TheVariants.{CR}
use Rattle.dlm_space.specs.Locks.{Lock, let_go, holding}
use Rattle.dlm_space.specs.Parts.{locks_of}
use Rattle.msg_rounds.specs.Refusals.{pr_refusal, may_resume}
use Rattle.msg_rounds.proofs.Lawful.{other, second, resume_accepted, resume_ack, resume_message}
use Rattle.msg_rounds.proofs.receiver.Receiver.resume.Goals as goal

pub take-requires-clause-may : goal.take-requires-clause-may
take-requires-clause-may c =
    let right : may_resume c.args.self.now.phase ≡ true = sym c.may_resume.ensures ∙ c.if-not-may_resume.false in
    let told : pr_refusal (locks_of c.args.space.now) c.args.node ≡ None = sym c.in_ok-granted.ensures in
    resume_ack (locks_of c.args.space.now) c.args.node c.args.self.now.phase right c.requires.holds (c.requires.may (resume_accepted (locks_of c.args.space.now) c.args.node c.args.self.now right told))

pub let_go-requires-clause-may : goal.let_go-requires-clause-may
let_go-requires-clause-may c =
    let told : pr_refusal (locks_of c.args.space.now) c.args.node ≡ None = sym c.in_ok-granted.ensures in
    resume_message (locks_of c.args.space.now) (locks_of c.take.new.space) c.args.node told (other _ _ 18 17 _ c.take.ensures.locks refl)

pub returns-clause-locks : goal.returns-clause-locks
returns-clause-locks c =
    let old = locks_of c.args.space.now in
    second old (locks_of c.take.new.space) (locks_of c.let_go.new.space) 18 17 (holding (old 18) c.args.node CR) (λ (lock : Lock). let_go lock c.args.node) c.take.ensures.locks c.let_go.ensures
