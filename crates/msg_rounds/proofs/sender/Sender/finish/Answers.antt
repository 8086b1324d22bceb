use Rattle.std.proofs.Common.{refl, sym, ◌∙◌}
use Rattle.dlm_modes.specs.declared.mode.Mode.TheVariants.{CR}
use Rattle.dlm_space.specs.Locks.{Lock, holding, let_go}
use Rattle.dlm_space.specs.Parts.{locks_of}
use Rattle.msg_rounds.proofs.Lawful.{other, second, third, finish_message, finish_token}
use Rattle.msg_rounds.proofs.sender.Sender.finish.Goals as goal

pub let_go-requires-clause-may : goal.let_go-requires-clause-may
let_go-requires-clause-may c =
    finish_message (locks_of c.args.space.now) (locks_of c.lower.new.space) c.args.node _ (sym c.self.view_is ∙ c.in-Granted.is) c.requires.holds (other _ _ 18 17 _ c.lower.ensures refl)

pub end-requires-clause-held : goal.end-requires-clause-held
end-requires-clause-held c =
    finish_token (locks_of c.args.space.now) (locks_of c.let_go.new.space) c.args.node _ (sym c.self.view_is ∙ c.in-Granted.is) c.requires.holds (other _ _ 17 16 _ c.let_go.ensures refl ∙ other _ _ 18 16 _ c.lower.ensures refl)

pub returns-clause-locks : goal.returns-clause-locks
returns-clause-locks c =
    let old = locks_of c.args.space.now in
    let n = c.args.node in
    third old (locks_of c.let_go.new.space) (locks_of c.end.new.space) 18 17 16 (holding (old 18) n CR) (let_go (old 17) n) (λ (lock : Lock). let_go lock n) (second old (locks_of c.lower.new.space) (locks_of c.let_go.new.space) 18 17 (holding (old 18) n CR) (λ (lock : Lock). let_go lock n) c.lower.ensures c.let_go.ensures) c.end.ensures.locks
