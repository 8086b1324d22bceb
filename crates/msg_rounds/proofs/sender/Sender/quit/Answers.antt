use Rattle.std.proofs.Common.{◌≡◌, List, true, refl, sym, ap, ◌∙◌}
use Rattle.dlm_space.specs.Locks.{Lock}
use Rattle.dlm_space.specs.Parts.{Part, locks_of}
use Rattle.msg_rounds.specs.Phases.{may_quit}
use Rattle.msg_rounds.proofs.Lawful.{other, quit_token, quit_with, quit_without}
use Rattle.msg_rounds.proofs.sender.Sender.quit.Goals as goal
use Rattle.msg_rounds.proofs.sender.Sender.quit.Goals.{then-has_message, else-has_message}

pub end-requires-clause-held : goal.end-requires-clause-held
end-requires-clause-held c =
    let token : List Part → Lock = λ s. locks_of s 16 in
    let right : may_quit c.args.self.now ≡ true = sym c.may_quit.ensures ∙ c.if-not-may_quit.false in
    let same : token c.if-has_message.space ≡ token c.args.space.now = elim c.if-has_message.branch [
      | then-has_message w ↦ ap token w.space-is ∙ other _ _ 17 16 _ w.let_go.ensures refl
      | else-has_message w ↦ ap token w.space-is
    ] in
    quit_token (locks_of c.args.space.now) (locks_of c.if-has_message.space) c.args.node c.args.self.now right c.requires.holds same

pub returns-clause-locks : goal.returns-clause-locks
returns-clause-locks c =
    let old = locks_of c.args.space.now in
    let now = locks_of c.if-has_message.space in
    let after = locks_of c.end.new.space in
    elim c.if-has_message.branch [
      | then-has_message w ↦ quit_with old now after c.args.node c.args.self.now (sym c.has_message.ensures ∙ w.if-has_message.true) (ap locks_of w.space-is ∙ w.let_go.ensures) c.end.ensures.locks
      | else-has_message w ↦ quit_without old now after c.args.node c.args.self.now (sym c.has_message.ensures ∙ w.if-has_message.false) (ap locks_of w.space-is) c.end.ensures.locks
    ]
