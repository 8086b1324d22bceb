use Rattle.std.proofs.Common.{ap, ◌∙◌}
use Rattle.leg_shelf.specs.Memory.{told}
use Rattle.leg_shelf.proofs.Kept.{others_kept, others_told, told_kept, in_err}
use Rattle.leg_shelf.proofs.memory.MemShelfShelf.store.Goals as goal

pub returns-in_err-count_call-clause-contents : goal.returns-in_err-count_call-clause-contents
returns-in_err-count_call-clause-contents c = in_err _ _ c.from_residual.result c.from_residual.ensures.0
    (λ e. others_kept c.args.self.now c.count_call.new.self c.args.name.now c.in_err-count_call.ensures.files)

pub returns-in_err-copy-clause-contents : goal.returns-in_err-copy-clause-contents
returns-in_err-copy-clause-contents c = in_err _ _ c.from_residual-in_err-copy.result c.from_residual-in_err-copy.ensures.0
    (λ e. others_kept c.args.self.now c.count_call.new.self c.args.name.now c.in_ok-count_call.ensures.files)

pub returns-in_err-put-clause-contents : goal.returns-in_err-put-clause-contents
returns-in_err-put-clause-contents c = in_err _ _ c.from_residual-in_err-put.result c.from_residual-in_err-put.ensures.0
    (λ e. others_told c.args.self.now c.put.new.self c.args.name.now
    (ap told c.in_err-put.ensures.err ∙ told_kept c.args.self.now c.count_call.new.self c.in_ok-count_call.ensures.files))
