use Rattle.std.proofs.Common.{ap, inr, None, refl, ◌∙◌}
use Rattle.dlm_space.specs.Locks.{caller}
use Rattle.dlm_space.specs.Parts.{locks_of}
use Rattle.report_text.specs.declared.locks.LockReply.TheVariants as replies
use Rattle.lock_script.proofs.replies.calls.Goals as goal

pub returns : goal.returns
returns c = record {
  called = None;
  replies = inr (ap replies.Calls (c.calls.ensures ∙ ap (λ r. caller (locks_of c.args.space.now r) c.args.node) c.number.ensures.value));
  after = refl;
}
