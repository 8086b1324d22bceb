-- One line that was taken.
use Rattle.std.proofs.Common.{◌≡◌, inl, ℕ, Some, None, refl, sym}
use Rattle.dlm_space.specs.Locks.{Lock}
use Rattle.dlm_space.specs.Calls.{Call, IsOfNode, refusal, effect, Answers}
use Rattle.dlm_space.specs.declared.answers.LockError.{LockError}
use Rattle.script_text.specs.declared.locks.LockLine.{LockLine}
use Rattle.report_text.specs.declared.locks.LockReply.TheVariants as replies
use Rattle.lock_script.specs.Replies.{Makes, reply_to, Takes}

module _ (locks later : ℕ → Lock) (line : LockLine) (call : Call) (makes : Makes line call) where
  pub accepts : IsOfNode call → None ≡ refusal locks call → Answers locks call → later ≡ effect locks call → Takes locks line later (reply_to call)
  accepts node accepted answers after = record {
    called = Some call;
    replies = record { makes = makes; accepted = record { node = node; accepted = sym accepted; answers = answers }; says = refl };
    after = after;
  }

  pub refuses : (why : LockError) → Some why ≡ refusal locks call → later ≡ locks → Takes locks line later (replies.Refused why)
  refuses why refused same = record {
    called = None;
    replies = inl (record { call = call; makes = makes; why = why; refused = sym refused; says = refl });
    after = same;
  }
