use Rattle.std.proofs.Common.{◌≡◌, ◌<◌, ◌≤◌, true, false, length, sym, ◌∙◌, true≢false, arith}
use Rattle.driver_rules.specs.Storms.{Writing}
use Rattle.mdc_types.specs.declared.events.Event.TheVariants.{Cut}
use Rattle.storm_turns.proofs.Draws.{choice-help, choice-write, choice-read, or_right_true}
use Rattle.storm_turns.proofs.drawing.choice_at.Goals.{else-may_write-via-then-may_write+else-k-helps-2, else-may_write-via-else-may_write}
use Rattle.storm_turns.proofs.drawing.choice_at.Goals as goal

pub returns-then-k-helps-clause-choice : goal.returns-then-k-helps-clause-choice
returns-then-k-helps-clause-choice c = λ d. choice-help c.args.helps.now c.args.may_write c.args.may_read c.args.k (Cut 0 0) d (omega arith)

pub returns-then-k-helps-2-clause-choice : goal.returns-then-k-helps-2-clause-choice
returns-then-k-helps-2-clause-choice c = λ d. rw c.if-may_write.true (choice-write c.args.helps.now c.args.may_read c.args.k d (omega arith))

pub returns-clause-choice : goal.returns-clause-choice
returns-clause-choice c = λ d.
    let other : c.args.may_write ≡ true → c.args.k ≡ length c.args.helps.now → ⊥ = elim c.else-may_write.branch [
      | else-may_write-via-then-may_write+else-k-helps-2 w ↦ λ t e. omega (arith, e, w.if-k-helps-2.false)
      | else-may_write-via-else-may_write w ↦ λ t e. true≢false (sym t ∙ w.if-may_write.false)
    ] in
    (choice-read c.args.helps.now c.args.may_write c.args.may_read c.args.k d c.requires (omega arith) other).0

pub returns-clause-sector : goal.returns-clause-sector
returns-clause-sector c = λ _.
    let other : c.args.may_write ≡ true → c.args.k ≡ length c.args.helps.now → ⊥ = elim c.else-may_write.branch [
      | else-may_write-via-then-may_write+else-k-helps-2 w ↦ λ t e. omega (arith, e, w.if-k-helps-2.false)
      | else-may_write-via-else-may_write w ↦ λ t e. true≢false (sym t ∙ w.if-may_write.false)
    ] in
    or_right_true c.args.may_write c.args.may_read (choice-read c.args.helps.now c.args.may_write c.args.may_read c.args.k Writing c.requires (omega arith) other).1
