use Rattle.std.proofs.Common.{sym, ◌∙◌, arith}
use Rattle.std.specs.Prelude.{get_or, false}
use Rattle.dlm_modes.proofs.FirstLaws.{first_such_more, first_such_found, first_such_end}
use Rattle.mdc_types.proofs.chunks.first_between.Goals as goal

pub loop-k-preserved : goal.loop-k-preserved
loop-k-preserved c = c.loop-k.invariant ∙ first_such_more (λ k. get_or c.args.flags.now k false) c.loop-k.k c.args.to (omega arith) c.if-flags-k.false

pub returns-then-flags-k : goal.returns-then-flags-k
returns-then-flags-k c = sym (c.loop-k.invariant ∙ first_such_found (λ k. get_or c.args.flags.now k false) c.loop-k.k c.args.to (omega arith) c.if-flags-k.true)

pub returns : goal.returns
returns c = sym (c.loop-k.invariant ∙ first_such_end (λ k. get_or c.args.flags.now k false) c.loop-k.k c.args.to (omega arith))
