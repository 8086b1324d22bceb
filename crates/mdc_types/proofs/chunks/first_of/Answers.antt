use Rattle.std.proofs.Common.{sym, ◌∙◌, arith}
use Rattle.std.specs.Prelude.{get_or, false, length}
use Rattle.dlm_modes.proofs.FirstLaws.{first_such_end}
use Rattle.mdc_types.proofs.Blocks.{next_block, found_block}
use Rattle.mdc_types.proofs.chunks.first_of.Goals as goal

pub returns-in-Some : goal.returns-in-Some
returns-in-Some c = sym (c.loop-b.invariant ∙ found_block (λ k. get_or c.args.flags.now k false) (length c.args.flags.now) c.loop-b.b c.args.from c.in-Some.k (sym c.first_in_block.ensures ∙ c.in-Some.is))

pub loop-b-preserved : goal.loop-b-preserved
loop-b-preserved c = c.loop-b.invariant ∙ next_block (λ k. get_or c.args.flags.now k false) (length c.args.flags.now) c.loop-b.b c.args.from c.loop-b.auto.b (sym c.first_in_block.ensures ∙ c.in_default.is)

pub returns : goal.returns
returns c = sym (c.loop-b.invariant ∙ first_such_end (λ k. get_or c.args.flags.now k false) _ (length c.args.flags.now) (omega (arith, c.requires.enough, c.loop-b-test.false)))
