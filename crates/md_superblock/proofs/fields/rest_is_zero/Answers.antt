use Rattle.std.proofs.Common.{sym, ap, ◌∙◌, arith}
use Rattle.std.specs.Prelude.{is_none}
use Rattle.dlm_modes.proofs.FirstLaws.{first_such_more, first_such_found, first_such_end}
use Rattle.md_superblock.specs.Faults.{is_stray}
use Rattle.md_superblock.proofs.fields.rest_is_zero.Goals as goal

pub loop-i-preserved : goal.loop-i-preserved
loop-i-preserved c = c.loop-i.invariant ∙ first_such_more (is_stray c.args.bytes.now) c.loop-i.i 512 (omega arith) (sym c.is_stray.ensures ∙ c.if-is_stray.false)

pub returns-then-is_stray : goal.returns-then-is_stray
returns-then-is_stray c = sym (ap is_none (c.loop-i.invariant ∙ first_such_found (is_stray c.args.bytes.now) c.loop-i.i 512 (omega arith) (sym c.is_stray.ensures ∙ c.if-is_stray.true)))

pub returns : goal.returns
returns c = sym (ap is_none (c.loop-i.invariant ∙ first_such_end (is_stray c.args.bytes.now) c.loop-i.i 512 (omega arith)))
