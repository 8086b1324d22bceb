use Rattle.std.proofs.Common.{sym, ap, ◌∙◌, arith}
use Rattle.std.specs.Prelude.{not}
use Rattle.dlm_modes.proofs.FirstLaws.{first_such_more, first_such_found, first_such_end}
use Rattle.md_superblock.specs.Faults.{has_role}
use Rattle.md_superblock.proofs.roles.first_without_role.Goals as goal

pub loop-l-preserved : goal.loop-l-preserved
loop-l-preserved c = c.loop-l.invariant ∙ first_such_more (λ l. not (has_role c.args.bytes.now l)) c.loop-l.l 8 (omega arith) (ap not (sym c.has_role.ensures ∙ c.if-not-has_role.false))

pub returns-then-not-has_role : goal.returns-then-not-has_role
returns-then-not-has_role c = sym (c.loop-l.invariant ∙ first_such_found (λ l. not (has_role c.args.bytes.now l)) c.loop-l.l 8 (omega arith) (ap not (sym c.has_role.ensures ∙ c.if-not-has_role.true)))

pub returns : goal.returns
returns c = sym (c.loop-l.invariant ∙ first_such_end (λ l. not (has_role c.args.bytes.now l)) c.loop-l.l 8 (omega arith))
