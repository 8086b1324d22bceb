use Rattle.std.proofs.Common.{ap, sym, ◌∙◌}
use Rattle.std.specs.Result.{result_err}
use Rattle.md_superblock.specs.Arrays.{array_of}
use Rattle.md_superblock.proofs.ArrayLaws.{held, says_own, says_others, says_nothing}
use Rattle.md_superblock.proofs.identity.Identity.read.Goals as goal

pub returns-then-has-clause-says : goal.returns-then-has-clause-says
returns-then-has-clause-says c = says_own (array_of c.args.self.now) c.args.l c.args.b.now.bytes c.in-Ok.s c.in-Ok.ensures.fault c.in-Ok.ensures.value (sym c.if-has.true ∙ c.has.ensures)

pub returns-else-has-clause-says : goal.returns-else-has-clause-says
returns-else-has-clause-says c = says_others (array_of c.args.self.now) c.args.l c.args.b.now.bytes c.in-Ok.s c.in-Ok.ensures.fault c.in-Ok.ensures.value (sym c.if-has.false ∙ c.has.ensures)

pub returns-in-Err-clause-says : goal.returns-in-Err-clause-says
returns-in-Err-clause-says c = says_nothing (array_of c.args.self.now) c.args.l c.args.b.now.bytes c.in-Err.field-0 (sym (ap result_err c.in-Err.is) ∙ c.read_super.ensures.fault)

pub returns-then-has-clause-found : goal.returns-then-has-clause-found
returns-then-has-clause-found c = held (array_of c.args.self.now) c.args.l c.in-Ok.s c.args.b.now.bytes (sym c.has.ensures ∙ c.if-has.true) c.in-Ok.ensures.found
