use Rattle.std.proofs.Common.{◌∙◌, sym, subst}
use Rattle.md_superblock.specs.declared.superblock.Super.{Super}
use Rattle.md_superblock.specs.Superblock.{IsSuper, IsWritten}
use Rattle.md_superblock.proofs.NoFault.{tests_pass}
use Rattle.md_superblock.proofs.Spelled.{read_in_range, read_is_spelled}
use Rattle.md_superblock.proofs.reading.read_super.Goals as goal

pub returns-in-None-clause-found : goal.returns-in-None-clause-found
returns-in-None-clause-found c =
    let bytes = c.args.b.now.bytes in
    let passes = tests_pass bytes (sym c.fault.ensures ∙ c.in-None.is) in
    subst (λ (s : Super). IsSuper s × IsWritten s bytes) (sym c.super_of.ensures.value) (read_in_range bytes passes, read_is_spelled bytes c.super_of.ensures.sector passes)
