use Rattle.std.proofs.Common.{◌≡◌}
use Rattle.md_superblock.specs.Pieces.{with_pieces, role_pieces}
use Rattle.md_superblock.proofs.writing.put_roles.Given as goal

abbrev pub invariant-loop-l : goal.invariant-loop-l
invariant-loop-l l = l.b.bytes ≡ with_pieces l.initial.b.bytes (role_pieces (record { legs = l.legs }) l.l)
