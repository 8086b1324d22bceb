use Rattle.std.proofs.Common.{◌≡◌, ℕ, nat_lt, if◌then◌else◌}
use Rattle.dlm_space.specs.Locks.{all_died}
use Rattle.lock_wire.specs.Parts.{tables_of}
use Rattle.lock_wire.proofs.tables.die_all.Given as goal

abbrev pub invariant-loop-space : goal.invariant-loop-space
invariant-loop-space l = (m : ℕ) → tables_of l.space-items m ≡ (if nat_lt m l.space-index then all_died (tables_of l.initial.space-items m) l.n else tables_of l.initial.space-items m)
