use Rattle.std.proofs.Common.{◌≡◌, ℕ, length}
use Rattle.dlm_space.specs.Locks.{new_locks}
use Rattle.lock_wire.specs.Parts.{tables_of}
use Rattle.lock_wire.proofs.tables.Tables.new.Given as goal

abbrev pub invariant-loop-k : goal.invariant-loop-k
invariant-loop-k l = record {
  long : length l.spaces.items ≡ l._k;
  empty : (m : ℕ) → tables_of l.spaces.items m ≡ new_locks;
}
