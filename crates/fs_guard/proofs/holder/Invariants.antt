use Rattle.std.proofs.Common.{◌≡◌, drop}
use Rattle.fs_guard.specs.Writers.{holder}
use Rattle.fs_guard.proofs.holder.Given as goal

abbrev pub invariant-loop-w : goal.invariant-loop-w
invariant-loop-w l = holder l.s l.writers ≡ holder l.s (drop l.w-index l.writers)
