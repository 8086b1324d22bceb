use Rattle.std.proofs.Common.{◌≡◌, drop}
use Rattle.leg_store.specs.Plans.{entry_for}
use Rattle.leg_store.proofs.memory.entry_for.Given as goal

abbrev pub invariant-loop-at : goal.invariant-loop-at
invariant-loop-at l = entry_for l.number l.entries ≡ entry_for l.number (drop l.at-index l.entries)
