use Rattle.std.proofs.Common.{◌≡◌, ℕ, ◌+◌, ◌-◌, get_or, if◌then◌else◌}
use Rattle.mdc_types.specs.Ranges.{holds}
use Rattle.slot_pages.proofs.put_field.Given as goal

abbrev pub invariant-loop-k : goal.invariant-loop-k
invariant-loop-k l = (i : ℕ) → get_or l.page i 0 ≡ (if holds l.at (l.at + l.k) i then get_or l.field (i - l.at) 0 else get_or l.fn.page i 0)
