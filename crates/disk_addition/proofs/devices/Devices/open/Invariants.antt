use Rattle.std.proofs.Common.{◌≡◌, ℕ, List, nat_eq}
use Rattle.std.specs.Cmp.Lexicographic.{pointwise}
use Rattle.indexmap.specs.IndexMap.{get}
use Rattle.disk_addition.specs.Names.{leg_named}
use Rattle.disk_addition.proofs.devices.Devices.open.Given as goal

abbrev pub invariant-loop-l : goal.invariant-loop-l
invariant-loop-l l = (name : List ℕ) → get (pointwise nat_eq) l.by_name name ≡ leg_named (record { uuid = l.uuid; legs = l.l }) name
