-- What a table ends as, where a `&mut` to one of its values is returned.
use Rattle.std.specs.Prelude.{ℕ, List, slice_set}
use Rattle.std.specs.Borrow.{Lends, Fml, RattleType, MutBor}
use Rattle.mirror_io.specs.contracts.table.Table.{the_row}

-- once the borrow r ends, place i has the last value written through r
abbrev pub lends_at : (T : RattleType) → MutBor (List T.Denot) → ℕ → MutBor T.Denot → Fml
lends_at T t i r = Lends (the_row T) T t r (slice_set t.now i)
