use Rattle.std.proofs.Common.{arith}
use Rattle.turn_table.proofs.Keeping.{frees_at}
use Rattle.turn_table.proofs.steps.leave.Goals as goal

pub swap-requires : goal.swap-requires
swap-requires g c = let has = c.requires.value in (
  c.requires.table.0,
  omega arith,
  frees_at g.T.Story.entries g.T.Story.origin g.T.Story.number _ _ _ _ c.args.place.now.me has.0 has.1 c.requires.inside has.2.1 has.2.0,
)
