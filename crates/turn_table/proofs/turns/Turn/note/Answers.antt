use Rattle.std.proofs.Common.{◌<◌, rules, arith, sym, subst}
use Rattle.turn_table.proofs.Keeping.{notes}
use Rattle.turn_table.proofs.turns.Turn.note.Goals as goal

pub split_seat-requires : goal.split_seat-requires
split_seat-requires g c =
    let sized = c.args.self.now.sized.0 in (
      c.requires.0,
      omega arith,
      notes g.T.Story.entries g.T.Story.origin g.T.Story.number _ _ _ c.args.seat.now.place.me.0,
    )
