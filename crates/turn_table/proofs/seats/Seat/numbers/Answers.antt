use Rattle.std.proofs.Common.{sym, ap, ◌∙◌, length}
use Rattle.turn_table.proofs.ListLemmas.{length-from}
use Rattle.turn_table.proofs.seats.Seat.numbers.Goals as goal

pub returns : goal.returns
returns g c = let s = c.args.self.now in sym (ap length s.away.0.numbers_are ∙ length-from s.first s.count)
