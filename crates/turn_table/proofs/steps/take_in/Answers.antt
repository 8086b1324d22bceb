use Rattle.std.proofs.Common.{◌≡◌, ◌<◌, length, List, ap, ◌∙◌, subst, sym, arith, ℕ}
use Rattle.turn_table.specs.declared.views.View.{View}
use Rattle.turn_table.proofs.Keeping.{takes_in, learns}
use Rattle.turn_table.proofs.steps.take_in.Goals as goal

pub join_seat-requires : goal.join_seat-requires
join_seat-requires g c = (
  c.requires.table.0,
  c.requires.table.1,
  c.requires.other.2,
  omega arith,
  takes_in g.T.Story.entries g.T.Story.origin g.T.Story.number _ _ _ _ _ _ c.requires.place.0 c.requires.place.1 c.requires.other.0 c.requires.other.1,
)

pub load-requires : goal.load-requires
load-requires g c =
    let me = c.join_seat.new.seat.me in
    let is = c.join_seat.ensures in (
      is.0 ∙ c.requires.table.0,
      omega arith,
      learns g.T.Story.entries g.T.Story.origin g.T.Story.number _ _ _ _ me.0 me.1
          (ap (λ m. m.0.inside) is.2 ∙ c.requires.place.0)
          (let e : length me.0.numbers ≡ length c.args.place.now.me.0.numbers = ap (λ m. length m.0.numbers) is.2 in omega arith),
    )
