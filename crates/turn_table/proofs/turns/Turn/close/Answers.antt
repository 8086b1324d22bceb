use Rattle.std.proofs.Common.{◌≡◌, ◌++◌, ◌∷◌, [], ap, sym, ◌∙◌, subst}
use Rattle.std.specs.Prelude.{All, Any}
use Rattle.std.specs.Option.{option_to_list}
use Rattle.turn_table.specs.Lists.{BeginsWith, own}
use Rattle.turn_table.specs.Seats.{seen, number_of, mine}
use Rattle.turn_table.specs.Gathered.{Gathers}
use Rattle.turn_table.proofs.Closing.{ends}
use Rattle.turn_table.proofs.turns.Turn.close.Goals as goal

the_end : (g : _) (c : goal.After-free g)
    → (g.T.Story.origin c.take-value.result ≡ g.T.Story.origin c.args.self.board.shared.key.value.value)
    × All (λ s. BeginsWith (g.T.Story.entries c.take-value.result) (seen s)) c.args.seats.items
    × All (λ s. own g.T.Story.number (number_of s) (g.T.Story.entries c.take-value.result) ≡ mine s) c.args.seats.items
    × All (λ x. Any (λ s. g.T.Story.number x ≡ number_of s) c.args.seats.items) (g.T.Story.entries c.take-value.result)
the_end g c =
    ends {g = g.T.Story} _ _ c.args.seats.items c.pop.new.self.items c.unwrap.result c.take_in_all.new.place.me.0 c.take_in_all.new.place.id _ _ c.take-value.result
    (c.pop.ensures.items ∙ ap (λ o. c.pop.new.self.items ++ option_to_list o) c.unwrap.ensures)
    c.requires.whole
    (subst (λ place. Gathers place.me.0 c.pop.new.self.items c.take_in_all.new.place.me.0) c.into_place-place.ensures c.take_in_all.ensures.all)
    c.close_with-closed.ensures.values.2
    c.take-value.ensures.value

pub returns-clause-origin : goal.returns-clause-origin
returns-clause-origin g c = (the_end g c).0

pub returns-clause-seen : goal.returns-clause-seen
returns-clause-seen g c = (the_end g c).1

pub returns-clause-own : goal.returns-clause-own
returns-clause-own g c = (the_end g c).2

pub returns-clause-no_others : goal.returns-clause-no_others
returns-clause-no_others g c = (the_end g c).3
