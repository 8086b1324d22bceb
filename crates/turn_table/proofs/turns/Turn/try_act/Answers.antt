use Rattle.std.proofs.Common.{◌≡◌, ◌<◌, ◌+◌, ℕ, [], ◌∷◌, List, ap, sym, ◌∙◌, subst, arith}
use Rattle.std.specs.Prelude.{Some}
use Rattle.turn_table.specs.Lists.{BeginsWith, own, first_of}
use Rattle.turn_table.specs.Rule.{in_hand}
use Rattle.turn_table.proofs.Aways.{first_is, has_first}
use Rattle.turn_table.proofs.Acting.{one_hand, tries_at, won, acted}
use Rattle.turn_table.proofs.turns.Turn.try_act.Goals as goal

pub compare_exchange-found-requires : goal.compare_exchange-found-requires
compare_exchange-found-requires g c =
    let seat = c.args.seat.now in
    let v = seat.place.me.0 in
    let a = seat.away.0 in
    let first = first_is seat.first seat.count v a in
    let word : first_of v.numbers + 1 ≡ c.from-own.result + 1 = ap (λ (n : ℕ). n + 1) (first ∙ sym c.from-own.ensures) in (
      c.requires.0,
      (let w = c.args.self.now.sized.0 in omega arith),
      tries_at g.T.Story _ _ _ _ seat.place.me _ seat.away.1 word a.outside a.nothing_more (has_first seat.first seat.count v a) c.requires.1,
    )

pub returns-clause-acted : goal.returns-clause-acted
returns-clause-acted g c =
    let seat = c.args.seat.now in
    let v = seat.place.me.0 in
    let a = seat.away.0 in
    let w = won g.T.Story seat.place.me c.compare_exchange-found.new.seat.me c.compare_exchange-found.result c.if-found-ne0.false c.compare_exchange-found.ensures.2 in
    let ran = c.run_here-reply.ensures.ran in
    let y = ran.0 in
    let after = ran.2 in
    let z = after.0 in
    let same = one_hand c.compare_exchange-found.new.seat.me.1 w.0 y w.1 ran.1 in
    let entries = g.T.Story.entries in
    acted g.T.Story g.A.Act.relation g.A.Act.adds (g.T.Story.origin c.args.self.now.board.shared.key.value.value)
    c.args.act.now c.run_here-reply.new.act c.run_here-reply.result.0 c.run_here-reply.result.1
    v c.leave.new.place.me.0 seat.first y z
    (sym (first_is seat.first seat.count v a))
    c.requires.1
    (w.2 ∙ ap (λ t. Some (g.T.Story.origin t)) same)
    (w.4.0, ap entries (sym same) ∙ w.4.1)
    (w.5 (first_of v.numbers) (has_first seat.first seat.count v a) ∙ ap (λ t. own g.T.Story.number (first_of v.numbers) (entries t)) same)
    after.2.0
    after.2.1
    c.run_here-reply.ensures.told
    (ap (λ m. m.0.seen) c.leave.ensures.left ∙ ap (λ m. m.0.seen) c.count_entry.ensures.seen ∙ ap (in_hand entries) after.1)
    (ap (λ m. m.0.numbers) c.leave.ensures.left ∙ ap (λ m. m.0.numbers) c.count_entry.ensures.seen
    ∙ ap (λ m. m.numbers) c.run_here-reply.ensures.place.2 ∙ ap (λ m. m.numbers) w.3)
