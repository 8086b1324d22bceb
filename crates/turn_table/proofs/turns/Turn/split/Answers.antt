use Rattle.std.proofs.Common.{◌≡◌, ◌<◌, ℕ, ◌+◌, ◌-◌, ◌++◌, length, List, [], ap, ◌∙◌, subst, sym, arith}
use Rattle.turn_table.specs.Away.{IsAway, NoneElse}
use Rattle.turn_table.specs.Lists.{own, first_of, last_of}
use Rattle.turn_table.specs.Views.{left, right}
use Rattle.turn_table.specs.declared.views.View.{View}
use Rattle.turn_table.proofs.Keeping.{deals}
use Rattle.turn_table.proofs.Aways.{away_left, away_right, none_left, none_right, none_last}
use Rattle.turn_table.proofs.ListLemmas.{append_cut, length_cut}
use Rattle.turn_table.proofs.turns.Turn.split.Goals as goal

pub split_seat-last-requires : goal.split_seat-last-requires
split_seat-last-requires g c =
    let p = c.into_place-place.result in
    let is = c.into_place-place.ensures in
    let a = c.args.seat.away.0 in (
      ap (λ q. q.table_id) is ∙ c.requires.seat.0,
      (let w = c.args.self.now.sized.0 in omega arith),
      deals g.T.Story.entries g.T.Story.origin g.T.Story.number _ _ _ p.me.0
          (ap (λ q. q.me.0.inside) is ∙ a.outside)
          (ap (λ q. q.me.0.more) is ∙ a.nothing_more)
          (let e : length p.me.0.numbers ≡ length c.args.seat.place.me.0.numbers = ap (λ q. length q.me.0.numbers) is in let t = c.requires.two in omega arith),
    )

pub invariant_of-result : goal.invariant_of-result
invariant_of-result g c =
    let seat = c.args.seat in
    let v = seat.place.me.0 in
    let two = c.requires.two in
    let me_is = c.split_seat-last.ensures.2 ∙ ap (λ q. (left q.me.0, q.me.1)) c.into_place-place.ensures in
    record {
      away = (subst (IsAway seat.first (seat.count - 1)) (sym (ap (λ m. m.0) me_is)) (away_left seat.first seat.count v seat.away.0 two), ap (λ m. m.1) me_is ∙ seat.away.1);
      none_else = subst (NoneElse g.T.Story.number seat.first) (sym (ap (λ m. m.0) me_is)) (none_left g.T.Story.number seat.first v (omega arith) seat.none_else);
    }

pub invariant_of-result-2 : goal.invariant_of-result-2
invariant_of-result-2 g c =
    let seat = c.args.seat in
    let v = seat.place.me.0 in
    let me_is = c.split_seat-last.ensures.4 ∙ ap (λ q. (right q.me.0, [])) c.into_place-place.ensures in
    record {
      away = (subst (IsAway (seat.first + (seat.count - 1)) 1) (sym (ap (λ m. m.0) me_is)) (away_right seat.first seat.count v seat.away.0), ap (λ m. m.1) me_is);
      none_else = subst (NoneElse g.T.Story.number (seat.first + (seat.count - 1))) (sym (ap (λ m. m.0) me_is)) (none_right g.T.Story.number seat.first seat.count v seat.away.0);
    }

pub returns-clause-numbers : goal.returns-clause-numbers
returns-clause-numbers g c =
    let v = c.args.seat.place.me.0 in
    let two = c.requires.two in
    let left_is = c.split_seat-last.ensures.2 ∙ ap (λ q. (left q.me.0, q.me.1)) c.into_place-place.ensures in
    let right_is = c.split_seat-last.ensures.4 ∙ ap (λ q. (right q.me.0, [])) c.into_place-place.ensures in
    let l = sym (ap (λ m. m.0.numbers) left_is) in
    let r = sym (ap (λ m. m.0.numbers) right_is) in
    append_cut v.numbers (omega arith) ∙ (λ i. l i ++ r i)

pub returns-clause-new : goal.returns-clause-new
returns-clause-new g c =
    let seat = c.args.seat in
    let right_is = c.split_seat-last.ensures.4 ∙ ap (λ q. (right q.me.0, [])) c.into_place-place.ensures in
    ap (λ m. own g.T.Story.number (first_of m.0.numbers) m.0.seen) right_is
    ∙ none_last g.T.Story.number seat.first seat.count seat.place.me.0 seat.away.0 c.requires.two seat.none_else

pub returns-clause-fewer : goal.returns-clause-fewer
returns-clause-fewer g c =
    let v = c.args.seat.place.me.0 in
    let two = c.requires.two in
    let left_is = c.split_seat-last.ensures.2 ∙ ap (λ q. (left q.me.0, q.me.1)) c.into_place-place.ensures in
    ap (λ m. length m.0.numbers + 1) left_is ∙ length_cut v.numbers (omega arith)
