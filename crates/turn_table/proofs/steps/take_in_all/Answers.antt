use Rattle.std.proofs.Common.{◌≡◌, ◌<◌, ◌+◌, ◌++◌, ◌∷◌, [], List, length, sym, ap, ◌∙◌, subst, arith, append-nil, append_assoc}
use Rattle.std.specs.Prelude.{All}
use Rattle.std.proofs.lemmas.List.{nil_from_length}
use Rattle.turn_table.specs.Lists.{BeginsWith, own, Has}
use Rattle.turn_table.specs.Views.{learned, told}
use Rattle.turn_table.specs.Gathered.{Gathers}
use Rattle.turn_table.specs.declared.seats.Seat.{Seat}
use Rattle.turn_table.proofs.Gathering.{all_front, all_last, gathers_none, gathers_more}
use Rattle.turn_table.proofs.steps.take_in_all.Goals as goal

pub loop-seat-init : goal.loop-seat-init
loop-seat-init g c = (
  [],
  record {
    in_order = sym (append-nil c.args.seats.items);
    same_table = λ i. c.args.place.now.table_id;
    same_hand = λ i. c.args.place.now.me.1;
    gathered = gathers_none {g = g.T.Story} c.args.place.now.me.0 c.requires.place.0 c.requires.place.1;
  },
)

pub take_in-requires-clause-table : goal.take_in-requires-clause-table
take_in-requires-clause-table g c =
    let i = c.loop-seat.invariant in
    let order = i.1.in_order ∙ ap (λ l. l ++ i.0) c.in-Some.ensures.items in
    let at_top = λ (s : Seat g.row.T.Denot g.row.T-Item.Denot g.row.T-Origin.Denot g.T.Story). s.place.table_id ≡ c.args.top.now.table_id in
    let here = all_last at_top c.pop.new.self.items c.in-Some.seat
    (all_front at_top (c.pop.new.self.items ++ c.in-Some.seat ∷ []) i.0 (subst (All at_top) order c.requires.seats)) in (
      i.1.same_table ∙ c.requires.table.0,
      ap (λ p. p.table_id) c.into_place.ensures ∙ here,
      c.requires.table.1,
    )

pub take_in-requires-clause-place : goal.take_in-requires-clause-place
take_in-requires-clause-place g c =
    let k = c.loop-seat.invariant.1.gathered in
    let some_number = c.requires.place.2 in
    let many = k.many in (k.outside, k.nothing_more, omega arith)

pub loop-seat-preserved : goal.loop-seat-preserved
loop-seat-preserved g c =
    let i = c.loop-seat.invariant in
    let s = c.in-Some.seat in
    let is = c.into_place.ensures in
    let w = c.loop-seat.place.me.0 in
    let w' = c.take_in.new.place.me.0 in (
      s ∷ i.0,
      record {
        in_order = i.1.in_order ∙ ap (λ l. l ++ i.0) c.in-Some.ensures.items ∙ append_assoc c.pop.new.self.items (s ∷ []) i.0;
        same_table = c.take_in.ensures.place.0 ∙ i.1.same_table;
        same_hand = ap (λ m. m.1) c.take_in.ensures.both ∙ i.1.same_hand;
        gathered = gathers_more c.args.place.now.me.0 w i.0 s w' i.1.gathered
            (ap (λ m. m.0) c.take_in.ensures.both ∙ ap (λ p. learned (told w p.me.0)) is)
            c.take_in.ensures.seen.0
            (subst (λ p. BeginsWith w'.seen p.me.0.seen) is c.take_in.ensures.seen.1)
            c.take_in.ensures.own_old
            (subst (λ p. (n : _) → Has p.me.0.numbers n → own g.T.Story.number n p.me.0.seen ≡ own g.T.Story.number n w'.seen) is c.take_in.ensures.own_other);
      },
    )

pub returns-clause-place : goal.returns-clause-place
returns-clause-place g c = let i = c.loop-seat.invariant.1 in (i.same_table, i.same_hand)

pub returns-clause-all : goal.returns-clause-all
returns-clause-all g c =
    let i = c.loop-seat.invariant in
    let empty = c.in_default.ensures.cases.0 in
    let counted = c.loop-seat.seats.ok.0 in
    let nil = nil_from_length c.loop-seat.seats.items (omega arith) in
    let all_done = i.1.in_order ∙ ap (λ l. l ++ i.0) nil in
    subst (λ seats. Gathers c.args.place.now.me.0 seats c.loop-seat.place.me.0) (sym all_done) i.1.gathered
