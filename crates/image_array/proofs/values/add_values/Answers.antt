use Rattle.std.proofs.Common.{sym, ◌∙◌, map, arith}
use Rattle.std.proofs.lemmas.List.{length-map}
use Rattle.image_faults.proofs.LegLaws.{not_there}
use Rattle.image_array.specs.Values.{in_rows}
use Rattle.image_array.proofs.Blocks.{added_none, added_more, added_found, added_all, adds_all}
use Rattle.image_array.proofs.values.add_values.Goals as goal

pub loop-s-init : goal.loop-s-init
loop-s-init g c =
    added_none c.args.head.now c.args.images.now (in_rows (map (λ row. row.items) c.args.rows.now) c.args.from) c.args.from c.args.count
    (map (λ values. values.items) c.args.base.now.items) (length-map c.args.base.now.items (λ values. values.items) ∙ sym c.args.base.now.ok.0 ∙ c.requires.base)

pub returns-in-Some-clause-judged : goal.returns-in-Some-clause-judged
returns-in-Some-clause-judged g c =
    added_found c.args.head.now c.args.images.now (in_rows (map (λ row. row.items) c.args.rows.now) c.args.from) c.args.from c.args.count c.loop-s.s c.in-Some.l
    (map (λ values. values.items) c.args.base.now.items) (map (λ values. values.items) c.loop-s.base.items) (omega arith) c.in-Some.ensures c.loop-s.invariant

pub returns-clause-judged : goal.returns-clause-judged
returns-clause-judged g c =
    added_all c.args.head.now c.args.images.now (in_rows (map (λ row. row.items) c.args.rows.now) c.args.from) c.args.from c.args.count c.loop-s.s
    (map (λ values. values.items) c.args.base.now.items) (map (λ values. values.items) c.loop-s.base.items) (omega arith) c.loop-s.invariant

pub returns-clause-values : goal.returns-clause-values
returns-clause-values g c =
    adds_all c.args.head.now c.args.images.now (in_rows (map (λ row. row.items) c.args.rows.now) c.args.from) c.args.from c.args.count c.loop-s.s
    (map (λ values. values.items) c.args.base.now.items) (map (λ values. values.items) c.loop-s.base.items) (omega arith) c.loop-s.invariant

pub loop-s-preserved : goal.loop-s-preserved
loop-s-preserved g c =
    added_more c.args.head.now c.args.images.now (in_rows (map (λ row. row.items) c.args.rows.now) c.args.from) c.args.from c.args.count c.loop-s.s
    (map (λ values. values.items) c.args.base.now.items) (map (λ values. values.items) c.loop-s.base.items) _ c.in_ok-values.values.items
    (omega arith) (omega arith) (sym (not_there c.told_leg.result c.in_default.not-Some) ∙ c.told_leg.ensures)
    c.in_ok-push_values.ensures c.in_ok-values.ensures c.loop-s.invariant
