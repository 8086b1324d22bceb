use Rattle.std.proofs.Common.{◌≡◌, ◌∷◌, [], ◌++◌, ◌+◌, length, map, None, sym, ap, ◌∙◌, subst, append_assoc, arith}
use Rattle.std.specs.Prelude.{IfErr}
use Rattle.std.specs.Vec.Iter.{into_iter_items}
use Rattle.std.proofs.lemmas.List.{length_push}
use Rattle.mdc_types.specs.Faults.{HasCause}
use Rattle.leg_shelf.specs.Shelves.{counted}
use Rattle.image_files.specs.Closed.{Closes, IsCloseEnd, is_shelf_fault}
use Rattle.image_files.proofs.GivenBack.{closes_more, gives_at, counted_more, next_is, cause_more}
use Rattle.image_files.proofs.closing.close_all.Goals as goal

pub loop-leg-preserved : goal.loop-leg-preserved
loop-leg-preserved g c =
    let at = c.loop-leg in
    let x = c.in-Some.leg in
    let rest = into_iter_items c.next.new.self in
    let all = into_iter_items c.into_iter-leg-iterator.result in
    let told = map g.H.Leg.LegDev.contents all in
    let next = c.close_leg-next.result in
    let before = g.H.Shelf.contents c.args.shelf.now in
    let mid = g.H.Shelf.contents at.shelf in
    let now = g.H.Shelf.contents c.close_leg-next.new.shelf in
    let steps : into_iter_items at.leg-iterator ≡ x ∷ rest = c.in-Some.ensures.steps.0 in
    let whole : at.yielded ++ (x ∷ rest) ≡ all = ap (λ ys. at.yielded ++ ys) (sym steps) ∙ at.invariant.all in
    let one = length_push at.yielded x in
    record {
      all = append_assoc at.yielded (x ∷ []) rest ∙ whole;
      many = let gone = c.in-Some.ensures.steps.1 in let short = ap length steps in let was = at.invariant.many in omega arith;
      count = ap (λ n. n + 1) at.invariant.count ∙ sym one;
      closes = subst (λ n. Closes c.args.names.now told n before c.first_end-first.result now) (sym one)
          (subst (λ r. Closes c.args.names.now told (length at.yielded + 1) before r now) (sym c.first_end-first.ensures)
          (closes_more c.args.names.now told (length at.yielded) before at.first mid next now at.invariant.closes
          (gives_at c.args.names.now told (length at.yielded) at.l (g.H.Leg.LegDev.contents x) mid next now at.invariant.count
          (next_is g.H.Leg.LegDev.contents at.yielded x rest all None whole) c.close_leg-next.ensures.contents)
          (subst (λ n. IfErr next (IsCloseEnd n)) at.invariant.count c.close_leg-next.ensures.end)));
      legs = c.close_leg-next.ensures.legs ∙ ap (λ n. counted n (g.H.Leg.LegDev.faults x)) at.invariant.legs
          ∙ sym (counted_more g.H.Leg.LegDev.faults (g.H.Shelf.leg_faults c.args.shelf.now) at.yielded x);
      cause = subst (λ r. HasCause is_shelf_fault (g.H.Shelf.faults c.args.shelf.now) (g.H.Shelf.faults c.close_leg-next.new.shelf) r) (sym c.first_end-first.ensures)
          (cause_more (g.H.Shelf.faults c.args.shelf.now) (g.H.Shelf.faults at.shelf) (g.H.Shelf.faults c.close_leg-next.new.shelf) at.first next
          at.invariant.cause c.close_leg-next.ensures.cause);
    }
