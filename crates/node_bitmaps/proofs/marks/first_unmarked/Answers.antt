use Rattle.std.proofs.Common.{◌≡◌, ◌∙◌, ap, sym, ℕ, ◌==◌, Bool, not, ◌&&◌, Some, arith}
use Rattle.std.specs.Prelude.{is_some, option_map}
use Rattle.dlm_modes.proofs.FirstLaws.{first_such_more, first_such_found, first_such_end, first_such_same}
use Rattle.mdc_types.specs.Bits.{has_bit}
use Rattle.mdc_types.specs.Geometry.{page_of}
use Rattle.mdc_types.specs.Pages.{leg_without, with_its_leg}
use Rattle.node_bitmaps.specs.Cells.{lacks}
use Rattle.node_bitmaps.proofs.marks.first_unmarked.Goals as goal

pub returns-in-Some : goal.returns-in-Some
returns-in-Some c =
    let marked : ℕ → ℕ → Bool = λ p l. not (lacks c.args.cells.now (λ k. page_of k == p) l) in
    let p = c.loop-p.p in
    let same = first_such_same (λ l. has_bit c.args.legs l && not (has_bit c.marked_legs.result l))
    (λ l. has_bit c.args.legs l && not (marked p l)) 0 8
    (λ l from lt. ap (λ (b : Bool). has_bit c.args.legs l && not b)
    (c.marked_legs.ensures l lt)) in
    let leg : leg_without marked (has_bit c.args.legs) p
    ≡ Some c.in-Some.l = sym (c.in-Some.ensures ∙ same) in
    let found = c.loop-p.invariant ∙ first_such_found
    (λ q. is_some (leg_without marked (has_bit c.args.legs) q)) p c.args.pages (omega arith)
    (ap is_some leg) in
    sym (ap (with_its_leg marked (has_bit c.args.legs)) found ∙ ap (option_map (λ l. (p, l))) leg)

pub loop-p-preserved : goal.loop-p-preserved
loop-p-preserved c =
    let marked : ℕ → ℕ → Bool = λ p l. not (lacks c.args.cells.now (λ k. page_of k == p) l) in
    let p = c.loop-p.p in
    let same = first_such_same (λ l. has_bit c.args.legs l && not (has_bit c.marked_legs.result l))
    (λ l. has_bit c.args.legs l && not (marked p l)) 0 8
    (λ l from lt. ap (λ (b : Bool). has_bit c.args.legs l && not b)
    (c.marked_legs.ensures l lt)) in
    c.loop-p.invariant ∙ first_such_more (λ q. is_some
    (leg_without marked (has_bit c.args.legs) q)) p c.args.pages (omega arith)
    (ap is_some (sym (c.in_default.ensures ∙ same)))

pub returns : goal.returns
returns c =
    let marked : ℕ → ℕ → Bool = λ p l. not (lacks c.args.cells.now (λ k. page_of k == p) l) in
    sym (ap (with_its_leg marked (has_bit c.args.legs))
    (c.loop-p.invariant ∙ first_such_end (λ q. is_some
    (leg_without marked (has_bit c.args.legs) q)) c.loop-p.p c.args.pages (omega arith)))
