use Rattle.std.proofs.Common.{◌≡◌, ap, sym, ◌∙◌, arith, true, false}
use Rattle.std.specs.Prelude.{is_some}
use Rattle.dlm_modes.proofs.FirstLaws.{first_such_more, first_such_found, first_such_end}
use Rattle.mdc_types.specs.Geometry.{nodes_of}
use Rattle.image_array.specs.Legs.{mark_at, sizes_at}
use Rattle.image_array.proofs.marks.marks_on.Goals as goal

pub loop-k-preserved : goal.loop-k-preserved
loop-k-preserved c =
    let fails : mark_at c.args.images.now c.args.l c.loop-k.k c.args.c ≡ false = sym c.marks_in.ensures ∙ c.if-marks_in.false in
    c.loop-k.invariant ∙ first_such_more (λ k. mark_at c.args.images.now c.args.l k c.args.c) c.loop-k.k (nodes_of (sizes_at c.args.images.now c.args.l)) (omega arith) fails

pub returns-then-marks_in : goal.returns-then-marks_in
returns-then-marks_in c =
    let passes : mark_at c.args.images.now c.args.l c.loop-k.k c.args.c ≡ true = sym c.marks_in.ensures ∙ c.if-marks_in.true in
    sym (ap is_some (c.loop-k.invariant ∙ first_such_found (λ k. mark_at c.args.images.now c.args.l k c.args.c) c.loop-k.k (nodes_of (sizes_at c.args.images.now c.args.l)) (omega arith) passes))

pub returns : goal.returns
returns c = sym (ap is_some (c.loop-k.invariant ∙ first_such_end (λ k. mark_at c.args.images.now c.args.l k c.args.c) c.loop-k.k (nodes_of (sizes_at c.args.images.now c.args.l)) (omega arith)))
