use Rattle.std.proofs.Common.{◌-◌, ◌+◌, sym, ◌∙◌, subst, arith}
use Rattle.mdc_types.specs.Bits.{has_bit}
use Rattle.mdc_types.specs.Geometry.{page_of}
use Rattle.dlm_modes.proofs.FirstLaws.{first_such_none, first_such_some}
use Rattle.node_bitmaps.specs.Map.{bitmap_of, chunks_in}
use Rattle.mdc_types.proofs.Blocks.{found_in, before_first}
use Rattle.map_index.proofs.Unmarked.{IsLeast, least_is, least_goes, least_begins, page_ends}
use Rattle.map_index.proofs.indexed_map.IndexedMap.least_lacking.Goals as goal

pub loop-k-init : goal.loop-k-init
loop-k-init c = (least_begins (bitmap_of c.args.self.now) (has_bit c.args.targets) (chunks_in c.args.self.now) c.args.c c.args.leg c.requires, omega arith)

pub returns-then-page_of-page : goal.returns-then-page_of-page
returns-then-page_of-page c = λ g size.
    let m = bitmap_of c.args.self.now in
    let found = sym c.first_set_from.ensures ∙ c.in-Some.is in
    let at = found_in m.set c.loop-k.from (chunks_in c.args.self.now) c.in-Some.k found in
    sym (least_is g m (has_bit c.args.targets) (page_of c.args.c) c.loop-k.from c.loop-k.least
    (subst (λ n. IsLeast m (has_bit c.args.targets) n (page_of c.args.c) c.loop-k.from c.loop-k.least) size.set c.loop-k.invariant.0)
    (λ j late below is. page_ends m (has_bit c.args.targets) (chunks_in c.args.self.now) c.args.c c.loop-k.from c.in-Some.k c.loop-k.invariant.1 at.0
    (λ i low lt. before_first m.set c.loop-k.from (chunks_in c.args.self.now - c.loop-k.from) c.in-Some.k found i low lt)
    (λ same. c.if-page_of-page.true (c.page_of.ensures ∙ same ∙ sym c.page_of-page.ensures))
    j late (omega (arith, below, size.set)) is))

pub unmarked_target-requires : goal.unmarked_target-requires
unmarked_target-requires c = rw c.self.view_is (found_in (bitmap_of c.args.self.now).set c.loop-k.from (chunks_in c.args.self.now) c.in-Some.k (sym c.first_set_from.ensures ∙ c.in-Some.is)).1

pub overflow_add-from : goal.overflow_add-from
overflow_add-from c =
    let lt = rw (← c.self.view_is) at (found_in (bitmap_of c.args.self.now).set c.loop-k.from (chunks_in c.args.self.now) c.in-Some.k (sym c.first_set_from.ensures ∙ c.in-Some.is)).1 in
    omega (arith, lt, c.self.invariant.set_in.enough, c.self.invariant.set_in.few)

pub loop-k-smaller : goal.loop-k-smaller
loop-k-smaller c =
    let at = found_in (bitmap_of c.args.self.now).set c.loop-k.from (chunks_in c.args.self.now) c.in-Some.k (sym c.first_set_from.ensures ∙ c.in-Some.is) in
    omega (arith, at.0, at.1)

pub loop-k-preserved : goal.loop-k-preserved
loop-k-preserved c =
    let m = bitmap_of c.args.self.now in
    let found = sym c.first_set_from.ensures ∙ c.in-Some.is in
    let at = found_in m.set c.loop-k.from (chunks_in c.args.self.now) c.in-Some.k found in (
      subst (λ l. IsLeast m (has_bit c.args.targets) (chunks_in c.args.self.now) (page_of c.args.c) (c.in-Some.k + 1) l) (sym c.lesser-least.ensures)
          (least_goes m (has_bit c.args.targets) (chunks_in c.args.self.now) (page_of c.args.c) c.loop-k.from c.in-Some.k c.loop-k.least c.unmarked_target.result c.loop-k.invariant.0
          (λ j low lt. before_first m.set c.loop-k.from (chunks_in c.args.self.now - c.loop-k.from) c.in-Some.k found j low lt)
          at.1
          (sym c.page_of.ensures ∙ c.if-page_of-page.false ∙ c.page_of-page.ensures)
          (first_such_some m.set c.loop-k.from (chunks_in c.args.self.now - c.loop-k.from) c.in-Some.k found).passes
          (rw (← c.self.view_is) (sym c.unmarked_target.ensures))),
      (let a = c.loop-k.invariant.1 in omega (arith, a, at.0)),
    )

pub returns : goal.returns
returns c = λ g size.
    let m = bitmap_of c.args.self.now in
    sym (least_is g m (has_bit c.args.targets) (page_of c.args.c) c.loop-k.from c.loop-k.least
    (subst (λ n. IsLeast m (has_bit c.args.targets) n (page_of c.args.c) c.loop-k.from c.loop-k.least) size.set c.loop-k.invariant.0)
    (λ j late below is. first_such_none m.set c.loop-k.from (chunks_in c.args.self.now - c.loop-k.from) (sym c.first_set_from.ensures ∙ c.in_default.is) j late (omega (arith, below, late, size.set))))
