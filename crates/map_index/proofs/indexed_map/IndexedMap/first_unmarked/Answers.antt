use Rattle.std.proofs.Common.{Some, sym, ◌∙◌, ap, subst, arith}
use Rattle.mdc_types.specs.Bits.{has_bit}
use Rattle.node_bitmaps.specs.Map.{bitmap_of, chunks_in}
use Rattle.map_index.specs.Index.{IsFirstLacking}
use Rattle.map_index.proofs.Unmarked.{none_unmarked, found_unmarked}
use Rattle.map_index.proofs.indexed_map.IndexedMap.first_unmarked.Goals as goal

pub returns-in_err-c : goal.returns-in_err-c
returns-in_err-c c = λ g size.
    c.from_residual.ensures
    ∙ sym (none_unmarked g (bitmap_of c.args.self.now) (has_bit c.args.targets) (λ k lt is.
    c.first_lacking.ensures.none c.in_err-c.was k (omega (arith, lt, size.set)) is))

pub returns : goal.returns
returns c = λ g size.
    let m = bitmap_of c.args.self.now in
    let first : IsFirstLacking m (has_bit c.args.targets) (chunks_in c.args.self.now) c.in_ok-c.c c.in_ok-c.leg = c.in_ok-c.ensures.some in
    ap (λ p. Some (p, c.least_lacking.result)) c.page_of.ensures
    ∙ sym (found_unmarked g m (has_bit c.args.targets) c.in_ok-c.c c.in_ok-c.leg
    (subst (λ n. IsFirstLacking m (has_bit c.args.targets) n c.in_ok-c.c c.in_ok-c.leg) size.set first)
    c.least_lacking.result (sym (c.least_lacking.ensures g size)))
