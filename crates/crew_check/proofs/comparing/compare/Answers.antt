use Rattle.std.proofs.Common.{◌≡◌, ◌<◌, ◌-◌, ℕ, length, map, ap, subst, ◌∙◌, arith}
use Rattle.std.specs.List.{range_with_len}
use Rattle.std.proofs.lemmas.Slice.Zip.{AllZip-map}
use Rattle.rayon.specs.Numbers.{nat_range}
use Rattle.rayon.proofs.ToStd.{nat_range-All}
use Rattle.dlm_modes.specs.Guards.{first_of}
use Rattle.crew_check.specs.Blocks.{blocks_of, first_in_block}
use Rattle.crew_check.proofs.BlockLaws.{all_blocks_find}
use Rattle.crew_check.proofs.comparing.compare.Goals as goal

pub collect-requires-clause-ready : goal.collect-requires-clause-ready
collect-requires-clause-ready g c κs within =
    let ends = c.into_par_iter.ensures in
    let inside = nat_range-All (λ i. (i < blocks_of (length c.args.a.now)) × (length c.args.b.now ≡ length c.args.a.now)) 0 c.blocks_of.result
    (λ i low high. (subst (λ m. i < m) c.blocks_of.ensures high, c.requires)) in
    rw (c.map.ensures.base, c.map.ensures.f, ends.0, ends.1) (λ k d lt. (inside k d lt, λ y p. tt))

pub returns : goal.returns
returns g c =
    let ends = c.into_par_iter.ensures in
    let n = c.blocks_of.result in
    let whole : n - 0 ≡ n = omega arith in
    let finds = λ (i : ℕ). first_in_block c.args.a.now c.args.b.now i in
    let done = c.in_ok-found.ensures in
    let chain = rw (c.map.ensures.base, c.map.ensures.f) at done.1 in
    let places = chain.1 ∙ (λ i. nat_range (ends.0 i) (ends.1 i)) ∙ ap (range_with_len 0) whole in
    let items = done.2 ∙ AllZip-map finds chain.0 done.0 chain.2 ∙ ap (map finds) places in
    c.first_found.ensures ∙ ap first_of (c.as_slice.ensures.value ∙ items)
    ∙ ap (λ m. first_of (map finds (range_with_len 0 m))) c.blocks_of.ensures
    ∙ all_blocks_find c.args.a.now c.args.b.now
