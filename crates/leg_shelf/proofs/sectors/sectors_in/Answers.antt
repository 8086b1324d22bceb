use Rattle.std.proofs.Common.{arith, ◌∙◌, ap, ◌++◌, ◌∷◌, [], sym, map, ◌+◌}
use Rattle.std.proofs.lemmas.List.FromFn.{map-range_with_len_more}
use Rattle.std.specs.List.{range_with_len}
use Rattle.leg_shelf.specs.Images.{sector_at}
use Rattle.leg_shelf.proofs.sectors.sectors_in.Goals as goal

pub loop-k-preserved : goal.loop-k-preserved
loop-k-preserved c = (
  c.in_ok-push.ensures.items
      ∙ ap (λ xs. xs ++ c.sector_at.result ∷ []) c.loop-k.invariant.0
      ∙ ap (λ v. (map (sector_at c.args.bytes.now) (range_with_len 0 c.loop-k.k)) ++ v ∷ []) c.sector_at.ensures
      ∙ sym (map-range_with_len_more (sector_at c.args.bytes.now) 0 c.loop-k.k c.loop-k.k (omega arith)),
  c.in_ok-push.ensures.len ∙ ap (λ k. k + 1) c.loop-k.invariant.1,
)
