use Rattle.std.proofs.Common.{◌≡◌, ℕ, ◌∙◌, ap, get_or, arith}
use Rattle.mdc_types.specs.Bits.{has_bit}
use Rattle.read_balance.proofs.Choices.{nearest_below, nearest_below-is, nearest_below-within}
use Rattle.read_balance.proofs.nearest_leg.Goals as goal

pub nearer_leg-requires-clause-legs : goal.nearer_leg-requires-clause-legs
nearer_leg-requires-clause-legs c = rw c.loop-l.invariant (nearest_below-within _ _ _ c.loop-l.l 8 (omega arith))

pub returns : goal.returns
returns c =
    let head : ℕ → ℕ = λ k. get_or c.args.heads.now k 0 in
    let all : c.loop-l.l ≡ 8 = omega arith in
    c.loop-l.invariant ∙ ap (nearest_below (has_bit c.args.working) head c.args.s) all ∙ nearest_below-is (has_bit c.args.working) head c.args.s 8
