use Rattle.std.proofs.Common.{sym, ◌∙◌, arith, length}
use Rattle.std.specs.Prelude.{get_or, false}
use Rattle.mdc_types.proofs.Blocks.{found_in}
use Rattle.mdc_types.proofs.chunks.ChunkSet.first_from.Goals as goal

pub overflow_cast-result : goal.overflow_cast-result
overflow_cast-result c =
    let found = found_in (λ k. get_or c.deref.result.now k false) c.args.c (length c.deref.result.now) c.in_ok-k.k (sym c.first_of.ensures ∙ c.in_ok-k.was) in
    omega (arith, rw c.deref.ensures.value at found.1, c.self.invariant.small)
