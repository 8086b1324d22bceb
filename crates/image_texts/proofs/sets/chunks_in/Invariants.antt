use Rattle.std.proofs.Common.{◌≡◌, false, get_or}
use Rattle.image_texts.specs.Sets.{members}
use Rattle.image_texts.proofs.sets.chunks_in.Given as goal

abbrev pub invariant-loop-c : goal.invariant-loop-c
invariant-loop-c l = l.chunks.items ≡ members (λ c. get_or l.set c false) l.c
