use Rattle.image_array.proofs.HeadLaws.{NewestTo}
use Rattle.image_array.proofs.heads.newest.Given as goal

abbrev pub invariant-loop-l : goal.invariant-loop-l
invariant-loop-l i = NewestTo i.images i.l i.newest
