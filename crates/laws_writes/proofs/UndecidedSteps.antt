-- Each way keeps what sectors may be undecided.
use Rattle.std.proofs.Common.{arith}
use Rattle.std.proofs.lemmas.Bool.Decides.{nat_tests}
use Rattle.storage_ways.proofs.Parts.{Part}
use Rattle.storage_ways.proofs.Ways.{Way}
use Rattle.storage_ways.proofs.Ways as ways
use Rattle.laws_writes.proofs.Ghosts.{Ghost, ghost_after}
use Rattle.laws_writes.proofs.Contents.{UndecidedWithin}

pub undecided_within : (w v : Part) (x : Way w v) (g : Ghost) → UndecidedWithin w g → UndecidedWithin v (ghost_after x g)
undecided_within w v (ways.outs n k l x t) g u s = grind (arith, nat_tests, u s, t.sector)
undecided_within w v (ways.misses n k l x left t) g u s = grind (arith, nat_tests, u s, t.sector)
undecided_within w v (ways.ends n k x e) g u s = grind (arith, nat_tests, u s)
undecided_within w v (ways.settles n p b e) g u s = grind (arith, nat_tests, u s)
undecided_within w v x g u s = u s
