use Rattle.std.proofs.Common.{◌≡◌}
use Rattle.node_bitmaps.specs.Map.{bitmap_of}
use Rattle.report_text.specs.Sets.{members}
use Rattle.report_text.proofs.sets.set_chunks.Given as goal

abbrev pub invariant-loop-c : goal.invariant-loop-c
invariant-loop-c l = l.chunks.items ≡ members (bitmap_of l.m).set l.c
