use Rattle.std.proofs.Common.{arith, refl}
use Rattle.slot_pages.proofs.HeaderLaws.{put_more}
use Rattle.slot_pages.proofs.put_field.Goals as goal

pub loop-k-preserved : goal.loop-k-preserved
loop-k-preserved c = put_more c.args.page.now c.loop-k.page c.args.field.now c.args.at c.loop-k.k _ (omega arith) refl c.loop-k.invariant
