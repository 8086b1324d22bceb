-- Each way keeps what is known of sizes, and what was agreed on never shrinks.
use Rattle.std.proofs.Common.{◌≤◌, arith}
use Rattle.std.proofs.lemmas.Bool.Decides.{nat_tests}
use Rattle.laws_roles.proofs.Parts.{Part}
use Rattle.laws_roles.proofs.Ways.{Way, speaks, voids, readies, joins, comes, goes, dies, offers, offers_other, publishes, writes, leaves, loses, finishes, idles, takes, hears, passes, resumes, rests}
use Rattle.laws_roles.proofs.Numbers.{Numbers}
use Rattle.laws_roles.proofs.Sizes.{SizesHold, SuperSize, ViewSize, OfferSize, TookSize, LateSize, SureSize, SureBelow}

pub never_shrinks : (w v : Part) → Way w v → SizesHold w → w.ghost.agreed.size ≤ v.ghost.agreed.size
never_shrinks w v (finishes n o c) z = grind (arith, z.offer_size n, c.offer, c.meta)
never_shrinks w v x z = grind arith

pub super_size : (w v : Part) → Way w v → Numbers w → SizesHold w → SuperSize v
super_size w v (writes n j o i) e z k = grind (arith, nat_tests, z.super_size k, z.offer_size n, i.offer, i.meta)
super_size w v (leaves n j o i) e z k = grind (arith, nat_tests, z.super_size k, z.offer_size n, i.offer, i.meta)
super_size w v (finishes n o c) e z k = grind (arith, e.super_drawn k, e.offer_drawn n, e.offer_says n k, c.offer, c.meta)
super_size w v x e z k = z.super_size k

pub view_size : (w v : Part) → Way w v → Numbers w → SizesHold w → ViewSize v
view_size w v (joins n out silent) e z m = grind (arith, nat_tests, z.view_size m)
view_size w v (comes n k says lost joining idle read new quiet empty) e z m = grind (arith, nat_tests, z.view_size m, e.loading n k, z.super_size k)
view_size w v (goes n silent idle) e z m = grind (arith, nat_tests, z.view_size m)
view_size w v (dies n) e z m = grind (arith, nat_tests, z.view_size m)
view_size w v (loses n k down) e z m = grind (arith, nat_tests, z.view_size m)
view_size w v (finishes n o c) e z m = grind (arith, nat_tests, c.processed m, c.hearers.told m, c.hearers.size m, z.took_size m, c.offer, c.meta)
view_size w v (hears n roles size h) e z m = grind (arith, nat_tests, z.view_size m, h.offered_size, h.offer, z.offer_size (w.receiver n).from)
view_size w v (resumes n late) e z m = grind (arith, nat_tests, z.view_size m)
view_size w v x e z m = z.view_size m

pub offer_size : (w v : Part) → Way w v → Numbers w → SizesHold w → OfferSize v
offer_size w v (goes n silent idle) e z m = grind (arith, nat_tests, z.offer_size m)
offer_size w v (dies n) e z m = grind (arith, nat_tests, z.offer_size m)
offer_size w v (voids n silent) e z m = grind (arith, nat_tests, z.offer_size m)
offer_size w v (idles n inside told) e z m = grind (arith, nat_tests, z.offer_size m)
offer_size w v (offers n o p a) e z m = grind (arith, nat_tests, z.offer_size m, z.view_size n, z.sure_size n, p.size, p.inside, p.idle)
offer_size w v (offers_other n o other silent a) e z m = grind (arith, nat_tests, z.offer_size m)
offer_size w v (writes n j o i) e z m = grind (arith, nat_tests, z.offer_size m, i.offer)
offer_size w v (finishes n o c) e z m = grind (arith, nat_tests, c.others m)
offer_size w v x e z m = z.offer_size m

pub took_size : (w v : Part) → Way w v → Numbers w → SizesHold w → TookSize v
took_size w v (readies n did) e z m = grind (arith, nat_tests, z.took_size m)
took_size w v (comes n k says lost joining idle read new quiet empty) e z m = grind (arith, nat_tests, z.took_size m)
took_size w v (goes n silent idle) e z m = grind (arith, nat_tests, z.took_size m)
took_size w v (dies n) e z m = grind (arith, nat_tests, z.took_size m)
took_size w v (loses n k down) e z m = grind (arith, nat_tests, z.took_size m)
took_size w v (finishes n o c) e z m = grind (arith, nat_tests, z.took_size m, c.idle)
took_size w v (takes n from x idle) e z m = grind (arith, nat_tests, z.took_size m)
took_size w v (hears n roles size h) e z m = grind (arith, nat_tests, z.took_size m, h.says_size)
took_size w v (passes n other) e z m = grind (arith, nat_tests, z.took_size m)
took_size w v (resumes n late) e z m = grind (arith, nat_tests, z.took_size m)
took_size w v (rests n late) e z m = grind (arith, nat_tests, z.took_size m)
took_size w v x e z m = z.took_size m

pub late_size : (w v : Part) → Way w v → Numbers w → SizesHold w → LateSize v
late_size w v (speaks n s said holds other) e z m = grind (arith, nat_tests, z.late_size m)
late_size w v (voids n silent) e z m = grind (arith, nat_tests, z.late_size m)
late_size w v (readies n did) e z m = grind (arith, nat_tests, z.late_size m)
late_size w v (joins n out silent) e z m = grind (arith, nat_tests, z.late_size m)
late_size w v (comes n k says lost joining idle read new quiet empty) e z m = grind (arith, nat_tests, z.late_size m)
late_size w v (goes n silent idle) e z m = grind (arith, nat_tests, z.late_size m)
late_size w v (dies n) e z m = grind (arith, nat_tests, z.late_size m)
late_size w v (offers n o p a) e z m = grind (arith, nat_tests, z.late_size m, p.silent)
late_size w v (offers_other n o other silent a) e z m = grind (arith, nat_tests, z.late_size m)
late_size w v (publishes n calm due) e z m = grind (arith, nat_tests, calm m)
late_size w v (loses n k down) e z m = grind (arith, nat_tests, z.late_size m)
late_size w v (finishes n o c) e z m = grind (arith, nat_tests, c.hearers.told m, c.hearers.size m, z.took_size m, c.offer, c.meta, c.idle)
late_size w v (idles n inside told) e z m = grind (arith, nat_tests, z.late_size m, told m)
late_size w v (takes n from x idle) e z m = grind (arith, nat_tests, z.late_size m)
late_size w v (hears n roles size h) e z m = grind (arith, nat_tests, z.late_size m, h.published)
late_size w v (passes n other) e z m = grind (arith, nat_tests, z.late_size m)
late_size w v (resumes n late) e z m = grind (arith, nat_tests, z.late_size m)
late_size w v (rests n late) e z m = grind (arith, nat_tests, z.late_size m)
late_size w v x e z m = z.late_size m

pub sure_size : (w v : Part) → Way w v → Numbers w → SizesHold w → SureSize v
sure_size w v (speaks n s said holds other) e z m = grind (arith, nat_tests, z.sure_size m)
sure_size w v (voids n silent) e z m = grind (arith, nat_tests, z.sure_size m)
sure_size w v (readies n did) e z m = grind (arith, nat_tests, z.sure_size m)
sure_size w v (joins n out silent) e z m = grind (arith, nat_tests, z.sure_size m)
sure_size w v (comes n k says lost joining idle read new quiet empty) e z m = grind (arith, nat_tests, z.sure_size m)
sure_size w v (goes n silent idle) e z m = grind (arith, nat_tests, z.sure_size m)
sure_size w v (dies n) e z m = grind (arith, nat_tests, z.sure_size m)
sure_size w v (offers n o p a) e z m = grind (arith, nat_tests, z.sure_size m, p.silent)
sure_size w v (offers_other n o other silent a) e z m = grind (arith, nat_tests, z.sure_size m)
sure_size w v (publishes n calm due) e z m = grind (arith, nat_tests, z.sure_size m, calm m)
sure_size w v (loses n k down) e z m = grind (arith, nat_tests, z.sure_size m)
sure_size w v (finishes n o c) e z m = grind (arith, nat_tests, c.processed m, c.hearers.told m, c.hearers.gone m, c.hearers.from m, c.offer, c.meta)
sure_size w v (idles n inside told) e z m = grind (arith, nat_tests, z.sure_size m, told m)
sure_size w v (takes n from x idle) e z m = grind (arith, nat_tests, z.sure_size m)
sure_size w v (hears n roles size h) e z m = grind (arith, nat_tests, z.sure_size m, h.published)
sure_size w v (passes n other) e z m = grind (arith, nat_tests, z.sure_size m)
sure_size w v (resumes n late) e z m = grind (arith, nat_tests, z.sure_size m, z.late_size n)
sure_size w v (rests n late) e z m = grind (arith, nat_tests, z.sure_size m)
sure_size w v x e z m = z.sure_size m

pub sure_below : (w v : Part) → Way w v → Numbers w → SizesHold w → SureBelow v
sure_below w v (joins n out silent) e z m = grind (arith, nat_tests, z.sure_below m)
sure_below w v (comes n k says lost joining idle read new quiet empty) e z m = grind (arith, nat_tests, z.sure_below m)
sure_below w v (goes n silent idle) e z m = grind (arith, nat_tests, z.sure_below m)
sure_below w v (dies n) e z m = grind (arith, nat_tests, z.sure_below m)
sure_below w v (loses n k down) e z m = grind (arith, nat_tests, z.sure_below m)
sure_below w v (finishes n o c) e z m = grind (arith, nat_tests, z.sure_below m, z.offer_size n, c.offer, c.meta)
sure_below w v (hears n roles size h) e z m = grind (arith, nat_tests, z.sure_below m)
sure_below w v (resumes n late) e z m = grind (arith, nat_tests, z.sure_below m, z.late_size n)
sure_below w v x e z m = z.sure_below m

pub sizes_step : (w v : Part) → Way w v → Numbers w → SizesHold w → SizesHold v
sizes_step w v x e z = record {
  super_size = super_size w v x e z;
  view_size = view_size w v x e z;
  offer_size = offer_size w v x e z;
  took_size = took_size w v x e z;
  late_size = late_size w v x e z;
  sure_size = sure_size w v x e z;
  sure_below = sure_below w v x e z;
}
