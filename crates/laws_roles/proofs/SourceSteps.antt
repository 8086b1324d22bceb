-- Each way keeps what is known of offers that aren't published, and of who is loaded.
use Rattle.std.proofs.Common.{arith}
use Rattle.std.proofs.lemmas.Bool.Decides.{nat_tests}
use Rattle.laws_roles.proofs.Parts.{Part}
use Rattle.laws_roles.proofs.Ways.{Way, speaks, voids, joins, comes, goes, dies, offers, offers_other, publishes, writes, leaves, loses, finishes, idles, hears, resumes}
use Rattle.laws_roles.proofs.Numbers.{Numbers}
use Rattle.laws_roles.proofs.Sources.{Sources, OfferServes, SourceCurrent, SourceWorks}

pub offer_serves : (w v : Part) → Way w v → Numbers w → Sources w → OfferServes v
offer_serves w v (speaks n s said holds other) e s' m l = grind (arith, nat_tests, s'.offer_serves m l)
offer_serves w v (voids n silent) e s m l = grind (arith, nat_tests, s.offer_serves m l)
offer_serves w v (joins n out silent) e s m l = grind (arith, nat_tests, s.offer_serves m l)
offer_serves w v (comes n k says lost joining idle read new quiet empty) e s m l = grind (arith, nat_tests, s.offer_serves m l, quiet)
offer_serves w v (goes n silent idle) e s m l = grind (arith, nat_tests, s.offer_serves m l)
offer_serves w v (dies n) e s m l = grind (arith, nat_tests, s.offer_serves m l)
offer_serves w v (offers n o p a) e s m l = grind (arith, nat_tests, s.offer_serves m l, p.working l)
offer_serves w v (offers_other n o other silent a) e s m l = grind (arith, nat_tests, s.offer_serves m l)
offer_serves w v (publishes n calm due) e s m l = grind (arith, nat_tests, s.offer_serves m l)
offer_serves w v (writes n j o i) e s m l = grind (arith, nat_tests, s.offer_serves m l, i.offer)
offer_serves w v (loses n k down) e s m l = grind (arith, nat_tests, s.offer_serves m l)
offer_serves w v (finishes n o c) e s m l = grind (arith, nat_tests, c.others m)
offer_serves w v (idles n inside told) e s m l = grind (arith, nat_tests, s.offer_serves m l)
offer_serves w v (hears n roles size h) e s m l = grind (arith, nat_tests, s.offer_serves m l, h.silent)
offer_serves w v (resumes n late) e s m l = grind (arith, nat_tests, s.offer_serves m l)
offer_serves w v x e s m l = s.offer_serves m l

pub source_current : (w v : Part) → Way w v → Numbers w → Sources w → SourceCurrent v
source_current w v (joins n out silent) e s m = grind (arith, nat_tests, s.source_current m)
source_current w v (comes n k says lost joining idle read new quiet empty) e s m = grind (arith, nat_tests, s.source_current m, e.loading n k)
source_current w v (goes n silent idle) e s m = grind (arith, nat_tests, s.source_current m)
source_current w v (dies n) e s m = grind (arith, nat_tests, s.source_current m)
source_current w v (writes n j o i) e s m = grind (arith, nat_tests, s.source_current m, e.offer_drawn n, e.offer_new n, i.offer, i.meta)
source_current w v (leaves n j o i) e s m = grind (arith, nat_tests, s.source_current m, e.offer_drawn n, e.offer_new n, i.offer, i.meta)
source_current w v (finishes n o c) e s m = grind (arith, nat_tests, c.loaded m)
source_current w v x e s m = s.source_current m

pub source_works : (w v : Part) → Way w v → Numbers w → Sources w → SourceWorks v
source_works w v (joins n out silent) e s m l = grind (arith, nat_tests, s.source_works m l)
source_works w v (comes n k says lost joining idle read new quiet empty) e s m l = grind (arith, nat_tests, s.source_works m l, e.loading n k)
source_works w v (goes n silent idle) e s m l = grind (arith, nat_tests, s.source_works m l)
source_works w v (dies n) e s m l = grind (arith, nat_tests, s.source_works m l)
source_works w v (writes n j o i) e s m l = grind (arith, nat_tests, s.source_works m l, i.loaded m, i.serves l, i.eight l)
source_works w v (leaves n j o i) e s m l = grind (arith, nat_tests, s.source_works m l, i.loaded m, i.serves l, i.eight l)
source_works w v (loses n k down) e s m l = grind (arith, nat_tests, s.source_works m l)
source_works w v (finishes n o c) e s m l = grind (arith, nat_tests, c.loaded m)
source_works w v (hears n roles size h) e s m l = grind (arith, nat_tests, s.source_works m l, h.up)
source_works w v (resumes n late) e s m l = grind (arith, nat_tests, s.source_works m l)
source_works w v x e s m l = s.source_works m l

pub sources_step : (w v : Part) → Way w v → Numbers w → Sources w → Sources v
sources_step w v x e s = record {
  offer_serves = offer_serves w v x e s;
  source_current = source_current w v x e s;
  source_works = source_works w v x e s;
}
