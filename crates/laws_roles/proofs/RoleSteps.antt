-- Each way keeps what is known of the roles in views, superblocks and offers.
use Rattle.std.proofs.Common.{arith}
use Rattle.std.proofs.lemmas.Bool.Decides.{nat_tests}
use Rattle.laws_roles.proofs.Parts.{Part}
use Rattle.laws_roles.proofs.Ways.{Way, joins, comes, goes, dies, offers, offers_other, voids, writes, leaves, loses, finishes, idles, hears, resumes}
use Rattle.laws_roles.proofs.Numbers.{Numbers}
use Rattle.laws_roles.proofs.Roles.{Roles, GoodWritten, SuperGood, SuperFaulty, ViewGood, ViewFaulty, OfferGood, OfferFaulty}

pub good_written : (w v : Part) → Way w v → Numbers w → Roles w → GoodWritten v
good_written w v (offers n o p a) e r l = grind (arith, r.good_written l, r.late_roles n l, r.sure_roles n l, a.promoted l, a.all_known l, a.up, a.known)
good_written w v (finishes n o c) e r l = grind arith
good_written w v x e r l = r.good_written l

pub super_good : (w v : Part) → Way w v → Numbers w → Roles w → SuperGood v
super_good w v (offers n o p a) e r k l = grind (arith, r.super_good k l)
super_good w v (writes n j o i) e r k l = grind (arith, nat_tests, r.super_good k l, r.offer_good n l, i.offer, i.meta, i.eight l)
super_good w v (leaves n j o i) e r k l = grind (arith, nat_tests, r.super_good k l, r.offer_good n l, i.offer, i.meta, i.eight l)
super_good w v (finishes n o c) e r k l = grind (arith, e.super_drawn k, e.offer_drawn n, e.offer_says n k, c.offer, c.meta, c.eight l)
super_good w v x e r k l = r.super_good k l

pub super_faulty : (w v : Part) → Way w v → Numbers w → Roles w → SuperFaulty v
super_faulty w v (offers n o p a) e r k l = grind (arith, r.super_faulty k l)
super_faulty w v (writes n j o i) e r k l = grind (arith, nat_tests, r.super_faulty k l, r.offer_faulty n l, i.offer, i.meta, i.eight l)
super_faulty w v (leaves n j o i) e r k l = grind (arith, nat_tests, r.super_faulty k l, r.offer_faulty n l, i.offer, i.meta, i.eight l)
super_faulty w v (finishes n o c) e r k l = grind (arith, e.super_drawn k, e.offer_drawn n, e.offer_says n k, c.offer, c.meta, c.eight l)
super_faulty w v x e r k l = r.super_faulty k l

pub view_good : (w v : Part) → Way w v → Numbers w → Roles w → ViewGood v
view_good w v (joins n out silent) e r m l = grind (arith, nat_tests, r.view_good m l)
view_good w v (comes n k says lost joining idle read new quiet empty) e r m l = grind (arith, nat_tests, r.view_good m l, e.loading n k, r.super_good k l)
view_good w v (goes n silent idle) e r m l = grind (arith, nat_tests, r.view_good m l)
view_good w v (dies n) e r m l = grind (arith, nat_tests, r.view_good m l)
view_good w v (offers n o p a) e r m l = grind (arith, r.view_good m l)
view_good w v (loses n k down) e r m l = grind (arith, nat_tests, r.view_good m l)
view_good w v (finishes n o c) e r m l = grind (arith, nat_tests, c.processed m, c.hearers.told m, c.hearers.role m l, r.took_roles m l, c.offer, c.meta)
view_good w v (hears n roles size h) e r m l = grind (arith, nat_tests, r.view_good m l, h.offered l, h.offer, r.offer_good (w.receiver n).from l)
view_good w v (resumes n late) e r m l = grind (arith, nat_tests, r.view_good m l)
view_good w v x e r m l = r.view_good m l

pub view_faulty : (w v : Part) → Way w v → Numbers w → Roles w → ViewFaulty v
view_faulty w v (joins n out silent) e r m l = grind (arith, nat_tests, r.view_faulty m l)
view_faulty w v (comes n k says lost joining idle read new quiet empty) e r m l = grind (arith, nat_tests, r.view_faulty m l, e.loading n k, r.super_faulty k l)
view_faulty w v (goes n silent idle) e r m l = grind (arith, nat_tests, r.view_faulty m l)
view_faulty w v (dies n) e r m l = grind (arith, nat_tests, r.view_faulty m l)
view_faulty w v (offers n o p a) e r m l = grind (arith, r.view_faulty m l)
view_faulty w v (loses n k down) e r m l = grind (arith, nat_tests, r.view_faulty m l)
view_faulty w v (finishes n o c) e r m l = grind (arith, nat_tests, c.processed m, c.hearers.told m, c.hearers.role m l, r.took_roles m l, c.offer, c.meta)
view_faulty w v (hears n roles size h) e r m l = grind (arith, nat_tests, r.view_faulty m l, h.offered l, h.offer, r.offer_faulty (w.receiver n).from l)
view_faulty w v (resumes n late) e r m l = grind (arith, nat_tests, r.view_faulty m l)
view_faulty w v x e r m l = r.view_faulty m l

pub offer_good : (w v : Part) → Way w v → Numbers w → Roles w → OfferGood v
offer_good w v (goes n silent idle) e r m l = grind (arith, nat_tests, r.offer_good m l)
offer_good w v (dies n) e r m l = grind (arith, nat_tests, r.offer_good m l)
offer_good w v (voids n silent) e r m l = grind (arith, nat_tests, r.offer_good m l)
offer_good w v (idles n inside told) e r m l = grind (arith, nat_tests, r.offer_good m l)
offer_good w v (offers n o p a) e r m l = grind (arith, nat_tests, r.offer_good m l, p.working l, r.view_good n l, p.inside)
offer_good w v (offers_other n o other silent a) e r m l = grind (arith, nat_tests, r.offer_good m l)
offer_good w v (writes n j o i) e r m l = grind (arith, nat_tests, r.offer_good m l, i.offer)
offer_good w v (finishes n o c) e r m l = grind (arith, nat_tests, c.others m)
offer_good w v x e r m l = r.offer_good m l

pub offer_faulty : (w v : Part) → Way w v → Numbers w → Roles w → OfferFaulty v
offer_faulty w v (goes n silent idle) e r m l = grind (arith, nat_tests, r.offer_faulty m l)
offer_faulty w v (dies n) e r m l = grind (arith, nat_tests, r.offer_faulty m l)
offer_faulty w v (voids n silent) e r m l = grind (arith, nat_tests, r.offer_faulty m l)
offer_faulty w v (idles n inside told) e r m l = grind (arith, nat_tests, r.offer_faulty m l)
offer_faulty w v (offers n o p a) e r m l = grind (arith, nat_tests, r.offer_faulty m l, p.faulty l, r.view_good n l, r.view_faulty n l, p.inside)
offer_faulty w v (offers_other n o other silent a) e r m l = grind (arith, nat_tests, r.offer_faulty m l)
offer_faulty w v (writes n j o i) e r m l = grind (arith, nat_tests, r.offer_faulty m l, i.offer)
offer_faulty w v (finishes n o c) e r m l = grind (arith, nat_tests, c.others m)
offer_faulty w v x e r m l = r.offer_faulty m l
