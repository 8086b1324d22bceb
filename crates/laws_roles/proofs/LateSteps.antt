-- Each way keeps what receivers took and what up nodes are sure of.
use Rattle.std.proofs.Common.{arith}
use Rattle.std.proofs.lemmas.Bool.Decides.{nat_tests}
use Rattle.laws_roles.proofs.Parts.{Part}
use Rattle.laws_roles.proofs.Ways.{Way, speaks, voids, readies, joins, comes, goes, dies, offers, offers_other, publishes, loses, finishes, idles, takes, hears, passes, resumes, rests}
use Rattle.laws_roles.proofs.Numbers.{Numbers}
use Rattle.laws_roles.proofs.Roles.{Roles, TookRoles, LateRoles, SureRoles}
use Rattle.laws_roles.proofs.RoleSteps.{good_written, super_good, super_faulty, view_good, view_faulty, offer_good, offer_faulty}

pub took_roles : (w v : Part) → Way w v → Numbers w → Roles w → TookRoles v
took_roles w v (readies n did) e r m l = grind (arith, nat_tests, r.took_roles m l)
took_roles w v (comes n k says lost joining idle read new quiet empty) e r m l = grind (arith, nat_tests, r.took_roles m l)
took_roles w v (goes n silent idle) e r m l = grind (arith, nat_tests, r.took_roles m l)
took_roles w v (dies n) e r m l = grind (arith, nat_tests, r.took_roles m l)
took_roles w v (loses n k down) e r m l = grind (arith, nat_tests, r.took_roles m l)
took_roles w v (finishes n o c) e r m l = grind (arith, nat_tests, r.took_roles m l, c.idle)
took_roles w v (takes n from x idle) e r m l = grind (arith, nat_tests, r.took_roles m l)
took_roles w v (hears n roles size h) e r m l = grind (arith, nat_tests, r.took_roles m l, h.says_role l)
took_roles w v (passes n other) e r m l = grind (arith, nat_tests, r.took_roles m l)
took_roles w v (resumes n late) e r m l = grind (arith, nat_tests, r.took_roles m l)
took_roles w v (rests n late) e r m l = grind (arith, nat_tests, r.took_roles m l)
took_roles w v x e r m l = r.took_roles m l

pub late_roles : (w v : Part) → Way w v → Numbers w → Roles w → LateRoles v
late_roles w v (speaks n s said holds other) e r m l = grind (arith, nat_tests, r.late_roles m l)
late_roles w v (voids n silent) e r m l = grind (arith, nat_tests, r.late_roles m l)
late_roles w v (readies n did) e r m l = grind (arith, nat_tests, r.late_roles m l)
late_roles w v (joins n out silent) e r m l = grind (arith, nat_tests, r.late_roles m l)
late_roles w v (comes n k says lost joining idle read new quiet empty) e r m l = grind (arith, nat_tests, r.late_roles m l)
late_roles w v (goes n silent idle) e r m l = grind (arith, nat_tests, r.late_roles m l)
late_roles w v (dies n) e r m l = grind (arith, nat_tests, r.late_roles m l)
late_roles w v (offers n o p a) e r m l = grind (arith, nat_tests, r.late_roles m l, p.silent)
late_roles w v (offers_other n o other silent a) e r m l = grind (arith, nat_tests, r.late_roles m l)
late_roles w v (publishes n calm due) e r m l = grind (arith, nat_tests, calm m)
late_roles w v (loses n k down) e r m l = grind (arith, nat_tests, r.late_roles m l)
late_roles w v (finishes n o c) e r m l = grind (arith, nat_tests, c.hearers.told m, c.hearers.role m l, r.took_roles m l, c.offer, c.meta, c.idle)
late_roles w v (idles n inside told) e r m l = grind (arith, nat_tests, r.late_roles m l, told m)
late_roles w v (takes n from x idle) e r m l = grind (arith, nat_tests, r.late_roles m l)
late_roles w v (hears n roles size h) e r m l = grind (arith, nat_tests, r.late_roles m l, h.published)
late_roles w v (passes n other) e r m l = grind (arith, nat_tests, r.late_roles m l)
late_roles w v (resumes n late) e r m l = grind (arith, nat_tests, r.late_roles m l)
late_roles w v (rests n late) e r m l = grind (arith, nat_tests, r.late_roles m l)
late_roles w v x e r m l = r.late_roles m l

pub sure_roles : (w v : Part) → Way w v → Numbers w → Roles w → SureRoles v
sure_roles w v (speaks n s said holds other) e r m l = grind (arith, nat_tests, r.sure_roles m l)
sure_roles w v (voids n silent) e r m l = grind (arith, nat_tests, r.sure_roles m l)
sure_roles w v (readies n did) e r m l = grind (arith, nat_tests, r.sure_roles m l)
sure_roles w v (joins n out silent) e r m l = grind (arith, nat_tests, r.sure_roles m l)
sure_roles w v (comes n k says lost joining idle read new quiet empty) e r m l = grind (arith, nat_tests, r.sure_roles m l)
sure_roles w v (goes n silent idle) e r m l = grind (arith, nat_tests, r.sure_roles m l)
sure_roles w v (dies n) e r m l = grind (arith, nat_tests, r.sure_roles m l)
sure_roles w v (offers n o p a) e r m l = grind (arith, nat_tests, r.sure_roles m l, p.silent)
sure_roles w v (offers_other n o other silent a) e r m l = grind (arith, nat_tests, r.sure_roles m l)
sure_roles w v (publishes n calm due) e r m l = grind (arith, nat_tests, r.sure_roles m l, calm m)
sure_roles w v (loses n k down) e r m l = grind (arith, nat_tests, r.sure_roles m l)
sure_roles w v (finishes n o c) e r m l = grind (arith, nat_tests, c.processed m, c.hearers.told m, c.hearers.gone m, c.hearers.from m, c.offer, c.meta)
sure_roles w v (idles n inside told) e r m l = grind (arith, nat_tests, r.sure_roles m l, told m)
sure_roles w v (takes n from x idle) e r m l = grind (arith, nat_tests, r.sure_roles m l)
sure_roles w v (hears n roles size h) e r m l = grind (arith, nat_tests, r.sure_roles m l, h.published)
sure_roles w v (passes n other) e r m l = grind (arith, nat_tests, r.sure_roles m l)
sure_roles w v (resumes n late) e r m l = grind (arith, nat_tests, r.sure_roles m l, r.late_roles n l)
sure_roles w v (rests n late) e r m l = grind (arith, nat_tests, r.sure_roles m l)
sure_roles w v x e r m l = r.sure_roles m l

pub roles_step : (w v : Part) → Way w v → Numbers w → Roles w → Roles v
roles_step w v x e r = record {
  good_written = good_written w v x e r;
  super_good = super_good w v x e r;
  super_faulty = super_faulty w v x e r;
  view_good = view_good w v x e r;
  view_faulty = view_faulty w v x e r;
  offer_good = offer_good w v x e r;
  offer_faulty = offer_faulty w v x e r;
  took_roles = took_roles w v x e r;
  late_roles = late_roles w v x e r;
  sure_roles = sure_roles w v x e r;
}
