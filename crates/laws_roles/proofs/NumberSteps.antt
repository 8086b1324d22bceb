-- Each way keeps what is known of events numbers.
use Rattle.std.proofs.Common.{◌≤◌, arith}
use Rattle.std.proofs.lemmas.Bool.Decides.{nat_tests}
use Rattle.laws_roles.proofs.Parts.{Part}
use Rattle.laws_roles.proofs.Ways.{Way, speaks, joins, loads, comes, goes, dies, offers, offers_other, publishes, voids, writes, leaves, finishes, idles}
use Rattle.laws_roles.proofs.Numbers.{Numbers, SuperDrawn, OfferDrawn, OfferNew, OfferSays, OfferWritten, AllWritten, SameSays, Loading, LoaderJoins, LoaderHolds, HomeCurrent, WrittenCurrent}

pub some_completed : (w v : Part) → Way w v → Numbers w → 1 ≤ v.completed
some_completed w v (finishes n o c) e = grind (arith, e.offer_drawn n, e.offer_new n, c.offer, c.meta, e.some_completed)
some_completed w v x e = e.some_completed

pub super_drawn : (w v : Part) → Way w v → Numbers w → SuperDrawn v
super_drawn w v (offers n o p a) e k = grind (arith, e.super_drawn k)
super_drawn w v (writes n j o i) e k = grind (arith, nat_tests, e.super_drawn k, e.offer_drawn n, i.offer, i.meta)
super_drawn w v (leaves n j o i) e k = grind (arith, nat_tests, e.super_drawn k, e.offer_drawn n, i.offer, i.meta)
super_drawn w v x e k = e.super_drawn k

pub offer_drawn : (w v : Part) → Way w v → Numbers w → OfferDrawn v
offer_drawn w v (goes n silent idle) e m = grind (arith, nat_tests, e.offer_drawn m)
offer_drawn w v (dies n) e m = grind (arith, nat_tests, e.offer_drawn m)
offer_drawn w v (voids n silent) e m = grind (arith, nat_tests, e.offer_drawn m)
offer_drawn w v (idles n inside told) e m = grind (arith, nat_tests, e.offer_drawn m)
offer_drawn w v (offers n o p a) e m = grind (arith, nat_tests, p.none m, p.events)
offer_drawn w v (offers_other n o other silent a) e m = grind (arith, nat_tests, e.offer_drawn m)
offer_drawn w v (writes n j o i) e m = grind (arith, nat_tests, e.offer_drawn m, i.offer)
offer_drawn w v (finishes n o c) e m = grind (arith, nat_tests, c.others m)
offer_drawn w v x e m = e.offer_drawn m

pub offer_new : (w v : Part) → Way w v → Numbers w → OfferNew v
offer_new w v (goes n silent idle) e m = grind (arith, nat_tests, e.offer_new m)
offer_new w v (dies n) e m = grind (arith, nat_tests, e.offer_new m)
offer_new w v (voids n silent) e m = grind (arith, nat_tests, e.offer_new m)
offer_new w v (idles n inside told) e m = grind (arith, nat_tests, e.offer_new m)
offer_new w v (offers n o p a) e m = grind (arith, nat_tests, p.none m, e.home_current, e.super_drawn w.ghost.home)
offer_new w v (offers_other n o other silent a) e m = grind (arith, nat_tests, e.offer_new m)
offer_new w v (writes n j o i) e m = grind (arith, nat_tests, e.offer_new m, i.offer)
offer_new w v (finishes n o c) e m = grind (arith, nat_tests, c.others m)
offer_new w v x e m = e.offer_new m

pub offer_says : (w v : Part) → Way w v → Numbers w → OfferSays v
offer_says w v (goes n silent idle) e m k = grind (arith, nat_tests, e.offer_says m k)
offer_says w v (dies n) e m k = grind (arith, nat_tests, e.offer_says m k)
offer_says w v (voids n silent) e m k = grind (arith, nat_tests, e.offer_says m k)
offer_says w v (idles n inside told) e m k = grind (arith, nat_tests, e.offer_says m k)
offer_says w v (offers n o p a) e m k = grind (arith, nat_tests, p.none m, p.events, e.super_drawn k)
offer_says w v (offers_other n o other silent a) e m k = grind (arith, nat_tests, e.offer_says m k)
offer_says w v (writes n j o i) e m k = grind (arith, nat_tests, e.offer_says m k, i.offer, i.others m)
offer_says w v (leaves n j o i) e m k = grind (arith, nat_tests, e.offer_says m k, i.offer, i.others m)
offer_says w v (finishes n o c) e m k = grind (arith, nat_tests, c.others m)
offer_says w v x e m k = e.offer_says m k

pub offer_written : (w v : Part) → Way w v → Numbers w → OfferWritten v
offer_written w v (goes n silent idle) e m k = grind (arith, nat_tests, e.offer_written m k)
offer_written w v (dies n) e m k = grind (arith, nat_tests, e.offer_written m k)
offer_written w v (voids n silent) e m k = grind (arith, nat_tests, e.offer_written m k)
offer_written w v (idles n inside told) e m k = grind (arith, nat_tests, e.offer_written m k)
offer_written w v (offers n o p a) e m k = grind (arith, nat_tests, p.none m, p.fresh k)
offer_written w v (offers_other n o other silent a) e m k = grind (arith, nat_tests, e.offer_written m k)
offer_written w v (writes n j o i) e m k = grind (arith, nat_tests, e.offer_written m k, i.offer, i.others m)
offer_written w v (leaves n j o i) e m k = grind (arith, nat_tests, e.offer_written m k, i.offer, i.others m)
offer_written w v (finishes n o c) e m k = grind (arith, nat_tests, c.others m)
offer_written w v x e m k = e.offer_written m k

pub all_written : (w v : Part) → Way w v → Numbers w → AllWritten v
all_written w v (speaks n s said holds other) e m l = grind (arith, nat_tests, e.all_written m l)
all_written w v (joins n out silent) e m l = grind (arith, nat_tests, e.all_written m l)
all_written w v (goes n silent idle) e m l = grind (arith, nat_tests, e.all_written m l)
all_written w v (dies n) e m l = grind (arith, nat_tests, e.all_written m l)
all_written w v (voids n silent) e m l = grind (arith, nat_tests, e.all_written m l)
all_written w v (idles n inside told) e m l = grind (arith, nat_tests, e.all_written m l)
all_written w v (offers n o p a) e m l = grind (arith, nat_tests, p.none m)
all_written w v (offers_other n o other silent a) e m l = grind (arith, nat_tests, e.all_written m l)
all_written w v (publishes n calm due) e m l = grind (arith, nat_tests, e.all_written m l, due)
all_written w v (writes n j o i) e m l = grind (arith, nat_tests, e.all_written m l, i.offer, i.others m)
all_written w v (finishes n o c) e m l = grind (arith, nat_tests, c.others m)
all_written w v x e m l = e.all_written m l

pub same_says : (w v : Part) → Way w v → Numbers w → SameSays v
same_says w v (writes n l o i) e j k = grind (arith, nat_tests, e.same_says j k, e.offer_says n j, e.offer_says n k, i.offer, i.meta)
same_says w v (leaves n l o i) e j k = grind (arith, nat_tests, e.same_says j k, e.offer_says n j, e.offer_says n k, i.offer, i.meta)
same_says w v x e j k = e.same_says j k

pub loading : (w v : Part) → Way w v → Numbers w → Loading v
loading w v (loads n l t joining holds same) e m k = grind (arith, nat_tests, e.loading m k, same)
loading w v (comes n l says lost joining idle read new quiet empty) e m k = grind (arith, nat_tests, e.loading m k)
loading w v (goes n silent idle) e m k = grind (arith, nat_tests, e.loading m k)
loading w v (dies n) e m k = grind (arith, nat_tests, e.loading m k)
loading w v (writes n l o i) e m k = grind (arith, nat_tests, e.loading m k, e.loader_joins m k, e.loader_holds m k, i.alone m)
loading w v (leaves n l o i) e m k = grind (arith, nat_tests, e.loading m k, e.loader_joins m k, e.loader_holds m k, i.alone m)
loading w v x e m k = e.loading m k

pub loader_joins : (w v : Part) → Way w v → Numbers w → LoaderJoins v
loader_joins w v (joins n out silent) e m k = grind (arith, nat_tests, e.loader_joins m k)
loader_joins w v (loads n l t joining holds same) e m k = grind (arith, nat_tests, e.loader_joins m k)
loader_joins w v (comes n l says lost joining idle read new quiet empty) e m k = grind (arith, nat_tests, e.loader_joins m k)
loader_joins w v (goes n silent idle) e m k = grind (arith, nat_tests, e.loader_joins m k)
loader_joins w v (dies n) e m k = grind (arith, nat_tests, e.loader_joins m k)
loader_joins w v (finishes n o c) e m k = grind (arith, nat_tests, e.loader_joins m k, c.inside)
loader_joins w v x e m k = e.loader_joins m k

pub loader_holds : (w v : Part) → Way w v → Numbers w → LoaderHolds v
loader_holds w v (speaks n s said holds other) e m k = grind (arith, nat_tests, e.loader_holds m k)
loader_holds w v (joins n out silent) e m k = grind (arith, nat_tests, e.loader_holds m k, e.loader_joins m k)
loader_holds w v (loads n l t joining holds same) e m k = grind (arith, nat_tests, e.loader_holds m k)
loader_holds w v (comes n l says lost joining idle read new quiet empty) e m k = grind (arith, nat_tests, e.loader_holds m k)
loader_holds w v (goes n silent idle) e m k = grind (arith, nat_tests, e.loader_holds m k)
loader_holds w v (dies n) e m k = grind (arith, nat_tests, e.loader_holds m k)
loader_holds w v (voids n silent) e m k = grind (arith, nat_tests, e.loader_holds m k)
loader_holds w v (idles n inside told) e m k = grind (arith, nat_tests, e.loader_holds m k, e.loader_joins m k)
loader_holds w v (offers n o p a) e m k = grind (arith, nat_tests, e.loader_holds m k)
loader_holds w v (offers_other n o other silent a) e m k = grind (arith, nat_tests, e.loader_holds m k)
loader_holds w v (publishes n calm due) e m k = grind (arith, nat_tests, e.loader_holds m k)
loader_holds w v (finishes n o c) e m k = grind (arith, nat_tests, e.loader_holds m k, e.loader_joins m k, c.inside)
loader_holds w v x e m k = e.loader_holds m k

pub home_current : (w v : Part) → Way w v → Numbers w → HomeCurrent v
home_current w v (writes n l o i) e = grind (arith, nat_tests, e.home_current, e.offer_drawn n, e.offer_new n, i.offer, i.meta)
home_current w v (leaves n l o i) e = grind (arith, nat_tests, e.home_current, e.offer_drawn n, e.offer_new n, i.offer, i.meta)
home_current w v (finishes n o c) e = grind (arith, c.works, c.offer, c.meta, c.published, e.all_written n v.ghost.home, e.offer_written n v.ghost.home)
home_current w v x e = e.home_current

pub written_current : (w v : Part) → Way w v → Numbers w → WrittenCurrent v
written_current w v (joins n out silent) e m k = grind (arith, nat_tests, e.written_current m k)
written_current w v (comes n l says lost joining idle read new quiet empty) e m k = grind (arith, nat_tests, e.written_current m k)
written_current w v (goes n silent idle) e m k = grind (arith, nat_tests, e.written_current m k)
written_current w v (dies n) e m k = grind (arith, nat_tests, e.written_current m k)
written_current w v (writes n l o i) e m k = grind (arith, nat_tests, e.written_current m k, e.offer_drawn n, e.offer_new n, i.offer, i.meta)
written_current w v (leaves n l o i) e m k = grind (arith, nat_tests, e.written_current m k, e.offer_drawn n, e.offer_new n, i.offer, i.meta)
written_current w v (finishes n o c) e m k = grind (arith, c.offer, c.meta, c.published, e.all_written n k, e.offer_written n k)
written_current w v x e m k = e.written_current m k

pub numbers_step : (w v : Part) → Way w v → Numbers w → Numbers v
numbers_step w v x e = record {
  some_completed = some_completed w v x e;
  super_drawn = super_drawn w v x e;
  offer_drawn = offer_drawn w v x e;
  offer_new = offer_new w v x e;
  offer_says = offer_says w v x e;
  offer_written = offer_written w v x e;
  all_written = all_written w v x e;
  same_says = same_says w v x e;
  loading = loading w v x e;
  loader_joins = loader_joins w v x e;
  loader_holds = loader_holds w v x e;
  home_current = home_current w v x e;
  written_current = written_current w v x e;
}
