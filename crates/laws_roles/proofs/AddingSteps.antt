-- Each way keeps what is known of additions.
use Rattle.std.proofs.Common.{arith}
use Rattle.std.proofs.lemmas.Bool.Decides.{nat_tests}
use Rattle.laws_roles.proofs.Parts.{Part}
use Rattle.laws_roles.proofs.Ways.{Way, joins, comes, goes, dies, loses, finishes, hears, resumes, announces, gathers}
use Rattle.laws_roles.proofs.Numbers.{Numbers}
use Rattle.laws_roles.proofs.Roles.{Roles}
use Rattle.laws_roles.proofs.Additions.{Additions, AdderUp, AdderRoles, AnnouncedSpare, RemovingFaulty, ReaddFaulty, AgainRebuilding}
use Rattle.laws_roles.proofs.AddingWords.{not_announced, nothing_announced, announced_by, not_removing, nothing_removing, removing_by, not_readd, nothing_readd, readd_by, again_by, nothing_again, not_again}

pub adder_up : (w v : Part) → Way w v → Numbers w → Roles w → Additions w → AdderUp v
adder_up w v (joins n out silent) e r d m = grind (arith, nat_tests, d.adder_up m, out)
adder_up w v (comes n k says lost joining idle read new quiet empty) e r d m = grind (arith, nat_tests, d.adder_up m)
adder_up w v (goes n silent idle) e r d m = grind (arith, nat_tests, d.adder_up m)
adder_up w v (dies n) e r d m = grind (arith, nat_tests, d.adder_up m)
adder_up w v (finishes n o c) e r d m = grind (arith, nat_tests, d.adder_up m)
adder_up w v (hears n roles size h) e r d m = grind (arith, nat_tests, d.adder_up m)
adder_up w v (announces n o is known other up idle) e r d m = grind (arith, nat_tests, d.adder_up m, up)
adder_up w v (gathers n x same) e r d m = grind (arith, nat_tests, d.adder_up m, same)
adder_up w v x e r d m = d.adder_up m

pub adder_roles : (w v : Part) → Way w v → Numbers w → Roles w → Additions w → AdderRoles v
adder_roles w v (comes n k says lost joining idle read new quiet empty) e r d m l = grind (arith, nat_tests, d.adder_roles m l, d.adder_up m, joining)
adder_roles w v (goes n silent idle) e r d m l = grind (arith, nat_tests, d.adder_roles m l)
adder_roles w v (dies n) e r d m l = grind (arith, nat_tests, d.adder_roles m l)
adder_roles w v (loses n k down) e r d m l = grind (arith, nat_tests, d.adder_roles m l)
adder_roles w v (finishes n o c) e r d m l = grind (arith, nat_tests, d.adder_roles m l, c.others m, c.processed m, c.hearers.told m, d.took_nothing m, d.adder_up m, c.offer, c.meta)
adder_roles w v (hears n roles size h) e r d m l = grind (arith, nat_tests, d.adder_roles m l)
adder_roles w v (resumes n late) e r d m l = grind (arith, nat_tests, d.adder_roles m l)
adder_roles w v (announces n o is known other up idle) e r d m l = grind (arith, nat_tests, d.adder_roles m l, is, d.wish_roles n l, known)
adder_roles w v (gathers n x same) e r d m l = grind (arith, nat_tests, d.adder_roles m l, same)
adder_roles w v x e r d m l = d.adder_roles m l

pub announced_spare : (w v : Part) → Way w v → Numbers w → Roles w → Additions w → AnnouncedSpare v
announced_spare w v (goes n silent idle) e r d m l = grind (arith, nat_tests, d.announced_spare m l)
announced_spare w v (dies n) e r d m l = grind (arith, nat_tests, d.announced_spare m l)
announced_spare w v (finishes n o c) e r d m l = grind (arith, nat_tests, d.announced_spare m l, c.processed m, c.hearers.told m, d.took_nothing m, d.adder_up m, c.offer, c.meta, not_announced (w.adding n).addition o.wish l, nothing_announced (w.adding m).addition l)
announced_spare w v (hears n roles size h) e r d m l = grind (arith, nat_tests, d.announced_spare m l)
announced_spare w v (announces n o is known other up idle) e r d m l = grind (arith, nat_tests, d.announced_spare m l, is, known, other, d.wish_roles n l, d.wish_spare n l, announced_by (w.adding n).addition o.wish l)
announced_spare w v (gathers n x same) e r d m l = grind (arith, nat_tests, d.announced_spare m l, same)
announced_spare w v x e r d m l = d.announced_spare m l

pub removing_faulty : (w v : Part) → Way w v → Numbers w → Roles w → Additions w → RemovingFaulty v
removing_faulty w v (goes n silent idle) e r d m l = grind (arith, nat_tests, d.removing_faulty m l)
removing_faulty w v (dies n) e r d m l = grind (arith, nat_tests, d.removing_faulty m l)
removing_faulty w v (finishes n o c) e r d m l = grind (arith, nat_tests, d.removing_faulty m l, c.processed m, c.hearers.told m, d.took_nothing m, d.adder_up m, c.offer, c.meta, not_removing (w.adding n).addition o.wish l, nothing_removing (w.adding m).addition l)
removing_faulty w v (hears n roles size h) e r d m l = grind (arith, nat_tests, d.removing_faulty m l)
removing_faulty w v (announces n o is known other up idle) e r d m l = grind (arith, nat_tests, d.removing_faulty m l, is, known, other, d.wish_roles n l, d.wish_faulty n l, removing_by (w.adding n).addition o.wish l)
removing_faulty w v (gathers n x same) e r d m l = grind (arith, nat_tests, d.removing_faulty m l, same)
removing_faulty w v x e r d m l = d.removing_faulty m l

pub readd_faulty : (w v : Part) → Way w v → Numbers w → Roles w → Additions w → ReaddFaulty v
readd_faulty w v (goes n silent idle) e r d m l = grind (arith, nat_tests, d.readd_faulty m l)
readd_faulty w v (dies n) e r d m l = grind (arith, nat_tests, d.readd_faulty m l)
readd_faulty w v (finishes n o c) e r d m l = grind (arith, nat_tests, d.readd_faulty m l, c.processed m, c.hearers.told m, d.took_nothing m, d.adder_up m, c.offer, c.meta, not_readd (w.adding n).addition o.wish l, nothing_readd (w.adding m).addition l)
readd_faulty w v (hears n roles size h) e r d m l = grind (arith, nat_tests, d.readd_faulty m l)
readd_faulty w v (announces n o is known other up idle) e r d m l = grind (arith, nat_tests, d.readd_faulty m l, is, known, other, d.wish_roles n l, d.wish_faulty n l, readd_by (w.adding n).addition o.wish l)
readd_faulty w v (gathers n x same) e r d m l = grind (arith, nat_tests, d.readd_faulty m l, same)
readd_faulty w v x e r d m l = d.readd_faulty m l

pub again_rebuilding : (w v : Part) → Way w v → Numbers w → Roles w → Additions w → AgainRebuilding v
again_rebuilding w v (goes n silent idle) e r d m l = grind (arith, nat_tests, d.again_rebuilding m l)
again_rebuilding w v (dies n) e r d m l = grind (arith, nat_tests, d.again_rebuilding m l)
again_rebuilding w v (finishes n o c) e r d m l = grind (arith, nat_tests, d.again_rebuilding m l, c.processed m, c.hearers.told m, d.took_nothing m, d.adder_up m, c.offer, c.meta, again_by (w.adding n).addition o.wish l, nothing_again (w.adding m).addition l, d.rebuild_offered n l)
again_rebuilding w v (hears n roles size h) e r d m l = grind (arith, nat_tests, d.again_rebuilding m l)
again_rebuilding w v (announces n o is known other up idle) e r d m l = grind (arith, nat_tests, d.again_rebuilding m l, is, known, other, not_again (w.adding n).addition o.wish l)
again_rebuilding w v (gathers n x same) e r d m l = grind (arith, nat_tests, d.again_rebuilding m l, same)
again_rebuilding w v x e r d m l = d.again_rebuilding m l
