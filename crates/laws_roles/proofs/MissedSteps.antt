-- Each way keeps what is known of what legs missed.
use Rattle.std.proofs.Common.{arith}
use Rattle.std.proofs.lemmas.Bool.Decides.{nat_tests}
use Rattle.laws_roles.proofs.Parts.{Part}
use Rattle.laws_roles.proofs.Ways.{Way, goes, dies, finishes, hears, announces, gathers}
use Rattle.laws_roles.proofs.Numbers.{Numbers}
use Rattle.laws_roles.proofs.Roles.{Roles}
use Rattle.laws_roles.proofs.Additions.{Additions, FaultyMissed, AgainMissed, MissedRole}
use Rattle.laws_roles.proofs.AddingWords.{again_by, nothing_again, not_again}

pub faulty_missed : (w v : Part) → Way w v → Numbers w → Roles w → Additions w → FaultyMissed v
faulty_missed w v (finishes n o c) e r d l = grind (arith, nat_tests, d.faulty_missed l)
faulty_missed w v x e r d l = d.faulty_missed l

pub again_missed : (w v : Part) → Way w v → Numbers w → Roles w → Additions w → AgainMissed v
again_missed w v (goes n silent idle) e r d m l = grind (arith, nat_tests, d.again_missed m l)
again_missed w v (dies n) e r d m l = grind (arith, nat_tests, d.again_missed m l)
again_missed w v (finishes n o c) e r d m l = grind (arith, nat_tests, d.again_missed m l, c.processed m, c.hearers.told m, d.took_nothing m, d.adder_up m, c.offer, c.meta, nothing_again (w.adding m).addition l)
again_missed w v (hears n roles size h) e r d m l = grind (arith, nat_tests, d.again_missed m l)
again_missed w v (announces n o is known other up idle) e r d m l = grind (arith, nat_tests, d.again_missed m l, is, known, other, not_again (w.adding n).addition o.wish l)
again_missed w v (gathers n x same) e r d m l = grind (arith, nat_tests, d.again_missed m l, same)
again_missed w v x e r d m l = d.again_missed m l

pub missed_role : (w v : Part) → Way w v → Numbers w → Roles w → Additions w → MissedRole v
missed_role w v (finishes n o c) e r d l = grind (arith, nat_tests, d.missed_role l, c.offer, again_by (w.adding n).addition o.wish l, d.rebuild_offered n l)
missed_role w v x e r d l = d.missed_role l
