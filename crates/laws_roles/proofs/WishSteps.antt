-- Each way keeps what is known of standing wishes.
use Rattle.std.proofs.Common.{◌≡◌, ℕ, true, arith}
use Rattle.std.proofs.lemmas.Bool.Decides.{nat_tests}
use Rattle.mdc_types.specs.declared.events.Wish.{Wish}
use Rattle.mdc_types.specs.declared.events.Wish.TheVariants as wishes
use Rattle.cluster_model.specs.Phases.{is_metadata}
use Rattle.cluster_model.specs.State.{Offer}
use Rattle.laws_roles.proofs.Legwise.{legwise}
use Rattle.laws_roles.proofs.Parts.{rebuilds, needs_known}
use Rattle.std.proofs.Common.{refl}
use Rattle.laws_roles.proofs.Parts.{Part}
use Rattle.laws_roles.proofs.Ways.{Way, Wished, voids, readies, joins, comes, goes, dies, offers, offers_other, writes, loses, finishes, idles, takes, hears, passes, resumes, rests, announces, gathers}
use Rattle.laws_roles.proofs.Numbers.{Numbers}
use Rattle.laws_roles.proofs.Roles.{Roles}
use Rattle.laws_roles.proofs.Additions.{Additions, TookNothing, WishRoles, WishUp, WorkRebuilding, WishSpare, WishFaulty, RebuildOffered, WorkOffered, RebuildAdded}

-- a node whose wish needs it has the roles that were agreed on
known_role : (w : Part) → Roles w → (n : ℕ) (o : Offer) → Wished w n o → (l : ℕ) → needs_known o.wish ≡ true → (w.view n).role l ≡ w.ghost.agreed.role l
known_role w r n o a l e = legwise w r n l (a.up e) (a.known e l)

-- a wish that rebuilds changes the superblock
rebuilds_meta : (x : Wish) (l : ℕ) → rebuilds x l ≡ true → is_metadata x ≡ true
rebuilds_meta (wishes.Rebuild j) l e = refl
rebuilds_meta x l e = cc

pub took_nothing : (w v : Part) → Way w v → Numbers w → Roles w → Additions w → TookNothing v
took_nothing w v (readies n did) e r d m = grind (arith, nat_tests, d.took_nothing m)
took_nothing w v (goes n silent idle) e r d m = grind (arith, nat_tests, d.took_nothing m)
took_nothing w v (dies n) e r d m = grind (arith, nat_tests, d.took_nothing m)
took_nothing w v (finishes n o c) e r d m = grind (arith, nat_tests, d.took_nothing m, c.idle)
took_nothing w v (takes n from x idle) e r d m = grind (arith, nat_tests, d.took_nothing m)
took_nothing w v (hears n roles size h) e r d m = grind (arith, nat_tests, d.took_nothing m)
took_nothing w v (passes n other) e r d m = grind (arith, nat_tests, d.took_nothing m)
took_nothing w v (resumes n late) e r d m = grind (arith, nat_tests, d.took_nothing m)
took_nothing w v (rests n late) e r d m = grind (arith, nat_tests, d.took_nothing m)
took_nothing w v (announces n o is known other up idle) e r d m = grind (arith, nat_tests, d.took_nothing m, idle)
took_nothing w v (gathers n x same) e r d m = grind (arith, nat_tests, d.took_nothing m, same)
took_nothing w v x e r d m = d.took_nothing m

pub wish_roles : (w v : Part) → Way w v → Numbers w → Roles w → Additions w → WishRoles v
wish_roles w v (goes n silent idle) e r d m l = grind (arith, nat_tests, d.wish_roles m l)
wish_roles w v (dies n) e r d m l = grind (arith, nat_tests, d.wish_roles m l)
wish_roles w v (voids n silent) e r d m l = grind (arith, nat_tests, d.wish_roles m l)
wish_roles w v (idles n inside told) e r d m l = grind (arith, nat_tests, d.wish_roles m l)
wish_roles w v (comes n k says lost joining idle read new quiet empty) e r d m l = grind (arith, nat_tests, d.wish_roles m l, quiet)
wish_roles w v (offers n o p a) e r d m l = grind (arith, nat_tests, d.wish_roles m l, known_role w r n o a l)
wish_roles w v (offers_other n o other silent a) e r d m l = grind (arith, nat_tests, d.wish_roles m l, known_role w r n o a l)
wish_roles w v (writes n j o i) e r d m l = grind (arith, nat_tests, d.wish_roles m l, i.offer)
wish_roles w v (loses n k down) e r d m l = grind (arith, nat_tests, d.wish_roles m l)
wish_roles w v (finishes n o c) e r d m l = grind (arith, nat_tests, d.wish_roles m l, c.others m)
wish_roles w v (hears n roles size h) e r d m l = grind (arith, nat_tests, d.wish_roles m l, h.silent)
wish_roles w v (resumes n late) e r d m l = grind (arith, nat_tests, d.wish_roles m l)
wish_roles w v x e r d m l = d.wish_roles m l

pub wish_up : (w v : Part) → Way w v → Numbers w → Roles w → Additions w → WishUp v
wish_up w v (goes n silent idle) e r d m = grind (arith, nat_tests, d.wish_up m)
wish_up w v (dies n) e r d m = grind (arith, nat_tests, d.wish_up m)
wish_up w v (voids n silent) e r d m = grind (arith, nat_tests, d.wish_up m)
wish_up w v (idles n inside told) e r d m = grind (arith, nat_tests, d.wish_up m)
wish_up w v (joins n out silent) e r d m = grind (arith, nat_tests, d.wish_up m, out)
wish_up w v (comes n k says lost joining idle read new quiet empty) e r d m = grind (arith, nat_tests, d.wish_up m, quiet)
wish_up w v (offers n o p a) e r d m = grind (arith, nat_tests, d.wish_up m, a.up)
wish_up w v (offers_other n o other silent a) e r d m = grind (arith, nat_tests, d.wish_up m, a.up)
wish_up w v (writes n j o i) e r d m = grind (arith, nat_tests, d.wish_up m, i.offer)
wish_up w v (finishes n o c) e r d m = grind (arith, nat_tests, d.wish_up m, c.others m)
wish_up w v x e r d m = d.wish_up m

pub work_rebuilding : (w v : Part) → Way w v → Numbers w → Roles w → Additions w → WorkRebuilding v
work_rebuilding w v (goes n silent idle) e r d m l = grind (arith, nat_tests, d.work_rebuilding m l)
work_rebuilding w v (dies n) e r d m l = grind (arith, nat_tests, d.work_rebuilding m l)
work_rebuilding w v (voids n silent) e r d m l = grind (arith, nat_tests, d.work_rebuilding m l)
work_rebuilding w v (idles n inside told) e r d m l = grind (arith, nat_tests, d.work_rebuilding m l)
work_rebuilding w v (offers n o p a) e r d m l = grind (arith, nat_tests, d.work_rebuilding m l, a.all_known l, a.promoted l, known_role w r n o a l)
work_rebuilding w v (offers_other n o other silent a) e r d m l = grind (arith, nat_tests, d.work_rebuilding m l, a.all_known l, a.promoted l, known_role w r n o a l)
work_rebuilding w v (writes n j o i) e r d m l = grind (arith, nat_tests, d.work_rebuilding m l, i.offer)
work_rebuilding w v (finishes n o c) e r d m l = grind (arith, nat_tests, d.work_rebuilding m l, c.others m)
work_rebuilding w v x e r d m l = d.work_rebuilding m l

pub wish_spare : (w v : Part) → Way w v → Numbers w → Roles w → Additions w → WishSpare v
wish_spare w v (goes n silent idle) e r d m l = grind (arith, nat_tests, d.wish_spare m l)
wish_spare w v (dies n) e r d m l = grind (arith, nat_tests, d.wish_spare m l)
wish_spare w v (voids n silent) e r d m l = grind (arith, nat_tests, d.wish_spare m l)
wish_spare w v (idles n inside told) e r d m l = grind (arith, nat_tests, d.wish_spare m l)
wish_spare w v (comes n k says lost joining idle read new quiet empty) e r d m l = grind (arith, nat_tests, d.wish_spare m l, quiet)
wish_spare w v (offers n o p a) e r d m l = grind (arith, nat_tests, d.wish_spare m l, a.spare l)
wish_spare w v (offers_other n o other silent a) e r d m l = grind (arith, nat_tests, d.wish_spare m l, a.spare l)
wish_spare w v (writes n j o i) e r d m l = grind (arith, nat_tests, d.wish_spare m l, i.offer)
wish_spare w v (loses n k down) e r d m l = grind (arith, nat_tests, d.wish_spare m l)
wish_spare w v (finishes n o c) e r d m l = grind (arith, nat_tests, d.wish_spare m l, c.others m)
wish_spare w v (hears n roles size h) e r d m l = grind (arith, nat_tests, d.wish_spare m l, h.silent)
wish_spare w v (resumes n late) e r d m l = grind (arith, nat_tests, d.wish_spare m l)
wish_spare w v x e r d m l = d.wish_spare m l

pub wish_faulty : (w v : Part) → Way w v → Numbers w → Roles w → Additions w → WishFaulty v
wish_faulty w v (goes n silent idle) e r d m l = grind (arith, nat_tests, d.wish_faulty m l)
wish_faulty w v (dies n) e r d m l = grind (arith, nat_tests, d.wish_faulty m l)
wish_faulty w v (voids n silent) e r d m l = grind (arith, nat_tests, d.wish_faulty m l)
wish_faulty w v (idles n inside told) e r d m l = grind (arith, nat_tests, d.wish_faulty m l)
wish_faulty w v (comes n k says lost joining idle read new quiet empty) e r d m l = grind (arith, nat_tests, d.wish_faulty m l, quiet)
wish_faulty w v (offers n o p a) e r d m l = grind (arith, nat_tests, d.wish_faulty m l, a.faulty l)
wish_faulty w v (offers_other n o other silent a) e r d m l = grind (arith, nat_tests, d.wish_faulty m l, a.faulty l)
wish_faulty w v (writes n j o i) e r d m l = grind (arith, nat_tests, d.wish_faulty m l, i.offer)
wish_faulty w v (loses n k down) e r d m l = grind (arith, nat_tests, d.wish_faulty m l)
wish_faulty w v (finishes n o c) e r d m l = grind (arith, nat_tests, d.wish_faulty m l, c.others m)
wish_faulty w v (hears n roles size h) e r d m l = grind (arith, nat_tests, d.wish_faulty m l, h.silent)
wish_faulty w v (resumes n late) e r d m l = grind (arith, nat_tests, d.wish_faulty m l)
wish_faulty w v x e r d m l = d.wish_faulty m l

pub rebuild_offered : (w v : Part) → Way w v → Numbers w → Roles w → Additions w → RebuildOffered v
rebuild_offered w v (goes n silent idle) e r d m l = grind (arith, nat_tests, d.rebuild_offered m l)
rebuild_offered w v (dies n) e r d m l = grind (arith, nat_tests, d.rebuild_offered m l)
rebuild_offered w v (voids n silent) e r d m l = grind (arith, nat_tests, d.rebuild_offered m l)
rebuild_offered w v (idles n inside told) e r d m l = grind (arith, nat_tests, d.rebuild_offered m l)
rebuild_offered w v (offers n o p a) e r d m l = grind (arith, nat_tests, d.rebuild_offered m l, a.rebuilt l)
rebuild_offered w v (offers_other n o other silent a) e r d m l = grind (arith, nat_tests, d.rebuild_offered m l, a.rebuilt l)
rebuild_offered w v (writes n j o i) e r d m l = grind (arith, nat_tests, d.rebuild_offered m l, i.offer)
rebuild_offered w v (finishes n o c) e r d m l = grind (arith, nat_tests, d.rebuild_offered m l, c.others m)
rebuild_offered w v x e r d m l = d.rebuild_offered m l

pub work_offered : (w v : Part) → Way w v → Numbers w → Roles w → Additions w → WorkOffered v
work_offered w v (goes n silent idle) e r d m l = grind (arith, nat_tests, d.work_offered m l)
work_offered w v (dies n) e r d m l = grind (arith, nat_tests, d.work_offered m l)
work_offered w v (voids n silent) e r d m l = grind (arith, nat_tests, d.work_offered m l)
work_offered w v (idles n inside told) e r d m l = grind (arith, nat_tests, d.work_offered m l)
work_offered w v (offers n o p a) e r d m l = grind (arith, nat_tests, d.work_offered m l, a.worked l)
work_offered w v (offers_other n o other silent a) e r d m l = grind (arith, nat_tests, d.work_offered m l, a.worked l)
work_offered w v (writes n j o i) e r d m l = grind (arith, nat_tests, d.work_offered m l, i.offer)
work_offered w v (finishes n o c) e r d m l = grind (arith, nat_tests, d.work_offered m l, c.others m)
work_offered w v x e r d m l = d.work_offered m l

pub rebuild_added : (w v : Part) → Way w v → Numbers w → Roles w → Additions w → RebuildAdded v
rebuild_added w v (goes n silent idle) e r d m l = grind (arith, nat_tests, d.rebuild_added m l)
rebuild_added w v (dies n) e r d m l = grind (arith, nat_tests, d.rebuild_added m l)
rebuild_added w v (voids n silent) e r d m l = grind (arith, nat_tests, d.rebuild_added m l)
rebuild_added w v (idles n inside told) e r d m l = grind (arith, nat_tests, d.rebuild_added m l)
rebuild_added w v (offers n o p a) e r d m l = grind (arith, nat_tests, d.rebuild_added m l, a.adds l)
rebuild_added w v (offers_other n o other silent a) e r d m l = grind (arith, nat_tests, d.rebuild_added m l, a.adds l)
rebuild_added w v (writes n j o i) e r d m l = grind (arith, nat_tests, d.rebuild_added m l, i.offer)
rebuild_added w v (finishes n o c) e r d m l = grind (arith, nat_tests, d.rebuild_added m l, c.others m)
rebuild_added w v (hears n roles size h) e r d m l = grind (arith, nat_tests, d.rebuild_added m l, h.silent)
rebuild_added w v (announces n o is known other up idle) e r d m l = grind (arith, nat_tests, d.rebuild_added m l, is, other, rebuilds_meta o.wish l)
rebuild_added w v (gathers n x same) e r d m l = grind (arith, nat_tests, d.rebuild_added m l, same)
rebuild_added w v x e r d m l = d.rebuild_added m l
