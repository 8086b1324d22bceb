-- Each way keeps what is known of wishes, additions and passes.
use Rattle.laws_roles.proofs.Parts.{Part}
use Rattle.laws_roles.proofs.Ways.{Way}
use Rattle.laws_roles.proofs.Numbers.{Numbers}
use Rattle.laws_roles.proofs.Roles.{Roles}
use Rattle.laws_roles.proofs.Additions.{Additions}
use Rattle.laws_roles.proofs.WishSteps.{took_nothing, wish_roles, wish_up, work_rebuilding, wish_spare, wish_faulty, rebuild_offered, work_offered, rebuild_added}
use Rattle.laws_roles.proofs.AddingSteps.{adder_up, adder_roles, announced_spare, removing_faulty, readd_faulty, again_rebuilding}
use Rattle.laws_roles.proofs.CoverSteps.{coverer_up, covers_here, covers_agreed}
use Rattle.laws_roles.proofs.MissedSteps.{faulty_missed, again_missed, missed_role}

pub additions_step : (w v : Part) → Way w v → Numbers w → Roles w → Additions w → Additions v
additions_step w v x e r d = record {
  took_nothing = took_nothing w v x e r d;
  wish_roles = wish_roles w v x e r d;
  wish_up = wish_up w v x e r d;
  work_rebuilding = work_rebuilding w v x e r d;
  wish_spare = wish_spare w v x e r d;
  wish_faulty = wish_faulty w v x e r d;
  rebuild_offered = rebuild_offered w v x e r d;
  work_offered = work_offered w v x e r d;
  rebuild_added = rebuild_added w v x e r d;
  adder_up = adder_up w v x e r d;
  adder_roles = adder_roles w v x e r d;
  announced_spare = announced_spare w v x e r d;
  removing_faulty = removing_faulty w v x e r d;
  readd_faulty = readd_faulty w v x e r d;
  again_rebuilding = again_rebuilding w v x e r d;
  coverer_up = coverer_up w v x e r d;
  covers_here = covers_here w v x e r d;
  covers_agreed = covers_agreed w v x e r d;
  faulty_missed = faulty_missed w v x e r d;
  again_missed = again_missed w v x e r d;
  missed_role = missed_role w v x e r d;
}
