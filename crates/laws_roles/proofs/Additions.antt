-- Under a standing wish, an addition or a pass: the node's roles are those that were agreed on.
use Rattle.std.specs.Prelude.{◌≡◌, ℕ, true, false, ◌||◌}
use Rattle.mdc_types.specs.Roles.{is_working, is_rebuilding, is_faulty, is_spare}
use Rattle.msg_rounds.specs.Phases.{has_processed}
use Rattle.disk_addition.specs.Wishes.{is_announced, is_removing, is_readd}
use Rattle.cluster_model.specs.Gathering.{is_again_of}
use Rattle.cluster_model.specs.Phases.{is_up, offers}
use Rattle.cluster_model.specs.Receiving.{told_state}
use Rattle.laws_roles.proofs.Parts.{Part, offered_role, covers, is_nothing, wished, needs_known, wants_spare, wants_faulty, rebuilds, promotes}

-- who has processed a message of the superblock has no addition
abbrev pub TookNothing : Part → Type 0
TookNothing w = (n : ℕ) → has_processed (w.receiver n).phase ≡ true → told_state (w.heard n) ≡ true
    → is_nothing (w.adding n).addition ≡ true

-- Wishes.

abbrev pub WishRoles : Part → Type 0
WishRoles w = (n l : ℕ) → offers needs_known (w.offer n) ≡ true → (w.view n).role l ≡ w.ghost.agreed.role l

abbrev pub WishUp : Part → Type 0
WishUp w = (n : ℕ) → offers needs_known (w.offer n) ≡ true → is_up (w.state n) ≡ true

abbrev pub WorkRebuilding : Part → Type 0
WorkRebuilding w = (n l : ℕ) → wished promotes (w.offer n) l ≡ true → is_rebuilding (w.ghost.agreed.role l) ≡ true

abbrev pub WishSpare : Part → Type 0
WishSpare w = (n l : ℕ) → wished wants_spare (w.offer n) l ≡ true → is_spare ((w.view n).role l) ≡ true

abbrev pub WishFaulty : Part → Type 0
WishFaulty w = (n l : ℕ) → wished wants_faulty (w.offer n) l ≡ true → is_faulty ((w.view n).role l) ≡ true

abbrev pub RebuildOffered : Part → Type 0
RebuildOffered w = (n l : ℕ) → wished rebuilds (w.offer n) l ≡ true → is_rebuilding (offered_role (w.offer n) l) ≡ true

abbrev pub WorkOffered : Part → Type 0
WorkOffered w = (n l : ℕ) → wished promotes (w.offer n) l ≡ true → is_working (offered_role (w.offer n) l) ≡ true

abbrev pub RebuildAdded : Part → Type 0
RebuildAdded w = (n l : ℕ) → wished rebuilds (w.offer n) l ≡ true
    → (is_announced (w.adding n).addition l || is_readd (w.adding n).addition l) ≡ true

-- Additions.

abbrev pub AdderUp : Part → Type 0
AdderUp w = (n : ℕ) → is_nothing (w.adding n).addition ≡ false → is_up (w.state n) ≡ true

abbrev pub AdderRoles : Part → Type 0
AdderRoles w = (n l : ℕ) → is_nothing (w.adding n).addition ≡ false → (w.view n).role l ≡ w.ghost.agreed.role l

abbrev pub AnnouncedSpare : Part → Type 0
AnnouncedSpare w = (n l : ℕ) → is_announced (w.adding n).addition l ≡ true → is_spare (w.ghost.agreed.role l) ≡ true

abbrev pub RemovingFaulty : Part → Type 0
RemovingFaulty w = (n l : ℕ) → is_removing (w.adding n).addition l ≡ true → is_faulty (w.ghost.agreed.role l) ≡ true

abbrev pub ReaddFaulty : Part → Type 0
ReaddFaulty w = (n l : ℕ) → is_readd (w.adding n).addition l ≡ true → is_faulty (w.ghost.agreed.role l) ≡ true

abbrev pub AgainRebuilding : Part → Type 0
AgainRebuilding w = (n l : ℕ) → is_again_of (w.adding n).addition l ≡ true → is_rebuilding (w.ghost.agreed.role l) ≡ true

-- Passes.

abbrev pub CovererUp : Part → Type 0
CovererUp w = (n l : ℕ) → covers (w.copy n) l ≡ true → is_up (w.state n) ≡ true

abbrev pub CoversHere : Part → Type 0
CoversHere w = (n l : ℕ) → covers (w.copy n) l ≡ true → is_rebuilding ((w.view n).role l) ≡ true

abbrev pub CoversAgreed : Part → Type 0
CoversAgreed w = (n l : ℕ) → covers (w.copy n) l ≡ true → is_rebuilding (w.ghost.agreed.role l) ≡ true

-- What legs missed.

abbrev pub FaultyMissed : Part → Type 0
FaultyMissed w = (l : ℕ) → is_faulty (w.ghost.agreed.role l) ≡ true → w.ghost.missed l ≡ true

abbrev pub AgainMissed : Part → Type 0
AgainMissed w = (n l : ℕ) → is_again_of (w.adding n).addition l ≡ true → w.ghost.missed l ≡ true

abbrev pub MissedRole : Part → Type 0
MissedRole w = (l : ℕ) → w.ghost.missed l ≡ true
    → (is_faulty (w.ghost.agreed.role l) || is_rebuilding (w.ghost.agreed.role l)) ≡ true

pub record Additions (w : Part) : Type 0 where
  pub took_nothing : TookNothing w
  pub wish_roles : WishRoles w
  pub wish_up : WishUp w
  pub work_rebuilding : WorkRebuilding w
  pub wish_spare : WishSpare w
  pub wish_faulty : WishFaulty w
  pub rebuild_offered : RebuildOffered w
  pub work_offered : WorkOffered w
  pub rebuild_added : RebuildAdded w
  pub adder_up : AdderUp w
  pub adder_roles : AdderRoles w
  pub announced_spare : AnnouncedSpare w
  pub removing_faulty : RemovingFaulty w
  pub readd_faulty : ReaddFaulty w
  pub again_rebuilding : AgainRebuilding w
  pub coverer_up : CovererUp w
  pub covers_here : CoversHere w
  pub covers_agreed : CoversAgreed w
  pub faulty_missed : FaultyMissed w
  pub again_missed : AgainMissed w
  pub missed_role : MissedRole w
