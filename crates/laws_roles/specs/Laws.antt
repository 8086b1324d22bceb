-- Who may be read, along each run over legs that tell their contents.
use Rattle.std.specs.Prelude.{◌≡◌, ◌≢◌, ◌⊎◌, ℕ, ◌<◌, true, false, is_some, List, Some, None}
use Rattle.mdc_types.specs.Roles.{role_of, is_written, some_works}
use Rattle.mdc_types.specs.declared.events.Event.{Event}
use Rattle.mdc_types.specs.declared.outcomes.Entry.{Entry}
use Rattle.mdc_types.specs.declared.roles.NodeState.TheVariants.{Loaded, Up}
use Rattle.mdc_types.specs.declared.roles.Role.TheVariants.{Working, Rebuilding, Faulty, Spare}
use Rattle.md_superblock.specs.Arrays.{Says, AreBytes}
use Rattle.leg_failure.specs.Views.{works, is_target, is_unacked, unacked_leg, working_leg}
use Rattle.disk_addition.specs.declared.addition.Addition.TheVariants.{Nothing, Announced, Removing}
use Rattle.disk_addition.specs.declared.addition.Addition.TheVariants.{ReAdd, Again}
use Rattle.resync_worker.specs.Copying.{Passing}
use Rattle.cluster_model.specs.State.{State, Offer, sizes}
use Rattle.cluster_model.specs.Phases.{is_in}
use Rattle.cluster_model.specs.Contents.{Opens, AllTell}
use Rattle.cluster_model.specs.Opening.{Origin}
use Rattle.cluster_model.specs.Run.{Run}
use Rattle.cluster_model.specs.Served.{Served, Current, CalledIn, Trusted, Shut}
use Rattle.cluster_model.specs.Size.{Size, NamesSure}
use Rattle.cluster_model.specs.Stored.{super_on}
use Rattle.cluster_model.specs.Table.{refusal}
use Rattle.laws_roles.specs.Agreed.{Agreed, agreed_in}

-- the legs tell what they have, and the array's name and uuid are bytes
pub record Tells (o : Origin) (start : State) : Type 0 where
  pub legs : AllTell o start.legs
  pub name : AreBytes 32 o.name
  pub uuid : AreBytes 16 o.uuid

-- along each run from an opening, over legs that tell their contents
abbrev pub Always : (Origin → State → List Entry → State → Type 0) → Type 0
Always Holds = (o : Origin) (start end : State) (past : List Entry)
    → Opens o start → Tells o start → Run start past end → Holds o start past end

-- A leg that isn't what an up node writes, and whose loss all have acknowledged, is read by nobody.
abbrev pub RunsAreShut : Type 0
RunsAreShut = Always (λ o start past end. Shut end)

-- each leg has a superblock of the array, some leg and each leg that is served has a current one,
-- and superblocks of one events number say the same
pub record Superblocks (state : State) : Type 0 where
  pub each : (k : ℕ) → k < (sizes state.core).legs
      → is_some (super_on state.core.array state.legs k) ≡ true
  pub current : (k : ℕ) × Current state k
  pub served : (l : ℕ) → Served state l → Current state l
  -- who is loaded and not yet up reads legs that such a superblock calls working
  pub loaded : (n l : ℕ) → state.core.state n ≡ Loaded → works (state.core.view n) l ≡ true
      → CalledIn state Working l
  pub same : (j k : ℕ) (a b : Says) → super_on state.core.array state.legs j ≡ Some a
      → super_on state.core.array state.legs k ≡ Some b → a.events ≡ b.events → a ≡ b

abbrev pub RunsHaveSuperblocks : Type 0
RunsHaveSuperblocks = Always (λ o start past end. Superblocks end)

-- No node falls behind a size that an up node was sure of, nor does the superblock of the last
-- whole round; and requests name sectors that their node is sure of.
pub record SizeHolds (start : State) (past : List Entry) (end : State) : Type 0 where
  pub size : Size start past end
  pub requests : (e : Event) → refusal end.core e ≡ None → NamesSure end.core e

abbrev pub RunsKeepTheSize : Type 0
RunsKeepTheSize = Always (λ o start past end. SizeHolds start past end)

-- A leg is left to read from: to each node that is in, by the roles of each offer, and by those of
-- each superblock of the array.
pub record LegIsLeft (state : State) : Type 0 where
  pub views : (n : ℕ) → is_in (state.core.state n) ≡ true
      → is_some (working_leg (state.core.view n)) ≡ true
  pub offers : (n : ℕ) (o : Offer) → state.core.offer n ≡ Some o → some_works o.role ≡ true
  pub supers : (k : ℕ) (says : Says) → super_on state.core.array state.legs k ≡ Some says
      → some_works (role_of says.roles) ≡ true

-- whether legs tell their contents or not
abbrev pub RunsLeaveALeg : Type 0
RunsLeaveALeg = (o : Origin) (start end : State) (past : List Entry)
    → Opens o start → Run start past end → LegIsLeft end

-- a node that is in calls the leg working, lost or not
pub record CalledBy (state : State) (l : ℕ) : Type 0 where
  pub node : ℕ
  pub inside : is_in (state.core.state node) ≡ true
  pub role : (state.core.view node).role l ≡ Working

-- the node writes the leg, or the others don't know yet what became of the leg there
abbrev pub WrittenOrUnacked : State → ℕ → ℕ → Type 0
WrittenOrUnacked state n l =
    (is_target (state.core.view n) l ≡ true) ⊎ (is_unacked (state.core.view n) l ≡ true)

-- what the nodes make of the roles that were agreed on last
pub record RolesHold (agreed : Agreed) (state : State) : Type 0 where
  -- a leg that a node or a current superblock calls working is one that these roles want written
  pub called : (l : ℕ) → CalledBy state l ⊎ CalledIn state Working l
      → is_written (agreed.role l) ≡ true
  -- a leg that may be read is a target of each up node, or unacked there
  pub written : (n l : ℕ) → state.core.state n ≡ Up → Trusted state l
      → WrittenOrUnacked state n l
  -- so is a leg that a node's pass covers
  pub covered : (n m l : ℕ) (pass : Passing) → state.core.state n ≡ Up
      → (state.core.copy m).pass ≡ Some pass → pass.covered l ≡ true
      → WrittenOrUnacked state n l
  -- an up node gives a leg that isn't unacked there the role that these give it, and has these
  -- roles where nothing is unacked
  pub roles : (n l : ℕ) → state.core.state n ≡ Up → is_unacked (state.core.view n) l ≡ false
      → (state.core.view n).role l ≡ agreed.role l
  pub all_roles : (n l : ℕ) → state.core.state n ≡ Up → unacked_leg (state.core.view n) ≡ None
      → l < (sizes state.core).legs → (state.core.view n).role l ≡ agreed.role l

abbrev pub RunsHaveRoles : Type 0
RunsHaveRoles = Always (λ o start past end. RolesHold (agreed_in o past) end)

-- A device on its way in or out, at its node, by the roles that were agreed on last.
pub record AdditionsFit (agreed : Agreed) (state : State) : Type 0 where
  pub up : (n : ℕ) → (state.core.adding n).addition ≢ Nothing → state.core.state n ≡ Up
  pub roles : (n l : ℕ) → (state.core.adding n).addition ≢ Nothing
      → (state.core.view n).role l ≡ agreed.role l
  pub announced : (n l : ℕ) → (state.core.adding n).addition ≡ Announced l
      → agreed.role l ≡ Spare
  pub removing : (n l : ℕ) → (state.core.adding n).addition ≡ Removing l
      → agreed.role l ≡ Faulty
  pub readd : (n l : ℕ) → (state.core.adding n).addition ≡ ReAdd l
      → agreed.role l ≡ Faulty
  pub again : (n l : ℕ) → (state.core.adding n).addition ≡ Again l
      → agreed.role l ≡ Rebuilding
  -- a leg that a pass covers rebuilds
  pub covered : (n l : ℕ) (pass : Passing) → (state.core.copy n).pass ≡ Some pass
      → pass.covered l ≡ true → agreed.role l ≡ Rebuilding

abbrev pub RunsFitAdditions : Type 0
RunsFitAdditions = Always (λ o start past end. AdditionsFit (agreed_in o past) end)
