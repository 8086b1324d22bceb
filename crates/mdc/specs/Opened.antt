-- The array of a script's header, its legs in memory, and where the script starts.
use Rattle.std.specs.Prelude.{◌≡◌, ◌<◌, ◌==◌, ℕ, Bool, true, List, [], ◌∷◌, length}
use Rattle.std.specs.Prelude.{if◌then◌else◌, get_or, Some}
use Rattle.mdc_types.specs.Geometry.{Sizes, length_of}
use Rattle.mdc_types.specs.Sectors.{zero_sector}
use Rattle.mdc_types.specs.declared.numbers.Sector.{Sector}
use Rattle.leg_store.specs.Memory.{Memory}
use Rattle.leg_store.specs.declared.memory.Left.{Left}
use Rattle.leg_store.specs.declared.memory.Left.TheVariants.{Old, New}
use Rattle.cluster_model.specs.State.{State}
use Rattle.cluster_model.specs.Opening.{Origin, header_at}
use Rattle.cluster_model.specs.Contents.{Opens, IsHeader, header_sector}
use Rattle.world_state.specs.Told.{LegsSeen, plan_at}
use Rattle.cluster_core.specs.Stands.{Stand, state_at}
use Rattle.script_text.specs.declared.script.Start.{Start}
use Rattle.script_text.specs.declared.script.FaultLine.{FaultLine}
use Rattle.script_text.specs.Script.{ScriptValue}

abbrev pub sizes_of : Start → Sizes
sizes_of s = record {
  legs = s.legs;
  sectors = s.sectors;
  room = s.room;
  chunk = s.chunk;
  second = s.second;
}

-- the opening of a script's header
abbrev pub origin_of : Start → Origin
origin_of s = header_at (sizes_of s) s.nodes s.warm s.spares

-- what a failed write leaves
abbrev pub left_by : Bool → Left
left_by new = if new then New else Old

-- the transfers of leg l that fail, in the order of their lines
abbrev pub faults_of : List FaultLine → ℕ → List (ℕ × Left)
faults_of [] l = []
faults_of (f ∷ fs) l =
    if f.leg == l then (f.transfer, left_by f.new) ∷ faults_of fs l else faults_of fs l

-- each leg tells its contents, so that each value that is read is one of the run
abbrev pub AllTold : Start → State → Type 0
AllTold s start = (l : ℕ) → l < s.legs → start.legs.told l ≡ true

-- just the transfers of the `fault` lines fail, and none went before
abbrev pub FailAsAsked : ScriptValue → LegsSeen → Type 0
FailAsAsked script legs =
    (l : ℕ) → l < script.start.legs
    → plan_at legs l ≡ Some (record { failing = faults_of script.faults l; transfers = 0 })

-- before the first line: the opening of the header, over legs that fail as the script says
pub record Starts (script : ScriptValue) (start : Stand) : Type 0 where
  pub opens : Opens (origin_of script.start) (state_at start)
  pub header : IsHeader (origin_of script.start) (state_at start).legs
  pub none : start.past ≡ []
  pub told : AllTold script.start (state_at start)
  pub plans : FailAsAsked script start.legs

-- leg l in memory before the first transfer: the header's sectors, and these transfers fail
pub record IsNewLeg (o : Origin) (faults : List FaultLine) (l : ℕ) (leg : Memory) : Type 0 where
  pub sectors : length leg.sectors ≡ length_of o.sizes
  pub contents : (at : ℕ) → at < length_of o.sizes
      → get_or leg.sectors at zero_sector ≡ header_sector o l at
  pub failing : leg.failing ≡ faults_of faults l
  pub transfers : leg.transfers ≡ 0

abbrev pub no_leg : Memory
no_leg = record { sectors = []; failing = []; transfers = 0; faults = 0 }

-- so many of them
pub record AreNewLegs (o : Origin) (faults : List FaultLine) (count : ℕ) (legs : List Memory)
    : Type 0 where
  pub many : length legs ≡ count
  pub each : (l : ℕ) → l < count → IsNewLeg o faults l (get_or legs l no_leg)
