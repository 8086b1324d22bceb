-- What queries answer: functions of the state, and of the entries so far.
use Rattle.std.specs.Prelude.{◌≡◌, ◌+◌, ℕ, nat_lt, List, [], ◌++◌, if◌then◌else◌, get_or, reverse}
use Rattle.std.specs.Prelude.{length, codes}
use Rattle.mdc_types.specs.Geometry.{Sizes, nodes_of}
use Rattle.mdc_types.specs.declared.numbers.Sector.{Sector}
use Rattle.mdc_types.specs.declared.outcomes.Entry.{Entry}
use Rattle.mdc_types.specs.declared.refusals.Refusal.{Refusal}
use Rattle.mdc_types.specs.declared.refusals.Refusal.TheVariants.{NoNode, NoLeg}
use Rattle.mdc_types.specs.declared.roles.NodeState.{NodeState}
use Rattle.mdc_types.specs.declared.roles.NodeState.TheVariants.{Out}
use Rattle.leg_failure.specs.Views.{Parts}
use Rattle.node_bitmaps.specs.Map.{Map}
use Rattle.node_bits.specs.Bitmaps.{map_at}
use Rattle.plain_history.specs.History.{Legal}
use Rattle.plain_history.specs.Runs.{IsFirstBad}
use Rattle.world_state.specs.Kept.{Kept, no_parts}
use Rattle.script_text.specs.declared.script.Line.{Line}
use Rattle.script_text.specs.declared.script.Line.TheVariants.{View, Map as MapOf, Slot, Record, Size}
use Rattle.report_text.specs.Queries.{view_line, size_line, map_line, slot_line, record_line}
use Rattle.report_text.specs.Queries.{legal_line, bad_line}
use Rattle.report_text.specs.Refusals.{refusal_line}
use Rattle.cluster_model.specs.State.{State}
use Rattle.cluster_model.specs.Opening.{Origin}
use Rattle.cluster_model.specs.Contents.{SoundOpening}
use Rattle.cluster_model.specs.Run.{Run}
use Rattle.laws_roles.specs.Laws.{Tells}
use Rattle.plain_history.specs.History.{values_at}
use Rattle.cluster_core.specs.Stands.{Stand, state_at}

abbrev pub refused_line : Refusal → List ℕ
refused_line r = codes "refused " ++ refusal_line r

-- by node: its state, its view of the legs, its bitmap
abbrev pub node_state : Kept → ℕ → NodeState
node_state k n = get_or k.states n Out

abbrev pub node_view : Kept → ℕ → Parts
node_view k n = get_or k.views n no_parts

abbrev pub node_map : Kept → ℕ → Map
node_map k n = map_at k.bitmaps.maps n

-- a node or a leg that isn't there is refused
abbrev pub of_node : Sizes → ℕ → List ℕ → List ℕ
of_node g n text = if nat_lt n (nodes_of g) then text else refused_line (NoNode n)

abbrev pub of_leg : Sizes → ℕ → List ℕ → List ℕ
of_leg g l text = if nat_lt l g.legs then text else refused_line (NoLeg l)

-- the answer to a query of the state
abbrev pub query_line : Kept → Line → List ℕ
query_line k (View n) =
    of_node k.identity.geometry n
    (view_line n (node_state k n) (node_view k n) k.identity.geometry.legs)
query_line k (MapOf n) = of_node k.identity.geometry n (map_line n (node_map k n))
query_line k (Slot l d) =
    of_leg k.identity.geometry l (of_node k.identity.geometry d (slot_line l d (node_map k d)))
query_line k Record = record_line k.members
query_line k (Size n) =
    of_node k.identity.geometry n (size_line n (node_state k n) (node_view k n))
query_line k line = []

-- the answer to `check`: the entries are a legal history, or which is the first that isn't
pub data Judges (base : ℕ → List Sector) (past : List Entry) (text : List ℕ) : Type 0 where
  all_legal : Legal base past → text ≡ legal_line (length past) → Judges base past text
  first_bad : (i : ℕ) → IsFirstBad base (reverse past) i → text ≡ bad_line (i + 1)
      → Judges base past text

-- a run led here from a sound opening, over legs that tell their contents
pub record ComesSound (o : Origin) (at : Stand) : Type 0 where
  pub start : State
  pub sound : SoundOpening o start
  pub tells : Tells o start
  pub run : Run start at.past (state_at at)

-- the answer to `check` by what the array opened with: where that is sound, the entries are legal
pub record Checks (o : Origin) (at : Stand) (text : List ℕ) : Type 0 where
  pub judges : Judges (values_at o.base) at.past text
  pub sound : ComesSound o at → text ≡ legal_line (length at.past)

-- the entries are a legal history
abbrev pub FindsLegal : Stand → List ℕ → Type 0
FindsLegal at text = text ≡ legal_line (length at.past)
