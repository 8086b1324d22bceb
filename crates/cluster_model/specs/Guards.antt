-- Guards that several rows have.
use Rattle.std.specs.Prelude.{ℕ, nat_lt, Bool, true, false, not, ◌∷◌, List, Option, Some, None}
use Rattle.dlm_modes.specs.Guards.{unless}
use Rattle.mdc_types.specs.Geometry.{nodes_of, pages_of}
use Rattle.mdc_types.specs.declared.refusals.Refusal.{Refusal}
use Rattle.mdc_types.specs.declared.refusals.Refusal.TheVariants.{NoNode, Fenced, NotUp, NoLeg}
use Rattle.mdc_types.specs.declared.refusals.Refusal.TheVariants.{NoPage, Unacked, NotTarget}
use Rattle.mdc_types.specs.declared.refusals.Refusal.TheVariants.{Draining, Reading}
use Rattle.mdc_types.specs.declared.roles.NodeState.{NodeState}
use Rattle.mdc_types.specs.declared.roles.NodeState.TheVariants as states
use Rattle.node_member.specs.Members.{fenced}
use Rattle.leg_failure.specs.Views.{is_target, unacked_leg}
use Rattle.mirror_io.specs.Flight.{write_from, read_from, write_within}
use Rattle.cluster_model.specs.State.{Core, sizes}

-- refuses by what was found, or where nothing was found
abbrev pub refused_by : {A : Type 0} → (A → Refusal) → Option A → Option Refusal
refused_by refusal None = None
refused_by refusal (Some a) = Some (refusal a)

abbrev pub found_or : {A : Type 0} → Option A → Refusal → Option Refusal
found_or None refusal = Some refusal
found_or (Some a) refusal = None

-- Nodes, legs and pages.

abbrev pub no_node : Core → ℕ → Option Refusal
no_node core n = unless (nat_lt n (nodes_of (sizes core))) (NoNode n)

abbrev pub not_fenced : Core → ℕ → Option Refusal
not_fenced core n = unless (not (fenced core.members n)) (Fenced n)

abbrev pub is_out : NodeState → Bool
is_out states.Out = true
is_out s = false

-- the guards of each event of a live node begin so
abbrev pub of_live : Core → ℕ → List (Option Refusal) → List (Option Refusal)
of_live core n guards =
    no_node core n ∷ not_fenced core n ∷ unless (not (is_out (core.state n))) (NotUp n) ∷ guards

abbrev pub no_leg : Core → ℕ → Option Refusal
no_leg core l = unless (nat_lt l core.array.sizes.legs) (NoLeg l)

-- pages in use
abbrev pub no_page : Core → ℕ → Option Refusal
no_page core p = unless (nat_lt p (pages_of (sizes core))) (NoPage p)

abbrev pub not_target : Core → ℕ → ℕ → Option Refusal
not_target core n l = unless (is_target (core.view n) l) (NotTarget l)

-- the first leg of which the others don't know yet what the node knows
abbrev pub unacked : Core → ℕ → Option Refusal
unacked core n = refused_by Unacked (unacked_leg (core.view n))

-- What is in flight.

-- the node's first live write, or read
abbrev pub draining : Core → ℕ → Option Refusal
draining core n = refused_by Draining (write_from 0 (core.writes n))

abbrev pub reading : Core → ℕ → Option Refusal
reading core n = refused_by Reading (read_from 0 (core.reads n))

-- the node's first live write of a sector from lo up to hi
abbrev pub draining_in : Core → ℕ → ℕ → ℕ → Option Refusal
draining_in core n lo hi = refused_by Draining (write_within lo hi (core.writes n))
