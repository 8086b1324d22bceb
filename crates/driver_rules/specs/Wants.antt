-- What a node wants to tell: the first wish that is due and that nothing but the phase of its
-- sender stands against.
use Rattle.std.specs.Prelude.{ℕ, ◌+◌, ◌==◌, min, Bool, true, false, not, ◌&&◌, ◌||◌, is_some}
use Rattle.std.specs.Prelude.{is_none, if◌then◌else◌, List, [], ◌∷◌, Option, Some, None}
use Rattle.std.specs.Option.{option_map}
use Rattle.dlm_modes.specs.First.{first_such}
use Rattle.dlm_modes.specs.Guards.{first_of}
use Rattle.mdc_types.specs.Geometry.{Sizes, chunk_start, nodes_of}
use Rattle.mdc_types.specs.Roles.{is_faulty, is_spare}
use Rattle.mdc_types.specs.declared.events.Wish.{Wish}
use Rattle.mdc_types.specs.declared.events.Wish.TheVariants as wishes
use Rattle.mdc_types.specs.declared.refusals.Refusal.{Refusal}
use Rattle.mdc_types.specs.declared.roles.NodeState.{NodeState}
use Rattle.mdc_types.specs.declared.roles.NodeState.TheVariants as states
use Rattle.leg_failure.specs.Views.{unacked_leg}
use Rattle.resync_worker.specs.Copying.{Passing, first_todo}
use Rattle.disk_addition.specs.declared.addition.Addition.{Addition}
use Rattle.disk_addition.specs.declared.addition.Addition.TheVariants.{Announced, Removing, ReAdd}
use Rattle.cluster_model.specs.State.{Core, sizes}
use Rattle.cluster_model.specs.Guards.{of_live}
use Rattle.cluster_model.specs.Phases.{is_up}
use Rattle.cluster_model.specs.Rounds.{is_announced}
use Rattle.cluster_model.specs.Copying.{next_sector, buffer_of}
use Rattle.cluster_model.specs.Wishes.{loaded_offers, wish_guards, holds_device_lock}

-- the least node that is up
abbrev pub least_member : Core → Option ℕ
least_member core = first_such (λ m. is_up (core.state m)) 0 (nodes_of (sizes core))

abbrev pub is_node : ℕ → Option ℕ → Bool
is_node n None = false
is_node n (Some m) = m == n

abbrev pub is_least_member : Core → ℕ → Bool
is_least_member core n = is_node n (least_member core)

-- the wish, where the test holds
abbrev pub wish_if : Bool → Wish → Option Wish
wish_if true wish = Some wish
wish_if false wish = None

-- The wishes that are due.

abbrev pub is_loaded : NodeState → Bool
is_loaded states.Loaded = true
is_loaded s = false

-- the node is loaded, or lost a leg that others write, or announced a device without EX
abbrev pub meta_is_due : Core → ℕ → Bool
meta_is_due core n =
    is_loaded (core.state n) || is_some (unacked_leg (core.view n))
    || (is_announced (core.adding n).addition && not (holds_device_lock core n))

abbrev pub rebuild_of : Addition → Bool → Option Wish
rebuild_of (Announced l) true = Some (wishes.Rebuild l)
rebuild_of (ReAdd l) holds_ex = Some (wishes.Rebuild l)
rebuild_of a holds_ex = None

abbrev pub spare_of : Addition → Option Wish
spare_of (Removing l) = Some (wishes.Spare l)
spare_of a = None

-- what the pass is still to copy
abbrev pub first_of_pass : Sizes → Option Passing → Option ℕ
first_of_pass g None = None
first_of_pass g (Some p) = first_todo g p

abbrev pub todo_chunk : Core → ℕ → Option ℕ
todo_chunk core n = first_of_pass (sizes core) (core.copy n).pass

-- eight chunks from chunk c on, cut at the array's end
abbrev pub window_from : Sizes → ℕ → Wish
window_from g c = wishes.Range (record {
  lo = chunk_start g c;
  hi = min (chunk_start g (c + 8)) g.room;
})

-- nothing that is to be copied lies in an open window, and there is no buffer
abbrev pub needs_window : Core → ℕ → Bool
needs_window core n = is_none (next_sector core n) && is_none (buffer_of core n)

abbrev pub window_of : Core → ℕ → Option Wish
window_of core n =
    if needs_window core n then option_map (window_from (sizes core)) (todo_chunk core n) else None

-- nothing is left to copy, and a window is open
abbrev pub closing_of : Core → ℕ → Option Wish
closing_of core n = wish_if (is_none (todo_chunk core n) && is_some (core.copy n).window)
    (wishes.Range (record { lo = 0; hi = 0 }))

abbrev pub covered_in : Option Passing → Option ℕ
covered_in None = None
covered_in (Some p) = first_such p.covered 0 8

-- the first leg that the pass covers
abbrev pub covered_leg : Core → ℕ → Option ℕ
covered_leg core n = covered_in (core.copy n).pass

abbrev pub first_faulty : Core → ℕ → Option ℕ
first_faulty core n = first_such (λ l. is_faulty ((core.view n).role l)) 0 (sizes core).legs

abbrev pub first_spare : Core → ℕ → Option ℕ
first_spare core n = first_such (λ l. is_spare ((core.view n).role l)) 0 (sizes core).legs

-- the wish with the leg that was found, of the least member alone
abbrev pub of_least : Core → ℕ → (ℕ → Wish) → Option ℕ → Option Wish
of_least core n wish l = if is_least_member core n then option_map wish l else None

-- What stands against a wish.

-- the guards of `offer` but that of the sender's phase
abbrev pub want_guards : Core → ℕ → Wish → List (Option Refusal)
want_guards core n wish =
    of_live core n (loaded_offers (core.state n) wish ∷ wish_guards core n wish)

abbrev pub may_want : Core → ℕ → Wish → Bool
may_want core n wish = is_none (first_of (want_guards core n wish))

-- the wish that is due, where its guards hold
abbrev pub wanted : Core → ℕ → Option Wish → Option Wish
wanted core n None = None
wanted core n (Some wish) = if may_want core n wish then Some wish else None

abbrev pub want : Core → ℕ → Option Wish
want core n = first_of (
    wanted core n (wish_if (meta_is_due core n) wishes.Meta)
    ∷ wanted core n (rebuild_of (core.adding n).addition (holds_device_lock core n))
    ∷ wanted core n (spare_of (core.adding n).addition)
    ∷ wanted core n (window_of core n)
    ∷ wanted core n (closing_of core n)
    ∷ wanted core n (option_map wishes.Work (covered_leg core n))
    ∷ wanted core n (of_least core n wishes.Remove (first_faulty core n))
    ∷ wanted core n (of_least core n wishes.NewDisk (first_spare core n))
    ∷ [])
