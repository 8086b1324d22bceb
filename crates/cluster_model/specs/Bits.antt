-- A node's write-intent bitmap on the legs: `bit`, `clear`.
use Rattle.std.specs.Prelude.{ℕ, nat_lt, Bool, false, not, ◌||◌, List, [], ◌∷◌, Option}
use Rattle.dlm_modes.specs.First.{first_such}
use Rattle.dlm_modes.specs.Guards.{unless}
use Rattle.dlm_modes.specs.Points.{with_at}
use Rattle.mdc_types.specs.Geometry.{chunks_of, chunk_start, chunk_end}
use Rattle.mdc_types.specs.Roles.{is_faulty, is_rebuilding}
use Rattle.mdc_types.specs.declared.numbers.Sector.{Sector}
use Rattle.mdc_types.specs.declared.refusals.Refusal.{Refusal}
use Rattle.mdc_types.specs.declared.refusals.Refusal.TheVariants.{NoChunk, NotNeeded, Needed}
use Rattle.mdc_types.specs.declared.refusals.Refusal.TheVariants.{Degraded}
use Rattle.leg_failure.specs.Views.{NodeView}
use Rattle.node_bitmaps.specs.Bitmap.{with_set, written, failed}
use Rattle.slot_pages.specs.Slot.{spelled_page}
use Rattle.cluster_model.specs.State.{Core, sizes}
use Rattle.cluster_model.specs.Guards.{refused_by, of_live, no_leg, no_page, not_target, unacked}
use Rattle.cluster_model.specs.Guards.{draining_in}
use Rattle.cluster_model.specs.Phases.{needs_up}

-- `bit n p l`: page p of the node's slot goes to the leg

abbrev pub bit_guards : Core → ℕ → ℕ → ℕ → List (Option Refusal)
bit_guards core n p l = of_live core n
    (no_leg core l ∷ needs_up core n ∷ no_page core p ∷ not_target core n l ∷ [])

abbrev pub page_sector_of : Core → ℕ → (ℕ → Bool) → Sector
page_sector_of core p set = record { bytes = spelled_page core.array.sizes core.array.uuid p set }

abbrev pub page_written : Core → ℕ → ℕ → ℕ → Core
page_written core slot p l =
    record core { bitmap = with_at core.bitmap slot (written (core.bitmap slot) p l) }

-- either page may stand there
abbrev pub page_failed : Core → ℕ → ℕ → ℕ → Core
page_failed core slot p l =
    record core { bitmap = with_at core.bitmap slot (failed (core.bitmap slot) p l) }

-- `clear n c`: the chunk leaves the set

abbrev pub is_degraded : NodeView → ℕ → Bool
is_degraded v l = is_faulty (v.role l) || is_rebuilding (v.role l)

abbrev pub clear_guards : Core → ℕ → ℕ → List (Option Refusal)
clear_guards core n c = of_live core n (
    needs_up core n
    ∷ unless (nat_lt c (chunks_of (sizes core))) (NoChunk c)
    ∷ unless ((core.bitmap n).set c) NotNeeded
    ∷ draining_in core n (chunk_start (sizes core) c) (chunk_end (sizes core) c)
    ∷ unless (not ((core.bitmap n).need c)) (Needed c)
    ∷ unacked core n
    ∷ refused_by Degraded (first_such (is_degraded (core.view n)) 0 8)
    ∷ [])

abbrev pub clear : Core → ℕ → ℕ → Core
clear core n c = record core { bitmap = with_at core.bitmap n (with_set (core.bitmap n) c false) }
