-- Copying of a sector from a working leg to all targets: `ci`, `co`, `settle`.
use Rattle.std.specs.Prelude.{ℕ, false, List, [], ◌∷◌, Option, Some, None, option_map}
use Rattle.dlm_modes.specs.Points.{with_at}
use Rattle.mdc_types.specs.Geometry.{Sizes}
use Rattle.mdc_types.specs.declared.numbers.Range.{Range}
use Rattle.mdc_types.specs.declared.numbers.Sector.{Sector}
use Rattle.mdc_types.specs.declared.outcomes.Outcome.{Outcome}
use Rattle.mdc_types.specs.declared.outcomes.Outcome.TheVariants.{Done, Settled}
use Rattle.mdc_types.specs.declared.refusals.Refusal.{Refusal}
use Rattle.mdc_types.specs.declared.refusals.Refusal.TheVariants.{NotWritten, NothingLeft}
use Rattle.leg_failure.specs.Views.{is_target}
use Rattle.node_bitmaps.specs.Bitmap.{Bitmap, with_need}
use Rattle.resync_worker.specs.Copying.{Passing, filled, copied, settled_at, next_in}
use Rattle.resync_worker.specs.Copying.{missing_target, completes}
use Rattle.resync_worker.specs.declared.buffer.Buffer.{Buffer}
use Rattle.cluster_model.specs.State.{Core, sizes}
use Rattle.cluster_model.specs.Guards.{refused_by, found_or, of_live, no_leg, not_target, unacked}
use Rattle.cluster_model.specs.Phases.{needs_up, copy_is, is_window, is_buffer}
use Rattle.cluster_model.specs.Changes.{headed, with_copy}

-- `ci n`: the next sector comes into the buffer, from the least working leg

abbrev pub next_for : Sizes → Option Passing → Option Range → Option ℕ
next_for g (Some p) (Some window) = next_in g p window
next_for g p window = None

abbrev pub next_sector : Core → ℕ → Option ℕ
next_sector core n = next_for (sizes core) (core.copy n).pass (core.copy n).window

abbrev pub ci_guards : Core → ℕ → List (Option Refusal)
ci_guards core n = of_live core n (
    needs_up core n
    ∷ copy_is core n is_window
    ∷ unacked core n
    ∷ found_or (next_sector core n) NothingLeft
    ∷ [])

abbrev pub with_pass : Core → ℕ → (Passing → Passing) → Core
with_pass core n f =
    with_copy core n (record (core.copy n) { pass = option_map f (core.copy n).pass })

abbrev pub filled_with : Core → ℕ → Option ℕ → ℕ → Sector → Core
filled_with core n None l v = core
filled_with core n (Some s) l v = with_pass (headed core n l (Some s)) n (λ p. filled p s v l)

abbrev pub copied_in : Core → ℕ → ℕ → Sector → Core
copied_in core n l v = filled_with core n (next_sector core n) l v

-- `co n l`: the buffer goes to the leg

abbrev pub buffer_in : Option Passing → Option Buffer
buffer_in None = None
buffer_in (Some p) = p.buffer

abbrev pub buffer_of : Core → ℕ → Option Buffer
buffer_of core n = buffer_in (core.copy n).pass

abbrev pub buffer_sector : Option Buffer → Option ℕ
buffer_sector None = None
buffer_sector (Some b) = Some b.sector

abbrev pub co_guards : Core → ℕ → ℕ → List (Option Refusal)
co_guards core n l = of_live core n
    (no_leg core l ∷ needs_up core n ∷ copy_is core n is_buffer ∷ not_target core n l
    ∷ unacked core n ∷ [])

abbrev pub copied_out : Core → ℕ → ℕ → Core
copied_out core n l =
    with_pass (headed core n l (buffer_sector (buffer_of core n))) n (λ p. copied p l)

-- `settle n`: all targets have the buffer's value

abbrev pub uncopied_target : Core → ℕ → Option Buffer → Option ℕ
uncopied_target core n None = None
uncopied_target core n (Some b) = missing_target (is_target (core.view n)) b

abbrev pub settle_guards : Core → ℕ → List (Option Refusal)
settle_guards core n = of_live core n (
    needs_up core n
    ∷ copy_is core n is_buffer
    ∷ unacked core n
    ∷ refused_by NotWritten (uncopied_target core n (buffer_of core n))
    ∷ [])

-- a completed chunk is needed no more
abbrev pub need_met : Bitmap → Option ℕ → Bitmap
need_met m None = m
need_met m (Some c) = with_need m c false

abbrev pub settle_buffer : Core → ℕ → Option Buffer → Core
settle_buffer core n None = core
settle_buffer core n (Some b) = record (with_pass core n (λ p. settled_at (sizes core) p b)) {
  bitmap = with_at core.bitmap n (need_met (core.bitmap n) (completes (sizes core) b));
}

abbrev pub settle : Core → ℕ → Core
settle core n = settle_buffer core n (buffer_of core n)

abbrev pub settled_with : Option Buffer → Outcome
settled_with None = Done
settled_with (Some b) = Settled b.sector b.value

abbrev pub settle_outcome : Core → ℕ → Outcome
settle_outcome core n = settled_with (buffer_of core n)
