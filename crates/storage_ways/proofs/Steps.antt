-- The ways of each step.
use Rattle.std.proofs.Common.{◌≡◌, ℕ, ◌<◌, true, None, refl}
use Rattle.mdc_types.specs.declared.events.Event.{Event}
use Rattle.mdc_types.specs.declared.events.Event.TheVariants as events
use Rattle.mdc_types.specs.declared.outcomes.Outcome.{Outcome}
use Rattle.cluster_model.specs.State.{State, Legs, sizes}
use Rattle.cluster_model.specs.After.{after}
use Rattle.cluster_model.specs.Phases.{is_up}
use Rattle.cluster_model.specs.Reads.{in_guards}
use Rattle.cluster_model.specs.Run.{Moves}
use Rattle.cluster_model.specs.Table.{refusal}
use Rattle.laws_sound.proofs.Guarded.{all_none, unless_none}
use Rattle.laws_roles.proofs.Parts as roles
use Rattle.laws_roles.proofs.Standing.{Bytes}
use Rattle.storage_ways.proofs.Place.{here, Place}
use Rattle.storage_ways.proofs.Moving.{Traced, around, next}
use Rattle.storage_ways.proofs.QuietSteps.{quiet_ways}
use Rattle.storage_ways.proofs.ReadSteps.{load_step, in_step, gather_step, copy_in_step, slot_in_step}
use Rattle.storage_ways.proofs.SuperSteps.{super_step}
use Rattle.storage_ways.proofs.WriteSteps.{page_step, out_step, copy_step, slot_step}
use Rattle.storage_ways.proofs.Ways.{Ways}

module _ (old : State) (g : roles.Ghost) (vs : Traced) (p : Place old.core (around old.core old.legs g vs)) (bytes : Bytes old.core.array) (told : (j : ℕ) → j < (sizes old.core).legs → old.legs.told j ≡ true) where
  pub move_ways : (e : Event) (o : Outcome) (new : Legs) → refusal old.core e ≡ None → Moves old e o new → Ways (here old.core (around old.core old.legs g vs)) (here (after old.core e o) (next old g vs e o new))
  move_ways (events.Load n l) o new ok m = load_step old g vs p told n l o new ok m
  move_ways (events.WriteSuper n l) o new ok m = super_step old g vs p bytes told n l o new ok m
  move_ways (events.WritePage n q l) o new ok m = page_step old g vs p told n q l o new ok m
  move_ways (events.Out n k l) o new ok m = out_step old g vs p told n k l o new ok m
  move_ways (events.In n k) o new ok m = in_step old g vs p told n k o new (unless_none (is_up (old.core.state n)) _ (all_none (in_guards old.core n k) ok).1.1.1.0) m
  move_ways (events.Gather n) o new ok m = gather_step old g vs p told n o new ok m
  move_ways (events.CopyIn n) o new ok m = copy_in_step old g vs p told n o new ok m
  move_ways (events.CopyOut n l) o new ok m = copy_step old g vs p told n l o new ok m
  move_ways (events.SlotIn n q l) o new ok m = slot_in_step old g vs p told n q l o new ok m
  move_ways (events.SlotOut n q l) o new ok m = slot_step old g vs p told n q l o new ok m
  move_ways e o new ok m = quiet_ways old g vs p e o new refl ok m
