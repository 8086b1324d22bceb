-- What a leg missed that is added again: `gather`.
use Rattle.std.specs.Prelude.{ℕ, ◌==◌, Bool, true, false, if◌then◌else◌, List, [], ◌∷◌, Option}
use Rattle.std.specs.Prelude.{Some, None, is_some}
use Rattle.dlm_modes.specs.Points.{with_at}
use Rattle.mdc_types.specs.declared.numbers.Sector.{Sector}
use Rattle.mdc_types.specs.declared.refusals.Refusal.{Refusal}
use Rattle.mdc_types.specs.declared.refusals.Refusal.TheVariants.{NothingLeft}
use Rattle.leg_failure.specs.Views.{working_leg}
use Rattle.disk_addition.specs.declared.addition.Addition.{Addition}
use Rattle.disk_addition.specs.declared.addition.Addition.TheVariants.{Again}
use Rattle.slot_gathering.specs.Gatherings.{page_to_gather, gathered_page}
use Rattle.slot_pages.specs.Slot.{page_has}
use Rattle.cluster_model.specs.State.{Core, sizes}
use Rattle.cluster_model.specs.Guards.{found_or, of_live, unacked}
use Rattle.cluster_model.specs.Phases.{needs_up, copy_is, addition_is, is_held}

abbrev pub is_again : Addition → Bool
is_again (Again l) = true
is_again a = false

abbrev pub is_again_of : Addition → ℕ → Bool
is_again_of (Again m) l = m == l
is_again_of a l = false

-- the slot and the page that are due
abbrev pub due_page : Core → ℕ → Option (ℕ × ℕ)
due_page core n = page_to_gather (sizes core) (core.adding n).gathering

-- where pages are left, the leg that they are read from
abbrev pub leg_to_gather : Core → ℕ → Option ℕ
leg_to_gather core n = if is_some (due_page core n) then working_leg (core.view n) else None

-- `gather n`: the next page is read from the least working leg

abbrev pub gather_guards : Core → ℕ → List (Option Refusal)
gather_guards core n = of_live core n (
    needs_up core n
    ∷ copy_is core n is_held
    ∷ addition_is core n (is_again (core.adding n).addition)
    ∷ unacked core n
    ∷ found_or (due_page core n) NothingLeft
    ∷ [])

-- its chunks join the gathered set
abbrev pub page_gathered : Core → ℕ → Option (ℕ × ℕ) → Sector → Core
page_gathered core n None v = core
page_gathered core n (Some due) v = record core {
  adding = with_at core.adding n (record (core.adding n) {
    gathering = gathered_page (core.adding n).gathering (page_has (sizes core) due.1 v.bytes);
  });
}

abbrev pub gather : Core → ℕ → Sector → Core
gather core n v = page_gathered core n (due_page core n) v
