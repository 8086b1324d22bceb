-- A page of a slot was gathered.
use Rattle.std.specs.Prelude.{ℕ}
use Rattle.dlm_modes.specs.Points.{with_at}
use Rattle.mdc_types.specs.declared.numbers.Sector.{Sector}
use Rattle.slot_gathering.specs.Gatherings.{gathered_page}
use Rattle.slot_pages.specs.Slot.{page_has}
use Rattle.cluster_model.specs.State.{Core, sizes}

-- the chunks of page p of a slot join what the node gathered
abbrev pub with_page_added : Core → ℕ → ℕ → Sector → Core
with_page_added core n p v = record core {
  adding = with_at core.adding n (record (core.adding n) {
    gathering = gathered_page (core.adding n).gathering (page_has (sizes core) p v.bytes);
  });
}
