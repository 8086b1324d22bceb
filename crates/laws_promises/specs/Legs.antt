-- What the legs hold of bitmaps, wherever a run ends.
use Rattle.std.specs.Prelude.{◌≡◌, ℕ, ◌<◌, List}
use Rattle.mdc_types.specs.Geometry.{Sizes, nodes_of, page_sector, slot_pages}
use Rattle.slot_pages.specs.Slot.{page_has, spelled_page}
use Rattle.cluster_model.specs.State.{Legs}
use Rattle.laws_roles.specs.Laws.{Always}

-- each page of each slot, in use or not, is in the grammar: it spells its own bits
abbrev pub PagesRead : Sizes → List ℕ → Legs → Type 0
PagesRead g uuid legs = (l n p : ℕ) → l < g.legs → n < nodes_of g → p < slot_pages g
    → let page = (legs.content l (page_sector g n p)).bytes in
    page ≡ spelled_page g uuid p (page_has g p page)

abbrev pub RunsKeepPages : Type 0
RunsKeepPages = Always (λ o start past end. PagesRead o.sizes o.uuid end.legs)
