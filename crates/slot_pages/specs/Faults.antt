-- What is wrong with a page of a slot, the first of it.
use Rattle.std.specs.Prelude.{ℕ, ◌-◌, ◌==◌, max, not, if◌then◌else◌, Bool, List, get_or, Option, None}
use Rattle.std.specs.Option.{option_map}
use Rattle.dlm_modes.specs.First.{first_such}
use Rattle.dlm_modes.specs.Guards.{or_then}
use Rattle.mdc_types.specs.Geometry.{Sizes, chunks_of}
use Rattle.slot_pages.specs.Slot.{header_byte, page_start, page_end, chunk_bit}
use Rattle.slot_pages.specs.declared.SlotFault.{SlotFault}
use Rattle.slot_pages.specs.declared.SlotFault.TheVariants.{Header, SpareBit}

-- whether a byte isn't that of the header
abbrev pub differs : Sizes → List ℕ → List ℕ → ℕ → Bool
differs g uuid page i = not (get_or page i 0 == header_byte g uuid i)

-- the first byte of page 0 that differs from the header
abbrev pub wrong_byte : Sizes → List ℕ → ℕ → List ℕ → Option ℕ
wrong_byte g uuid p page = if p == 0 then first_such (differs g uuid page) 0 256 else None

-- the first place in page p past the last chunk
abbrev pub spare_from : Sizes → ℕ → ℕ
spare_from g p = max (page_start p) (chunks_of g)

-- the first set bit past the last chunk
abbrev pub spare_bit : Sizes → ℕ → List ℕ → Option ℕ
spare_bit g p page = first_such (chunk_bit page) (spare_from g p) (page_end p - spare_from g p)

-- the header is tried first
abbrev pub slot_fault : Sizes → List ℕ → ℕ → List ℕ → Option SlotFault
slot_fault g uuid p page = or_then (option_map Header (wrong_byte g uuid p page)) (option_map SpareBit (spare_bit g p page))
