-- The chunks gathered from the slots' pages for a leg that is added again: the pages of all slots
-- are read in turn, slots rising, and in each slot pages rising.
use Rattle.std.specs.Prelude.{ℕ, ◌+◌, ◌*◌, ◌/◌, ◌%◌, nat_lt, Bool, false, ◌||◌, if◌then◌else◌, Option, Some, None}
use Rattle.mdc_types.specs.Geometry.{Sizes, nodes_of, pages_of}

pub record Gathering : Type 0 where
  -- how many pages were gathered
  pub next : ℕ
  -- by chunk: a page that was gathered has it
  pub gathered : ℕ → Bool

abbrev pub none_gathered : Gathering
none_gathered = record { next = 0; gathered = λ c. false }

-- the pages in use of all slots
abbrev pub all_pages : Sizes → ℕ
all_pages g = nodes_of g * pages_of g

-- the slot and the page that are due, while there is one
abbrev pub due_slot : Sizes → Gathering → ℕ
due_slot g a = a.next / pages_of g

abbrev pub due_page : Sizes → Gathering → ℕ
due_page g a = a.next % pages_of g

abbrev pub page_to_gather : Sizes → Gathering → Option (ℕ × ℕ)
page_to_gather g a =
    if nat_lt a.next (all_pages g) then Some (due_slot g a, due_page g a) else None

-- the page that is due was read, and has these chunks
abbrev pub gathered_page : Gathering → (ℕ → Bool) → Gathering
gathered_page a has = record { next = a.next + 1; gathered = λ c. a.gathered c || has c }
