-- The laws of the bytes that spell a set in a page.
use Rattle.std.specs.Prelude.{◌≡◌, ℕ, ◌<◌, ◌==◌, nat_lt, Bool, false, ◌&&◌, List, length, get_or, None}
use Rattle.mdc_types.specs.Geometry.{Sizes, chunks_of, page_of}
use Rattle.mdc_types.specs.Sectors.{IsSector}
use Rattle.slot_pages.specs.Slot.{Spells, page_has, spelled_page}
use Rattle.slot_pages.specs.Faults.{slot_fault}

-- the sixteen bytes of a uuid
pub record IsUuid (uuid : List ℕ) : Type 0 where
  pub bytes : length uuid ≡ 16
  pub fit : (i : ℕ) → get_or uuid i 0 < 256

-- what is spelled is a sector that spells the set
abbrev pub SpellsTheSet : Type 0
SpellsTheSet =
    (g : Sizes) (uuid : List ℕ) (p : ℕ) (set : List Bool) → IsUuid uuid → length set ≡ chunks_of g
    → let page = spelled_page g uuid p (λ c. get_or set c false) in
    IsSector page × Spells g uuid p set page

-- it has the chunks of the set that are there and in the page, and no others
abbrev pub HasTheSet : Type 0
HasTheSet =
    (g : Sizes) (uuid : List ℕ) (p : ℕ) (set : ℕ → Bool) (c : ℕ)
    → page_has g p (spelled_page g uuid p set) c
    ≡ (nat_lt c (chunks_of g) && (page_of c == p) && set c)

-- no other page spells the set
abbrev pub HasOneSpelling : Type 0
HasOneSpelling =
    (g : Sizes) (uuid : List ℕ) (p : ℕ) (set : List Bool) (page : List ℕ)
    → IsSector page → Spells g uuid p set page → page ≡ spelled_page g uuid p (λ c. get_or set c false)

-- a page without a fault spells its own bits
abbrev pub SpellsItsBits : Type 0
SpellsItsBits =
    (g : Sizes) (uuid : List ℕ) (p : ℕ) (page : List ℕ) → IsSector page
    → slot_fault g uuid p page ≡ None → page ≡ spelled_page g uuid p (page_has g p page)
