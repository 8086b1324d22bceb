-- A bitmap slot of a node: a header, and then a bit for each chunk.
use Rattle.std.specs.Prelude.{◌≡◌, ℕ, zero, suc, ◌+◌, ◌-◌, ◌*◌, ◌/◌, ◌%◌, ◌<◌, ◌≤◌, ◌==◌, nat_lt, if◌then◌else◌, Bool, false, ◌&&◌, ◌||◌, List, [], ◌∷◌, length, get_or, map}
use Rattle.std.specs.List.{range_with_len}
use Rattle.byteorder.specs.Endian.{little_bytes}
use Rattle.mdc_types.specs.Bits.{has_bit, with_bit}
use Rattle.mdc_types.specs.Geometry.{Sizes, chunks_of, nodes_of, page_of}
use Rattle.mdc_types.specs.Ranges.{holds}

-- the fields of the header: where each begins, and its bytes, the lowest first
abbrev pub header_fields : Sizes → List ℕ → List (ℕ × List ℕ)
header_fields g uuid =
    (0, little_bytes 4 0x6d746962) ∷ (4, little_bytes 4 5) ∷ (8, uuid) ∷ (24, little_bytes 8 0)
    ∷ (40, little_bytes 8 g.room) ∷ (52, little_bytes 4 (512 * g.chunk)) ∷ (68, little_bytes 4 (nodes_of g)) ∷ []

-- a byte of the field that covers it, and else 0
abbrev pub byte_in : List (ℕ × List ℕ) → ℕ → ℕ
byte_in [] i = 0
byte_in (field ∷ fields) i = if holds field.0 (field.0 + length field.1) i then get_or field.1 (i - field.0) 0 else byte_in fields i

-- byte i of page 0, below 256
abbrev pub header_byte : Sizes → List ℕ → ℕ → ℕ
header_byte g uuid i = byte_in (header_fields g uuid) i

-- the chunks of page p are those from here up to there
abbrev pub page_start : ℕ → ℕ
page_start p = 4096 * p - 2048

abbrev pub page_end : ℕ → ℕ
page_end p = 4096 * p + 2048

-- the byte of a chunk in its page: eight chunks to a byte, after the 256 bytes of the header
abbrev pub byte_of_chunk : ℕ → ℕ
byte_of_chunk c = (256 + c / 8) % 512

-- the bit of a chunk in its page: the lowest is the first
abbrev pub chunk_bit : List ℕ → ℕ → Bool
chunk_bit page c = has_bit (get_or page (byte_of_chunk c) 0) (c % 8)

-- The grammar of slots: page p of a slot spells the set.
pub record Spells (g : Sizes) (uuid : List ℕ) (p : ℕ) (set : List Bool) (page : List ℕ) : Type 0 where
  pub chunks : length set ≡ chunks_of g
  -- the header of page 0 is the fixed one
  pub header : p ≡ 0 → (i : ℕ) → i < 256 → get_or page i 0 ≡ header_byte g uuid i
  -- a bit is set exactly where its chunk is in the set
  pub bits : (c : ℕ) → page_of c ≡ p → c < chunks_of g → chunk_bit page c ≡ get_or set c false
  -- bits past the last chunk are 0
  pub spare : (c : ℕ) → page_of c ≡ p → chunks_of g ≤ c → chunk_bit page c ≡ false

-- whether a chunk's bit is set in this page p
abbrev pub page_has : Sizes → ℕ → List ℕ → ℕ → Bool
page_has g p page c = nat_lt c (chunks_of g) && (page_of c == p) && chunk_bit page c

-- the chunks whose bits are set in this page p
abbrev pub set_of_page : Sizes → ℕ → List ℕ → List Bool
set_of_page g p page = map (page_has g p page) (range_with_len 0 (chunks_of g))

-- the old chunks and the page's, and no others
pub record AddsPage (g : Sizes) (p : ℕ) (page : List ℕ) (old new : List Bool) : Type 0 where
  pub chunks : length new ≡ length old
  pub each : (c : ℕ) → get_or new c false ≡ (get_or old c false || page_has g p page c)

-- the old chunks and those of the set in page p, and no others
pub record AddsChunks (p : ℕ) (set old new : List Bool) : Type 0 where
  pub chunks : length new ≡ length old
  pub each : (c : ℕ) → get_or new c false ≡ (get_or old c false || ((page_of c == p) && get_or set c false))

-- the chunk of bit k of byte i of page p
abbrev pub chunk_of_bit : ℕ → ℕ → ℕ → ℕ
chunk_of_bit p i k = 4096 * p + 8 * i + k - 2048

-- the numbers below n that pass the test, one bit each
unfoldable pub bits_below : (ℕ → Bool) → ℕ → ℕ
bits_below test zero = 0
bits_below test (suc n) = if test n then with_bit (bits_below test n) n else bits_below test n

-- bits past the last chunk are 0
abbrev pub is_set : Sizes → (ℕ → Bool) → ℕ → Bool
is_set g set c = nat_lt c (chunks_of g) && set c

-- byte i of page p: of the header, or the bits of eight chunks
abbrev pub byte_of_page : Sizes → List ℕ → ℕ → (ℕ → Bool) → ℕ → ℕ
byte_of_page g uuid p set i =
    if (p == 0) && nat_lt i 256 then header_byte g uuid i
    else bits_below (λ k. is_set g set (chunk_of_bit p i k)) 8

-- the 512 bytes of page p that spell the set
unfoldable pub spelled_page : Sizes → List ℕ → ℕ → (ℕ → Bool) → List ℕ
spelled_page g uuid p set = map (byte_of_page g uuid p set) (range_with_len 0 512)
