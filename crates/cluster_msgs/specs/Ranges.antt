-- Ranges in messages and in range blocks.
use Rattle.std.specs.Prelude.{◌≡◌, ℕ, ◌<◌, ◌≤◌, replicate, List, ◌++◌}
use Rattle.byteorder.specs.Endian.{little_bytes}
use Rattle.mdc_types.specs.declared.numbers.Range.{Range}

-- lo < hi <= 131072, or both are 0, which is the empty range
pub record IsRange (r : Range) : Type 0 where
  pub hi : r.hi ≤ 131072
  pub order : 0 < r.hi → r.lo < r.hi
  pub empty : r.hi ≡ 0 → r.lo ≡ 0

-- a range block: lo at byte 0 and hi at byte 8, and zeros
unfoldable pub spelled_range : Range → List ℕ
spelled_range r = little_bytes 8 r.lo ++ (little_bytes 8 r.hi ++ replicate 48 0)

-- the grammar: these bytes, and no others, are the range
pub record SpellsRange (bytes : List ℕ) (r : Range) : Type 0 where
  pub range : IsRange r
  pub bytes_are : bytes ≡ spelled_range r

-- no two ranges have one spelling
abbrev pub RangesHaveOneSpelling : Type 0
RangesHaveOneSpelling = (r s : Range) → IsRange r → IsRange s → spelled_range r ≡ spelled_range s → r ≡ s
