-- What a recovery of a dead node's slot has done so far, as plain data.
use Rattle.std.specs.Prelude.{◌≡◌, ℕ, ◌^◌, ◌<◌, List, length, get_or, Bool, false, ◌&&◌, ◌||◌, Option}
use Rattle.dlm_modes.specs.First.{first_such}
use Rattle.mdc_types.specs.Geometry.{Sizes, chunks_of, pages_of}
use Rattle.mdc_types.specs.Pages.{bits_of, none_done, done_at, first_page_left, leg_left}

pub record Progress : Type 0 where
  pub slot : ℕ
  -- by page in use, one bit for each leg from which it was read
  pub read : List ℕ
  -- by page in use, one bit for each leg to which it was written clean
  pub cleared : List ℕ
  -- by chunk: found in a page that was read
  pub found : List Bool

-- pages of the slot in use
abbrev pub pages_in : Progress → ℕ
pages_in r = length r.read

abbrev pub chunks_in : Progress → ℕ
chunks_in r = length r.found

-- of so many pages and chunks
pub record HasSize (r : Progress) (pages chunks : ℕ) : Type 0 where
  pub read : length r.read ≡ pages
  pub cleared : length r.cleared ≡ pages
  pub found : length r.found ≡ chunks

-- slot d is a node's, and both lists of bits are as long
pub record IsProgress (d reads clears : ℕ) : Type 0 where
  pub slot : d < 16
  pub few : reads < 2 ^ 32
  pub same : clears ≡ reads

-- The recovery that these data stand for.

pub record Recovering : Type 0 where
  pub slot : ℕ
  -- by page and leg: it was read from there, and it was written clean to there
  pub read : ℕ → ℕ → Bool
  pub cleared : ℕ → ℕ → Bool
  -- by chunk: it was found in a page that was read
  pub found : ℕ → Bool

abbrev pub recovering_of : Progress → Recovering
recovering_of r = record {
  slot = r.slot;
  read = bits_of r.read;
  cleared = bits_of r.cleared;
  found = λ c. get_or r.found c false;
}

-- a recovery of slot d that has just begun
abbrev pub begun : ℕ → Recovering
begun d = record { slot = d; read = none_done; cleared = none_done; found = λ c. false }

-- page p was read from leg l, and was written clean to it
abbrev pub with_read : Recovering → ℕ → ℕ → Recovering
with_read r p l = record r { read = done_at r.read p l }

abbrev pub with_cleared : Recovering → ℕ → ℕ → Recovering
with_cleared r p l = record r { cleared = done_at r.cleared p l }

-- these chunks were found too
abbrev pub with_found : Recovering → (ℕ → Bool) → Recovering
with_found r has = record r { found = λ c. r.found c || has c }

-- the first page and working leg from which it wasn't read, and the first page and target where it
-- wasn't cleared
abbrev pub unread : Sizes → Recovering → (ℕ → Bool) → Option (ℕ × ℕ)
unread g r working = first_page_left r.read working (pages_of g)

abbrev pub uncleared : Sizes → Recovering → (ℕ → Bool) → Option (ℕ × ℕ)
uncleared g r targets = first_page_left r.cleared targets (pages_of g)

-- the least working leg with an unread page, and the least target with an uncleared one
abbrev pub unread_leg : Sizes → Recovering → (ℕ → Bool) → Option ℕ
unread_leg g r working = leg_left r.read working (pages_of g)

abbrev pub uncleared_leg : Sizes → Recovering → (ℕ → Bool) → Option ℕ
uncleared_leg g r targets = leg_left r.cleared targets (pages_of g)

-- the first chunk that was found and is one of these, as those that are to be copied
abbrev pub first_found_needed : Sizes → Recovering → (ℕ → Bool) → Option ℕ
first_found_needed g r need = first_such (λ c. r.found c && need c) 0 (chunks_of g)
