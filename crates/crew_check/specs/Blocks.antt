-- The blocks that are compared apart from one another.
use Rattle.std.specs.Prelude.{ℕ, ◌-◌, ◌*◌, min, List, length, Option}
use Rattle.std.specs.Int.{div_ceil}
use Rattle.dlm_modes.specs.First.{first_such}
use Rattle.mdc_types.specs.declared.numbers.Sector.{Sector}
use Rattle.image_faults.specs.Compare.{differs_at}

-- how many blocks of 64 sectors there are; the last may be shorter
abbrev pub blocks_of : ℕ → ℕ
blocks_of sectors = div_ceil sectors 64

-- the first place of block i in which they differ
abbrev pub first_in_block : List Sector → List Sector → ℕ → Option ℕ
first_in_block a b i =
    first_such (differs_at a b) (i * 64) (min 64 (length a - i * 64))
