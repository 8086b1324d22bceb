-- The laws of the superblock's grammar.
use Rattle.std.specs.Prelude.{◌≡◌, ◌↔◌, List, ℕ, None}
use Rattle.md_superblock.specs.declared.superblock.Super.{Super}
use Rattle.mdc_types.specs.Sectors.{IsSector}
use Rattle.md_superblock.specs.Superblock.{IsSuper, IsWritten, super_of}
use Rattle.md_superblock.specs.Faults.{fault_of}

-- the sector spells some superblock whose fields are in their ranges
abbrev pub IsSpelled : List ℕ → Type 0
IsSpelled bytes = (s : Super) × IsSuper s × IsWritten s bytes

-- a sector has no fault exactly where it spells a superblock
abbrev pub FaultsAreExact : Type 0
FaultsAreExact = (bytes : List ℕ) → IsSector bytes → ((fault_of bytes ≡ None) ↔ IsSpelled bytes)

-- what is spelled is read again
abbrev pub IsReadAgain : Type 0
IsReadAgain = (s : Super) (bytes : List ℕ) → IsSuper s → IsWritten s bytes → (fault_of bytes ≡ None) × (super_of bytes ≡ s)

-- a superblock has one spelling
abbrev pub HasOneSpelling : Type 0
HasOneSpelling = (s : Super) (x y : List ℕ) → IsWritten s x → IsWritten s y → x ≡ y

-- a sector spells one superblock
abbrev pub HasOneValue : Type 0
HasOneValue = (s t : Super) (bytes : List ℕ) → IsSuper s → IsSuper t → IsWritten s bytes → IsWritten t bytes → s ≡ t
