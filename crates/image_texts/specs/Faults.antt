-- The words of what is wrong with an image.
use Rattle.std.specs.Prelude.{ℕ, List, ◌++◌, codes, decimal}
use Rattle.md_superblock.specs.Words.{field_word}
use Rattle.md_superblock.specs.declared.faults.SuperFault.{SuperFault}
use Rattle.md_superblock.specs.declared.faults.SuperFault.TheVariants.{Magic, Version, Sum, Level, Range, Role}
use Rattle.image_faults.specs.declared.faults.ImageFault.{ImageFault}
use Rattle.image_faults.specs.declared.faults.ImageFault.TheVariants.{Missing, Short, Long, Super, Slot, Geometry, Unmarked, Upgraded}

abbrev pub super_words : SuperFault → List ℕ
super_words (Magic found) = codes "magic " ++ decimal found
super_words (Version found) = codes "version " ++ decimal found
super_words (Sum stored found) = codes "sum " ++ decimal stored ++ codes " " ++ decimal found
super_words (Level found) = codes "level " ++ decimal found
super_words (Range field) = codes "range " ++ field_word field
super_words (Role i) = codes "role " ++ decimal i

-- of a superblock that is none only its own fault is told
abbrev pub fault_words : ImageFault → List ℕ
fault_words Missing = codes "missing"
fault_words Short = codes "short"
fault_words Long = codes "long"
fault_words (Super fault) = super_words fault
fault_words (Slot k) = codes "slot " ++ decimal k
fault_words Geometry = codes "geometry"
fault_words (Unmarked s) = codes "unmarked " ++ decimal s
fault_words Upgraded = codes "upgraded"
