-- What is wrong with the size of an image, and the sizes of the array that it says.
use Rattle.std.specs.Prelude.{ℕ, ◌+◌, ◌*◌, ◌/◌, ◌==◌, nat_le, List, [], ◌∷◌, Option, Some, None}
use Rattle.std.specs.Prelude.{Result}
use Rattle.byteorder.specs.Endian.{little_from}
use Rattle.dlm_modes.specs.Guards.{unless, first_of}
use Rattle.mdc_types.specs.Geometry.{Sizes, geometry_of, data_offset_of}
use Rattle.mdc_types.specs.declared.geometry.GeomError.{GeomError}
use Rattle.md_superblock.specs.declared.superblock.Super.{Super}
use Rattle.image_faults.specs.declared.faults.ImageFault.{ImageFault}
use Rattle.image_faults.specs.declared.faults.ImageFault.TheVariants.{Missing, Short, Long}

-- no file, or too few bytes for a superblock and the slots of version 1: 80 sectors
abbrev pub size_fault : Option ℕ → Option ImageFault
size_fault None = Some Missing
size_fault (Some size) = unless (nat_le 40960 size) Short

-- the bytes of an image, by its superblock
abbrev pub file_size : Super → ℕ
file_size s = 512 * (data_offset_of (s.version == 2) + s.room)

abbrev pub length_fault : Super → ℕ → Option ImageFault
length_fault s size = first_of (
    unless (nat_le (file_size s) size) Short
    ∷ unless (nat_le size (file_size s)) Long
    ∷ [])

-- the chunk of an array in sectors, as the first page of its slot 0 says it
abbrev pub chunk_in : List ℕ → ℕ
chunk_in page = little_from 52 4 page / 512

-- the sizes of an array with this superblock and chunk
abbrev pub sizes_of : Super → ℕ → Result Sizes GeomError
sizes_of s chunk = geometry_of s.geometry_legs s.sectors s.room chunk (s.version == 2)
