-- The sizes and the uuid of an array that is to be made.
use Rattle.std.specs.Prelude.{ℕ, ◌==◌, Bool, if◌then◌else◌, List, length, Option, None}
use Rattle.std.specs.Result.{result_ok}
use Rattle.mdc_types.specs.Geometry.{Sizes, geometry_of}
use Rattle.script_text.specs.Numbers.{number_of, byte_of, hex_bytes}
use Rattle.script_text.specs.Steps.{◌>>=◌}

-- 32 digits, two for each byte
abbrev pub uuid_of : List ℕ → Option (List ℕ)
uuid_of word = if length word == 32 then hex_bytes word else None

-- `LEGS SECTORS ROOM CHUNK`, of image version 2 or not, if there is such an array
abbrev pub sizes_of : Bool → List ℕ → List ℕ → List ℕ → List ℕ → Option Sizes
sizes_of second legs sectors room chunk = do
  l ← byte_of legs
  s ← number_of sectors
  r ← number_of room
  c ← number_of chunk
  result_ok (geometry_of l s r c second)
