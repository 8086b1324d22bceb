-- The names of an array's devices.
use Rattle.std.specs.Prelude.{◌≡◌, ℕ, ◌<◌, List, Option}
use Rattle.std.specs.Str.{bytes_eq}
use Rattle.dlm_modes.specs.First.{first_such}
use Rattle.mdc_types.specs.Names.{device_uuid}

-- the names of the devices of an array with this uuid, of 16 bytes, and so many legs
pub record Names : Type 0 where
  pub uuid : List ℕ
  pub legs : ℕ

-- the least leg of that name
abbrev pub leg_named : Names → List ℕ → Option ℕ
leg_named a name = first_such (λ l. bytes_eq (device_uuid a.uuid l) name) 0 a.legs

-- leg l is one of the array, and that is its name
abbrev pub IsNamed : Names → List ℕ → ℕ → Type 0
IsNamed a name l = (l < a.legs) × (name ≡ device_uuid a.uuid l)
