-- The bytes of a message block: 64 in all, all numbers little endian.
use Rattle.std.specs.Prelude.{ℕ, replicate, List, ◌++◌}
use Rattle.std.specs.List.{flat_map}
use Rattle.byteorder.specs.Endian.{little_bytes}
use Rattle.cluster_msgs.specs.declared.fields.Fields.{Fields}

-- the fields one after another: kind, slot, first, second and leg at bytes 0, 4, 8, 16 and 24, zero at 28,
-- the uuid at 32, and at 48 eight roles of 16 bits
unfoldable pub layout : Fields → List ℕ
layout f = little_bytes 4 f.kind ++ (little_bytes 4 f.slot ++ (little_bytes 8 f.first ++ (little_bytes 8 f.second ++ (little_bytes 4 f.leg ++ (little_bytes 4 0 ++ (f.uuid ++ flat_map (little_bytes 2) f.roles))))))

-- a message of which but kind and slot no field is used
abbrev pub no_fields : ℕ → ℕ → Fields
no_fields kind slot = record { kind = kind; slot = slot; first = 0; second = 0; leg = 0; uuid = replicate 16 0; roles = replicate 8 0 }
