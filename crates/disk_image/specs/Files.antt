-- The files of an array, one a leg, and what the machine sees in them.
use Rattle.std.specs.Prelude.{ℕ, ◌+◌, ◌-◌, true, List, [], ◌∷◌, ◌++◌, length, replicate, get_or}
use Rattle.std.specs.Prelude.{unwrap_or}
use Rattle.mdc_types.specs.Sectors.{zero_sector}
use Rattle.leg_shelf.specs.Images.{sectors_in}
use Rattle.leg_shelf.specs.Shelves.{Files}
use Rattle.cluster_model.specs.State.{Legs}

-- the name of leg l's file: that of the array, a dot, and the leg
abbrev pub leg_name : List ℕ → ℕ → List ℕ
leg_name name l = name ++ 46 ∷ (48 + l) ∷ []

-- a name as superblocks have it: 32 bytes, zeros at the end
abbrev pub name_field : List ℕ → List ℕ
name_field name = name ++ replicate (32 - length name) 0

-- the legs in the files of the array of this name
abbrev pub legs_in : Files → List ℕ → Legs
legs_in files name = record {
  told = λ l. true;
  content = λ l at. get_or (sectors_in (unwrap_or (files (leg_name name l)) [])) at zero_sector;
}
