-- Words that are names of arrays.
use Rattle.std.specs.Prelude.{◌≡◌, ℕ, ◌-◌, ◌≤◌, nat_le, Bool, true, ◌&&◌, List, ◌++◌, length, replicate, Option}
use Rattle.std.specs.List.{list_all}
use Rattle.mdc_types.specs.Names.{is_name_byte, is_name}
use Rattle.script_text.specs.Steps.{guarded}

-- 1 to 31 letters, digits or `_`
abbrev pub is_name_word : List ℕ → Bool
is_name_word word = nat_le 1 (length word) && nat_le (length word) 31 && list_all is_name_byte word

abbrev pub name_of : List ℕ → Option (List ℕ)
name_of word = guarded (is_name_word word) word

-- The word is a name, and so is what superblocks hold of it: 32 bytes, zeros after the name.
pub record IsArrayName (name : List ℕ) : Type 0 where
  pub some : 1 ≤ length name
  pub few : length name ≤ 31
  pub bytes : list_all is_name_byte name ≡ true
  pub field : is_name (name ++ replicate (32 - length name) 0) ≡ true
