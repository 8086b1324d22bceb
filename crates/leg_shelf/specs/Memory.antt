-- A shelf in memory.
use Rattle.std.specs.Prelude.{ℕ, nat_eq, Bool, List, [], Option, Some, unwrap_or}
use Rattle.std.specs.Prelude.{if◌then◌else◌}
use Rattle.std.specs.HashMap.{get_by_text}
use Rattle.std.specs.List.{list_any}
use Rattle.std.specs.Option.{option_map}
use Rattle.std.specs.Map.{update}
use Rattle.std.specs.Str.{bytes_eq}
use Rattle.leg_store.specs.declared.memory.Left.{Left}
use Rattle.leg_store.specs.Memory as leg
use Rattle.leg_store.specs.Plans.{one_more}
use Rattle.leg_shelf.specs.declared.memory.MemShelf.{MemShelf}
use Rattle.leg_shelf.specs.Images.{sectors_in}
use Rattle.leg_shelf.specs.Shelves.{Files}

pub record MemFiles : Type 0 where
  pub files : Files
  -- the numbers of the calls that fail
  pub failing : List ℕ
  -- by name, the transfers that fail of the leg that is opened under it
  pub plans : List ℕ → Option (List (ℕ × Left))
  -- how many calls there were
  pub calls : ℕ
  pub faults : ℕ
  -- how often the legs had failed that came back
  pub leg_faults : ℕ

-- what a shelf in memory is seen as
abbrev pub mem_of : MemShelf → MemFiles
mem_of s = record {
  files = λ name. option_map (λ v. v.items) (get_by_text s.files name);
  failing = s.failing.items;
  plans = λ name. option_map (λ v. v.items) (get_by_text s.plans name);
  calls = s.calls;
  faults = s.faults;
  leg_faults = s.leg_faults;
}

-- what a shelf in memory tells
abbrev pub told : MemFiles → Option Files
told s = Some s.files

abbrev pub call_fails : MemFiles → Bool
call_fails s = list_any (nat_eq s.calls) s.failing

-- a call was counted, and its fault where it failed
abbrev pub after_call : MemFiles → MemFiles
after_call s =
    if call_fails s then record s { calls = one_more s.calls; faults = one_more s.faults }
    else record s { calls = one_more s.calls }

abbrev pub with_file : MemFiles → List ℕ → List ℕ → MemFiles
with_file s name bytes = record s { files = update bytes_eq s.files name (Some bytes) }

-- the leg of these bytes, before its first transfer
abbrev pub leg_of : MemFiles → List ℕ → List ℕ → leg.Memory
leg_of s name bytes = record {
  sectors = sectors_in bytes;
  failing = unwrap_or (s.plans name) [];
  transfers = 0;
  faults = 0;
}
