use Rattle.std.proofs.Common.{◌≡◌, map}
use Rattle.std.specs.Prelude.{string_bytes}
use Rattle.std.specs.List.{range_with_len}
use Rattle.image_files.specs.Names.{leg_name}
use Rattle.image_files.proofs.names.FileNames.new.Given as goal

abbrev pub invariant-loop-l : goal.invariant-loop-l
invariant-loop-l l = map string_bytes l.files.items ≡ map (leg_name l.name) (range_with_len 0 l.l)
