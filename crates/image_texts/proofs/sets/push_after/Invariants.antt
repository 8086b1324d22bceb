use Rattle.std.proofs.Common.{◌≡◌, ◌++◌, string_bytes, take}
use Rattle.std.specs.List.{flat_map}
use Rattle.image_texts.specs.Sets.{after_comma}
use Rattle.image_texts.proofs.sets.push_after.Given as goal

abbrev pub invariant-loop-n : goal.invariant-loop-n
invariant-loop-n l =
    string_bytes l.text ≡ string_bytes l.initial.text ++ flat_map after_comma (take l.n-index l.numbers)
