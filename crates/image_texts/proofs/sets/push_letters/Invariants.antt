use Rattle.std.proofs.Common.{◌≡◌, ◌++◌, map, string_bytes, take}
use Rattle.image_texts.specs.Sets.{role_letter}
use Rattle.image_texts.proofs.sets.push_letters.Given as goal

abbrev pub invariant-loop-role : goal.invariant-loop-role
invariant-loop-role l =
    string_bytes l.text ≡ string_bytes l.initial.text ++ map role_letter (take l.role-index l.roles)
