use Rattle.std.proofs.Common.{◌≡◌, ◌++◌, [], get_or, string_bytes}
use Rattle.image_texts.specs.Lines.{lines_to}
use Rattle.image_texts.specs.Shown.{slot_line}
use Rattle.image_texts.proofs.shown.push_slot_lines.Given as goal

abbrev pub invariant-loop-k : goal.invariant-loop-k
invariant-loop-k i =
    string_bytes i.text ≡ string_bytes i.initial.text
    ++ lines_to (λ k. slot_line i.l k (get_or i.image.slots.items k [])) i.k
