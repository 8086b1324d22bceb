use Rattle.std.proofs.Common.{◌≡◌, string_bytes, take}
use Rattle.image_texts.specs.Shown.{legs_text}
use Rattle.image_texts.proofs.shown.show_text.Given as goal

abbrev pub invariant-loop-l : goal.invariant-loop-l
invariant-loop-l i = string_bytes i.text ≡ legs_text 0 (take i.l i.images)
