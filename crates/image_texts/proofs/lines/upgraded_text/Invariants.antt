use Rattle.std.proofs.Common.{◌≡◌, string_bytes}
use Rattle.image_texts.specs.Lines.{upgraded_line, lines_to}
use Rattle.image_texts.proofs.lines.upgraded_text.Given as goal

abbrev pub invariant-loop-l : goal.invariant-loop-l
invariant-loop-l i = string_bytes i.text ≡ lines_to (upgraded_line i.name) i.l
