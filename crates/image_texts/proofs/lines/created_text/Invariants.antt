use Rattle.std.proofs.Common.{◌≡◌, string_bytes}
use Rattle.image_texts.specs.Lines.{created_line, lines_to}
use Rattle.image_texts.proofs.lines.created_text.Given as goal

abbrev pub invariant-loop-l : goal.invariant-loop-l
invariant-loop-l i = string_bytes i.text ≡ lines_to (created_line i.name) i.l
