-- What the reader of the scripts of images finds of their header.
use Rattle.std.proofs.Common.{◌≡◌, ℕ, ◌+◌, ◌-◌, List, ◌∷◌, length, drop, Result, Ok, ap, ◌∙◌}
use Rattle.script_text.specs.declared.script.Line.{Line}
use Rattle.script_text.specs.declared.faults.ScriptFault.{ScriptFault}
use Rattle.script_text.specs.Judging.{◌>>=◌, at_line}
use Rattle.script_text.specs.Lines.{lines_of, script_limit}
use Rattle.script_text.specs.Reading.{HasLine, body_at}
use Rattle.script_text.specs.Script.{line_of, header_then, body_of}
use Rattle.script_text.specs.Images.{images_header, images_in}
use Rattle.script_text.proofs.ReadingLaws.{room_after}

-- Line n stands at the place.
module _ (bytes : List ℕ) (at n : ℕ) where
  images_first : (words : List (List ℕ)) (next : ℕ) → HasLine bytes at words next
      → images_in n (script_limit - at) (lines_of (drop at bytes))
      ≡ header_then images_header n (Ok words) (images_in (n + 1) (script_limit - next) (lines_of (drop next bytes))) (λ header. body_at line_of bytes next (n + 1))
  images_first words next h =
      ap (images_in n (script_limit - at)) h.first
      ∙ (ap (λ said. header_then images_header n said (images_in (n + 1) (script_limit - at - length h.line) (lines_of (drop next bytes)))
      (λ header. body_of line_of (n + 1) (script_limit - at - length h.line) (lines_of (drop next bytes)))) h.said
      ∙ ap (λ room. header_then images_header n (Ok words) (images_in (n + 1) room (lines_of (drop next bytes))) (λ header. body_of line_of (n + 1) room (lines_of (drop next bytes))))
      (room_after bytes at n words next h))

  -- the header stands there
  pub header_found : (word : List ℕ) (args : List (List ℕ)) (next : ℕ) → HasLine bytes at (word ∷ args) next
      → (whole : Result (List Line) ScriptFault) → whole ≡ images_in n (script_limit - at) (lines_of (drop at bytes)) → at_line n (images_header word args) ≡ Ok tt
      → whole ≡ body_at line_of bytes next (n + 1)
  header_found word args next h whole is there =
      is ∙ (images_first (word ∷ args) next h ∙ ap (λ r. r >>= λ header. body_at line_of bytes next (n + 1)) there)
