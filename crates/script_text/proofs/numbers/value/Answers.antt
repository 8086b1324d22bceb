use Rattle.std.proofs.Common.{inl, inr, arith, ◌∙◌, ap}
use Rattle.std.specs.Option.{option_map}
use Rattle.script_text.specs.Numbers.{sector_of, hex_bytes}
use Rattle.script_text.proofs.HexLaws.{value_refused, value_taken}
use Rattle.script_text.proofs.numbers.value.Goals as goal
use Rattle.script_text.proofs.numbers.value.Goals.{then-digits-lt2-via-then-digits-lt2, then-digits-lt2-via-else-digits-lt2+then-digits-gt-MAX_DIGITS, then-digits-lt2-via-else-digits-lt2+else-digits-gt-MAX_DIGITS+then-digits-ne0}

pub returns-then-digits-lt2 : goal.returns-then-digits-lt2
returns-then-digits-lt2 c =
    value_refused c.args.word.now c.if-eq.ensures (elim c.then-digits-lt2.branch [
      | then-digits-lt2-via-then-digits-lt2 w ↦ inl (omega arith)
      | then-digits-lt2-via-else-digits-lt2+then-digits-gt-MAX_DIGITS w ↦ inr (inl (omega arith))
      | then-digits-lt2-via-else-digits-lt2+else-digits-gt-MAX_DIGITS+then-digits-ne0 w ↦ inr (inr (omega arith))
    ])

pub returns : goal.returns
returns c =
    c.hex_sector.ensures ∙ (ap (λ digits. option_map sector_of (hex_bytes digits)) c.as_bytes-digits.ensures.value
    ∙ value_taken c.args.word.now c.if-eq.ensures (omega arith) (omega arith))
