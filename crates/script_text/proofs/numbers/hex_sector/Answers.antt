use Rattle.std.proofs.Common.{◌/◌, drop, length, sym, ap, ◌∙◌, arith}
use Rattle.std.specs.Option.{option_map}
use Rattle.mdc_types.specs.declared.numbers.Sector.{Sector}
use Rattle.script_text.specs.Numbers.{sector_of}
use Rattle.script_text.proofs.HexLaws.{sector_from}
use Rattle.script_text.proofs.numbers.hex_sector.Goals as goal

pub returns : goal.returns
returns c =
    let n = length c.args.digits.now / 2 in
    sector_from n c.put_hex.new.bytes (omega arith) (c.in_ok-put_hex.ensures.rest ∙ ap (λ (s : Sector). drop n s.bytes) c.zero_sector-sector.ensures)
    ∙ sym (ap (option_map sector_of) c.in_ok-put_hex.ensures.value)
