use Rattle.std.proofs.Common.{◌+◌, ◌*◌, refl, sym, ◌∙◌, arith, take}
use Rattle.std.proofs.lemmas.Grind.{drop_more_same}
use Rattle.std.proofs.lemmas.List.{drop-set-lt}
use Rattle.script_text.specs.Numbers.{hex_bytes}
use Rattle.script_text.proofs.HexLaws.{onto_front-nil, hex_stops, hex_goes_on}
use Rattle.script_text.proofs.numbers.put_hex.Goals as goal

pub loop-i-init : goal.loop-i-init
loop-i-init c = record { read = sym (onto_front-nil (hex_bytes c.args.digits.now)); rest = refl }

pub returns-in_err-high-clause-value : goal.returns-in_err-high-clause-value
returns-in_err-high-clause-value c =
    rw c.from_residual.ensures
    (hex_stops (take c.loop-i.i c.loop-i.bytes) c.args.digits.now c.loop-i.i (hex_bytes c.args.digits.now) (omega arith) c.loop-i.invariant.read c.in_err-high.ensures.value)

pub loop-i-preserved : goal.loop-i-preserved
loop-i-preserved c = record {
  read = hex_goes_on c.loop-i.bytes c.args.digits.now c.loop-i.i c.in_ok-high.high c.in_ok-low.low (hex_bytes c.args.digits.now) (omega arith) (omega arith)
      c.loop-i.invariant.read c.in_ok-high.ensures.value c.in_ok-low.ensures.value;
  rest = drop-set-lt (c.loop-i.i + 1) c.loop-i.bytes c.loop-i.i (16 * c.in_ok-high.high + c.in_ok-low.low) (omega arith)
      ∙ drop_more_same c.loop-i.bytes c.args.bytes.now c.loop-i.i c.loop-i.invariant.rest;
}
