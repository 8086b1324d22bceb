use Rattle.std.proofs.Common.{◌≡◌, ◌*◌, take, drop}
use Rattle.script_text.specs.Numbers.{hex_bytes}
use Rattle.script_text.proofs.HexLaws.{onto_front}
use Rattle.script_text.proofs.numbers.put_hex.Given as goal

abbrev pub invariant-loop-i : goal.invariant-loop-i
invariant-loop-i l = record {
  read : hex_bytes l.digits ≡ onto_front (take l.i l.bytes) (hex_bytes (drop (2 * l.i) l.digits));
  rest : drop l.i l.bytes ≡ drop l.i l.fn.bytes;
}
