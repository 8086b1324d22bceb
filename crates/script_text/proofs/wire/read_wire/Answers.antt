use Rattle.std.proofs.Common.{◌≡◌, Ok, ap, sym, ◌∙◌}
use Rattle.std.specs.Result.{result_ok}
use Rattle.script_text.specs.Wire.{WireValue, wire_line_of, with_nodes, wire_judged}
use Rattle.script_text.specs.Places.{lines_at}
use Rattle.script_text.proofs.WireLaws.{wire_is}
use Rattle.script_text.proofs.wire.read_wire.Goals as goal

abbrev read : goal.After-drop-places → WireValue
read c = record { nodes = c.in_ok-nodes.nodes; lines = c.in-Ok.lines.items }

judged : (c : goal.After-drop-places) → wire_judged c.args.bytes.now ≡ Ok (read c)
judged c =
    c.in_ok-nodes.ensures.found
    ∙ (ap (with_nodes c.in_ok-nodes.nodes) (c.in_ok-places.ensures.1 ∙ ap Ok (ap (lines_at wire_line_of c.args.bytes.now) (sym c.deref.ensures.value) ∙ sym c.in-Ok.ensures)))

pub returns-in-Ok : goal.returns-in-Ok
returns-in-Ok c =
    let is = wire_is c.args.bytes.now (read c) (judged c) in
    record {
      reads = ap result_ok (judged c);
      some_node = is.count.some_node;
      nodes = is.count.nodes;
      lines = is.lines;
    }
