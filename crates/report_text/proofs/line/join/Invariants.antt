use Rattle.std.proofs.Common.{◌≡◌, string_bytes, take, map}
use Rattle.report_text.specs.Fields.{field_text}
use Rattle.report_text.specs.Lines.{line}
use Rattle.report_text.proofs.line.join.Given as goal

abbrev pub invariant-loop-field : goal.invariant-loop-field
invariant-loop-field l = string_bytes l.text ≡ line l.name (map field_text (take l.field-index l.fields))
