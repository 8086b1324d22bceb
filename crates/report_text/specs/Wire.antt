-- The texts of what a lock space that is spread over nodes replies to a line of a wire script.
use Rattle.std.specs.Prelude.{ℕ, List, [], ◌∷◌, codes, decimal, Option, Some, None}
use Rattle.dlm_modes.specs.declared.mode.Mode.{Mode}
use Rattle.lock_wire.specs.declared.packet.Taken.{Taken}
use Rattle.lock_wire.specs.declared.packet.Taken.TheVariants as kinds
use Rattle.report_text.specs.declared.wire.WireReply.{WireReply}
use Rattle.report_text.specs.declared.wire.WireReply.TheVariants.{Asked, Converted, Released, Took}
use Rattle.report_text.specs.declared.wire.WireReply.TheVariants.{Granted, Died, Holds, Refused, Denied}
use Rattle.report_text.specs.Lines.{line}
use Rattle.report_text.specs.Locks.{lock_refusal_values}
use Rattle.report_text.specs.Refusals.{refusal_line}
use Rattle.report_text.specs.Words.{mode_word}

abbrev pub taken_word : Taken → List ℕ
taken_word kinds.Ask = codes "ask"
taken_word kinds.Convert = codes "convert"
taken_word kinds.Release = codes "release"
taken_word kinds.Granted = codes "granted"
taken_word kinds.Called = codes "called"
taken_word kinds.Report = codes "report"

-- the mode that is held, or a dash
abbrev pub held_word : Option Mode → List ℕ
held_word None = codes "-"
held_word (Some mode) = mode_word mode

abbrev pub wire_reply_line : WireReply → List ℕ
wire_reply_line Asked = codes "asked"
wire_reply_line Converted = codes "converted"
wire_reply_line Released = codes "released"
wire_reply_line (Took kind) = line (codes "took") (taken_word kind ∷ [])
wire_reply_line (Granted node mode) = line (codes "granted") (decimal node ∷ mode_word mode ∷ [])
wire_reply_line Died = codes "done"
wire_reply_line (Holds node held) = line (codes "holds") (decimal node ∷ held_word held ∷ [])
wire_reply_line (Refused why) = line (codes "refused") (refusal_line why ∷ [])
wire_reply_line (Denied why) = line (codes "refused") (lock_refusal_values why)
