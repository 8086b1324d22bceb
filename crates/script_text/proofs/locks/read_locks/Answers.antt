use Rattle.std.proofs.Common.{Ok, sym, ◌∙◌, ap}
use Rattle.script_text.specs.Locks.{lock_line_of}
use Rattle.script_text.specs.Places.{lines_at}
use Rattle.script_text.proofs.LockLaws.{lock_script_is}
use Rattle.script_text.proofs.locks.read_locks.Goals as goal

pub returns-in-Ok-clause-lines : goal.returns-in-Ok-clause-lines
returns-in-Ok-clause-lines c =
    lock_script_is c.args.bytes.now c.in-Ok.lines.items (c.in_ok-places.ensures.1 ∙ ap Ok (ap (lines_at lock_line_of c.args.bytes.now) (sym c.deref.ensures.value) ∙ sym c.in-Ok.ensures))
