use Rattle.std.proofs.Common.{sym}
use Rattle.script_text.proofs.ReadingLaws.{some_more}
use Rattle.script_text.proofs.arguments.alone.Goals as goal

pub returns-then-is_some : goal.returns-then-is_some
returns-then-is_some g c = sym (some_more c.args.args c.args.x c.if-is_some.ensures)
