use Rattle.std.proofs.Common.{sym, ◌∙◌}
use Rattle.script_text.proofs.LinesLaws.{split_found, split_whole}
use Rattle.script_text.proofs.lines.split_line.Goals as goal

pub returns-in-Some : goal.returns-in-Some
returns-in-Some c = split_found c.args.bytes.now c.in-Some.at (sym c.line_feed.ensures ∙ c.in-Some.is)

pub returns-in-None : goal.returns-in-None
returns-in-None c = split_whole c.args.bytes.now c.requires (sym c.line_feed.ensures ∙ c.in-None.is)
