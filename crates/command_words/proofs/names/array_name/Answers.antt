use Rattle.std.proofs.Common.{sym}
use Rattle.command_words.proofs.NameLaws.{word_is}
use Rattle.command_words.proofs.names.array_name.Goals as goal

pub returns-clause-valid : goal.returns-clause-valid
returns-clause-valid c = word_is c.args.word.now (sym c.if-not-is_name_word.ensures)
