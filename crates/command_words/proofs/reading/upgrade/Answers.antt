use Rattle.std.proofs.Common.{drop, map, Global}
use Rattle.std.specs.String.{string_bytes}
use Rattle.command_words.specs.Grammar.{upgrade_app}
use Rattle.command_words.specs.InRows.{upgrade_in}
use Rattle.command_words.proofs.ClapWords.{upgrade_is, upgrade_reads}
use Rattle.command_words.proofs.Saying.{says_some, says_none, says_end}
use Rattle.command_words.proofs.reading.upgrade.Goals as goal

pub returns-in-Some-clause-value : goal.returns-in-Some-clause-value
returns-in-Some-clause-value c =
    let found = c.in-Ok.ensures (upgrade_app c.args.word.now) (upgrade_is c.args.word.now) c.upgrade.ensures in
    let reads = upgrade_reads c.args.word.now (drop 1 (map (string_bytes {Z = Global}) c.args.words.now)) c.requires.plain in
    says_some _ _ _ upgrade_in _ c.read_upgrade.result c.in-Some.command reads found c.read_upgrade.ensures.value c.in-Some.is

pub returns-in-Ok-clause-value : goal.returns-in-Ok-clause-value
returns-in-Ok-clause-value c =
    let found = c.in-Ok.ensures (upgrade_app c.args.word.now) (upgrade_is c.args.word.now) c.upgrade.ensures in
    let reads = upgrade_reads c.args.word.now (drop 1 (map (string_bytes {Z = Global}) c.args.words.now)) c.requires.plain in
    says_none _ _ _ upgrade_in _ c.read_upgrade.result reads found c.read_upgrade.ensures.value c.in-None.is

pub returns-clause-value : goal.returns-clause-value
returns-clause-value c =
    let found = c.in-Err.ensures (upgrade_app c.args.word.now) (upgrade_is c.args.word.now) c.upgrade.ensures in
    let reads = upgrade_reads c.args.word.now (drop 1 (map (string_bytes {Z = Global}) c.args.words.now)) c.requires.plain in
    says_end (upgrade_app c.args.word.now) (map (string_bytes {Z = Global}) c.args.words.now) _ _ c.in-Err.end reads found
