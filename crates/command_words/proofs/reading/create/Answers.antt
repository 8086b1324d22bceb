use Rattle.std.proofs.Common.{drop, map, Global}
use Rattle.std.specs.String.{string_bytes}
use Rattle.command_words.specs.Grammar.{create_app}
use Rattle.command_words.specs.InRows.{create_in}
use Rattle.command_words.proofs.ClapWords.{create_is, create_reads}
use Rattle.command_words.proofs.Saying.{says_some, says_none, says_end}
use Rattle.command_words.proofs.reading.create.Goals as goal

pub returns-in-Some-clause-value : goal.returns-in-Some-clause-value
returns-in-Some-clause-value c =
    let found = c.in-Ok.ensures (create_app c.args.word.now) (create_is c.args.word.now) c.create.ensures in
    let reads = create_reads c.args.second c.args.word.now (drop 1 (map (string_bytes {Z = Global}) c.args.words.now)) c.requires.plain in
    says_some _ _ _ (create_in c.args.second) _ c.read_create.result c.in-Some.command reads found c.read_create.ensures.value c.in-Some.is

pub returns-in-Ok-clause-value : goal.returns-in-Ok-clause-value
returns-in-Ok-clause-value c =
    let found = c.in-Ok.ensures (create_app c.args.word.now) (create_is c.args.word.now) c.create.ensures in
    let reads = create_reads c.args.second c.args.word.now (drop 1 (map (string_bytes {Z = Global}) c.args.words.now)) c.requires.plain in
    says_none _ _ _ (create_in c.args.second) _ c.read_create.result reads found c.read_create.ensures.value c.in-None.is

pub returns-clause-value : goal.returns-clause-value
returns-clause-value c =
    let found = c.in-Err.ensures (create_app c.args.word.now) (create_is c.args.word.now) c.create.ensures in
    let reads = create_reads c.args.second c.args.word.now (drop 1 (map (string_bytes {Z = Global}) c.args.words.now)) c.requires.plain in
    says_end (create_app c.args.word.now) (map (string_bytes {Z = Global}) c.args.words.now) _ _ c.in-Err.end reads found
