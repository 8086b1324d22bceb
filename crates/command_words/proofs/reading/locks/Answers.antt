use Rattle.std.proofs.Common.{ap, sym, subst, drop, map, ok_or, Some, Global}
use Rattle.std.specs.String.{string_bytes}
use Rattle.command_words.specs.declared.command.WordsEnd.TheVariants.{Usage}
use Rattle.command_words.specs.Commands.{alone_of, SaysAs}
use Rattle.command_words.specs.Commands.CommandValue.{Locks}
use Rattle.command_words.specs.Grammar.{alone_app}
use Rattle.command_words.proofs.ClapWords.{alone_is, alone_reads}
use Rattle.command_words.proofs.Saying.{says_end}
use Rattle.command_words.proofs.reading.locks.Goals as goal
use Rattle.command_words.proofs.reading.locks.Goals.{in-Ok, in-Err}

pub returns-clause-value : goal.returns-clause-value
returns-clause-value c =
    let words = map (string_bytes {Z = Global}) c.args.words.now in
    let app = alone_app c.args.word.now in
    let simple = alone_is c.args.word.now in
    let reads = alone_reads Locks c.args.word.now (drop 1 words) c.requires.plain in
    let wanted = ok_or (alone_of Locks (drop 1 words)) Usage in
    elim c.match-found.branch [
      | in-Ok w ↦
          let found = w.in-Ok.ensures app simple c.alone.ensures in
          subst (SaysAs wanted) (sym w.result-is) (ap (λ o. ok_or o Usage) (reads.0 found.0))
      | in-Err w ↦
          let found = w.in-Err.ensures app simple c.alone.ensures in
          subst (SaysAs wanted) (sym w.result-is) (says_end app words (Some Locks) (alone_of Locks (drop 1 words)) w.in-Err.end reads found)
    ]
