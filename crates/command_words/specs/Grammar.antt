-- What `clap` is told of the commands, and what it finds.
use Rattle.std.specs.Prelude.{◌≡◌, ℕ, ◌==◌, Bool, true, false, not, List, [], ◌∷◌, codes, Some, Result, Ok, Err}
use Rattle.clap.specs.Walk.{Rule, rows_of}
use Rattle.clap.specs.Simple.{App, new_app, new_rule, matches_of, with_rule}
use Rattle.clap.specs.Faults.{fault_of}
use Rattle.clap.specs.Matches.{found_of}
use Rattle.clap.specs.declared.builder.action.ArgAction.TheVariants.{Set}
use Rattle.clap.specs.declared.parser.matches.ArgMatches.{ArgMatches}
use Rattle.command_words.specs.declared.command.WordsEnd.{WordsEnd}
use Rattle.command_words.specs.declared.command.WordsEnd.TheVariants.{Usage, Memory}

-- the word begins with no `-` (45)
abbrev pub is_plain : List ℕ → Bool
is_plain [] = true
is_plain (b ∷ word) = not (b == 45)

-- an argument at the next place
abbrev pub place : List ℕ → Bool → Rule
place id required = record (new_rule id) { action = Some Set; required = required }

abbrev pub alone_app : List ℕ → App
alone_app word = new_app word

abbrev pub show_app : List ℕ → App
show_app word = with_rule (new_app word) (place (codes "NAME") true)

abbrev pub play_app : List ℕ → App
play_app word = with_rule (new_app word) (place (codes "NAME") false)

abbrev pub upgrade_app : List ℕ → App
upgrade_app word = with_rule (show_app word) (place (codes "TO") true)

abbrev pub create_app : List ℕ → App
create_app word =
    with_rule (with_rule (with_rule (with_rule (with_rule (show_app word)
    (place (codes "LEGS") true)) (place (codes "SECTORS") true)) (place (codes "CHUNK") true))
    (place (codes "UUID") true)) (place (codes "ROOM") false)

-- What `clap` says of the words: an `Ok` comes only where it finds no fault, `Usage` only where it
-- finds one.
abbrev pub IsFound : App → List (List ℕ) → Result ArgMatches WordsEnd → Type 0
IsFound app words (Ok found) =
    (fault_of app words ≡ []) × (rows_of (found_of found) ≡ matches_of app words)
IsFound app words (Err Usage) = fault_of app words ≡ [] → ⊥
IsFound app words (Err Memory) = Unit {0}
