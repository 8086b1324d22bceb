-- The commands, as a function of the words that are found for their arguments.
use Rattle.std.specs.Prelude.{ℕ, Bool, not, List, [], codes, Option, Some, None, unwrap_or}
use Rattle.std.specs.Str.{bytes_eq}
use Rattle.clap.specs.Walk.{Row, first_of}
use Rattle.script_text.specs.Steps.{◌>>=◌, guarded}
use Rattle.command_words.specs.Commands.{CommandValue, created_of}
use Rattle.command_words.specs.Commands.CommandValue.{Show, Play, PlayImages, Upgrade}
use Rattle.command_words.specs.Names.{name_of}

abbrev pub word_or : List Row → List ℕ → List ℕ → List ℕ
word_or rows id other = unwrap_or (first_of id rows) other

abbrev pub create_in : Bool → List Row → Option CommandValue
create_in second rows =
    created_of second (word_or rows (codes "NAME") []) (word_or rows (codes "LEGS") [])
    (word_or rows (codes "SECTORS") [])
    (word_or rows (codes "ROOM") (word_or rows (codes "SECTORS") []))
    (word_or rows (codes "CHUNK") []) (word_or rows (codes "UUID") [])

abbrev pub shown : List ℕ → Option CommandValue
shown word = name_of word >>= λ name. Some (Show name)

abbrev pub show_in : List Row → Option CommandValue
show_in rows = shown (word_or rows (codes "NAME") [])

abbrev pub played : Option (List ℕ) → Option CommandValue
played None = Some Play
played (Some word) = name_of word >>= λ name. Some (PlayImages name)

abbrev pub play_in : List Row → Option CommandValue
play_in rows = played (first_of (codes "NAME") rows)

abbrev pub upgraded : List ℕ → List ℕ → Option CommandValue
upgraded word other = do
  name ← name_of word
  to ← name_of other
  guarded (not (bytes_eq name to)) (Upgrade name to)

abbrev pub upgrade_in : List Row → Option CommandValue
upgrade_in rows = upgraded (word_or rows (codes "NAME") []) (word_or rows (codes "TO") [])
