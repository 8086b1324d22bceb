-- The commands, as a function of the program's words.
use Rattle.std.specs.Prelude.{◌≡◌, ◌≢◌, ℕ, Bool, true, false, not, if◌then◌else◌, List, [], ◌∷◌, codes, Option, Some, None, Result, Ok, Err, ok_or}
use Rattle.std.specs.Str.{bytes_eq}
use Rattle.mdc_types.specs.Geometry.{Sizes}
use Rattle.script_text.specs.Steps.{◌>>=◌, guarded}
use Rattle.command_words.specs.declared.command.Command.{Command}
use Rattle.command_words.specs.declared.command.Command.TheVariants as commands
use Rattle.command_words.specs.declared.command.WordsEnd.{WordsEnd}
use Rattle.command_words.specs.declared.command.WordsEnd.TheVariants.{Usage, Memory}
use Rattle.command_words.specs.Words.{one, two}
use Rattle.command_words.specs.Names.{name_of, IsArrayName}
use Rattle.command_words.specs.Arrays.{uuid_of, sizes_of}

-- A command, with the bytes of its names.
pub data CommandValue : Type 0 where
  Create : List ℕ → Sizes → List ℕ → CommandValue
  Show : List ℕ → CommandValue
  Play : CommandValue
  PlayImages : List ℕ → CommandValue
  Upgrade : List ℕ → List ℕ → CommandValue
  Locks : CommandValue
  Wire : CommandValue

-- The words after the first.

-- there are none
abbrev pub alone_of : CommandValue → List (List ℕ) → Option CommandValue
alone_of command [] = Some command
alone_of command args = None

abbrev pub locks_of : List (List ℕ) → Option CommandValue
locks_of args = alone_of Locks args

abbrev pub wire_of : List (List ℕ) → Option CommandValue
wire_of args = alone_of Wire args

-- `NAME LEGS SECTORS ROOM CHUNK UUID`
abbrev pub created_of : Bool → List ℕ → List ℕ → List ℕ → List ℕ → List ℕ → List ℕ → Option CommandValue
created_of second name legs sectors room chunk uuid = do
  n ← name_of name
  sizes ← sizes_of second legs sectors room chunk
  u ← uuid_of uuid
  Some (Create n sizes u)

-- `NAME LEGS SECTORS CHUNK UUID`, and ROOM, which is SECTORS where it is left out
abbrev pub create_of : Bool → List (List ℕ) → Option CommandValue
create_of second (name ∷ legs ∷ sectors ∷ chunk ∷ uuid ∷ []) = created_of second name legs sectors sectors chunk uuid
create_of second (name ∷ legs ∷ sectors ∷ chunk ∷ uuid ∷ room ∷ []) = created_of second name legs sectors room chunk uuid
create_of second args = None

-- `NAME`
abbrev pub show_of : List (List ℕ) → Option CommandValue
show_of args = do
  word ← one args
  name ← name_of word
  Some (Show name)

-- nothing, or `NAME`
abbrev pub play_of : List (List ℕ) → Option CommandValue
play_of [] = Some Play
play_of (word ∷ args) = do
  w ← one (word ∷ args)
  name ← name_of w
  Some (PlayImages name)

-- `NAME TO`, which differ
abbrev pub upgrade_of : List (List ℕ) → Option CommandValue
upgrade_of args = do
  words ← two args
  name ← name_of words.0
  to ← name_of words.1
  guarded (not (bytes_eq name to)) (Upgrade name to)

-- the command of this first word and the words after it
abbrev pub command_with : List ℕ → List (List ℕ) → Option CommandValue
command_with word args =
    if bytes_eq word (codes "create") then create_of false args
    else if bytes_eq word (codes "create2") then create_of true args
    else if bytes_eq word (codes "show") then show_of args
    else if bytes_eq word (codes "play") then play_of args
    else if bytes_eq word (codes "upgrade") then upgrade_of args
    else if bytes_eq word (codes "locks") then locks_of args
    else if bytes_eq word (codes "wire") then wire_of args
    else None

abbrev pub command_in : List (List ℕ) → Option CommandValue
command_in [] = None
command_in (word ∷ args) = command_with word args

-- the command of the words, and `Usage` where they are none
abbrev pub command_of : List (List ℕ) → Result CommandValue WordsEnd
command_of words = ok_or (command_in words) Usage

-- what a command says
abbrev pub value_of : Command → CommandValue
value_of (commands.Create name geometry uuid) = Create name.now geometry uuid
value_of (commands.Show name) = Show name.now
value_of commands.Play = Play
value_of (commands.PlayImages name) = PlayImages name.now
value_of (commands.Upgrade name to) = Upgrade name.now to.now
value_of commands.Locks = Locks
value_of commands.Wire = Wire

abbrev pub answer_of : Result Command WordsEnd → Result CommandValue WordsEnd
answer_of (Err end) = Err end
answer_of (Ok command) = Ok (value_of command)

-- The command was read: it says what is wanted, unless memory was wanting.
abbrev pub SaysAs : Result CommandValue WordsEnd → Result Command WordsEnd → Type 0
SaysAs wanted (Err Memory) = Unit {0}
SaysAs wanted (Err Usage) = answer_of (Err Usage) ≡ wanted
SaysAs wanted (Ok command) = answer_of (Ok command) ≡ wanted

-- the words were read
abbrev pub IsRead : List (List ℕ) → Result Command WordsEnd → Type 0
IsRead words = SaysAs (command_of words)

-- each name of the command is a name of an array, and two of them differ
abbrev pub HasNames : Command → Type 0
HasNames (commands.Create name geometry uuid) = IsArrayName name.now
HasNames (commands.Show name) = IsArrayName name.now
HasNames commands.Play = Unit {0}
HasNames (commands.PlayImages name) = IsArrayName name.now
HasNames (commands.Upgrade name to) =
    IsArrayName name.now × IsArrayName to.now × (name.now ≢ to.now)
HasNames commands.Locks = Unit {0}
HasNames commands.Wire = Unit {0}
