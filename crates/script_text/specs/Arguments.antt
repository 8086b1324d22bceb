-- What follows the first word of a line: `Err` tells what is wrong with it.
use Rattle.std.specs.Prelude.{ℕ, Bool, true, is_some, if◌then◌else◌, List, [], ◌∷◌, codes, Option, Some, None, Result, Ok, Err, ok_or}
use Rattle.std.specs.Str.{bytes_eq}
use Rattle.dlm_modes.specs.declared.mode.Mode.{Mode}
use Rattle.dlm_modes.specs.declared.mode.Mode.TheVariants as modes
use Rattle.mdc_types.specs.Resources.{word_of}
use Rattle.mdc_types.specs.declared.numbers.Sector.{Sector}
use Rattle.mdc_types.specs.declared.resources.Res.{Res}
use Rattle.mdc_types.specs.declared.resources.Res.TheVariants as resources
use Rattle.script_text.specs.declared.faults.FaultKind.{FaultKind}
use Rattle.script_text.specs.declared.faults.FaultKind.TheVariants.{Word, Count, Number, Value}
use Rattle.script_text.specs.Judging.{◌>>=◌}
use Rattle.script_text.specs.Lines.{one, two, three, first}
use Rattle.script_text.specs.Numbers.{number_of, byte_of, value_of}

-- Words that are numbers and values.

abbrev pub number_word : List ℕ → Result ℕ FaultKind
number_word word = ok_or (number_of word) Number

abbrev pub byte_word : List ℕ → Result ℕ FaultKind
byte_word word = ok_or (byte_of word) Number

abbrev pub value_word : List ℕ → Result Sector FaultKind
value_word word = ok_or (value_of word) Value

-- The words of resources and modes.

-- by number
abbrev pub all_resources : List Res
all_resources =
    resources.Bitmap 0 ∷ resources.Bitmap 1 ∷ resources.Bitmap 2 ∷ resources.Bitmap 3 ∷ resources.Bitmap 4 ∷ resources.Bitmap 5 ∷ resources.Bitmap 6 ∷ resources.Bitmap 7
    ∷ resources.Bitmap 8 ∷ resources.Bitmap 9 ∷ resources.Bitmap 10 ∷ resources.Bitmap 11 ∷ resources.Bitmap 12 ∷ resources.Bitmap 13 ∷ resources.Bitmap 14 ∷ resources.Bitmap 15
    ∷ resources.Token ∷ resources.Message ∷ resources.Ack ∷ resources.NoNewDev ∷ resources.Resync ∷ []

-- the one of these whose word it is
abbrev pub res_among : List Res → List ℕ → Option Res
res_among [] word = None
res_among (res ∷ others) word = if bytes_eq word (word_of res) then Some res else res_among others word

abbrev pub res_of : List ℕ → Option Res
res_of word = res_among all_resources word

abbrev pub mode_of : List ℕ → Option Mode
mode_of word =
    if bytes_eq word (codes "NL") then Some modes.NL
    else if bytes_eq word (codes "CR") then Some modes.CR
    else if bytes_eq word (codes "CW") then Some modes.CW
    else if bytes_eq word (codes "PR") then Some modes.PR
    else if bytes_eq word (codes "PW") then Some modes.PW
    else if bytes_eq word (codes "EX") then Some modes.EX
    else None

abbrev pub res_word : List ℕ → Result Res FaultKind
res_word word = ok_or (res_of word) Word

abbrev pub mode_word : List ℕ → Result Mode FaultKind
mode_word word = ok_or (mode_of word) Word

-- A word that is there and names no resource, or no mode, is told before the words are counted.

abbrev pub fits_res : Option (List ℕ) → Bool
fits_res None = true
fits_res (Some word) = is_some (res_of word)

abbrev pub fits_mode : Option (List ℕ) → Bool
fits_mode None = true
fits_mode (Some word) = is_some (mode_of word)

abbrev pub fitting : Bool → Result (Unit {0}) FaultKind
fitting fits = if fits then Ok tt else Err Word

-- What follows, by its form. N is a node, L a leg, K a number of 32 bits.

-- nothing does
abbrev pub alone : {A : Type 0} → A → List (List ℕ) → Result A FaultKind
alone x [] = Ok x
alone x (arg ∷ args) = Err Count

-- `N`
abbrev pub one_byte : List (List ℕ) → Result ℕ FaultKind
one_byte args = do
  word ← ok_or (one args) Count
  byte_word word

-- `K`
abbrev pub one_number : List (List ℕ) → Result ℕ FaultKind
one_number args = do
  word ← ok_or (one args) Count
  number_word word

-- `N L`
abbrev pub two_bytes : List (List ℕ) → Result (ℕ × ℕ) FaultKind
two_bytes args = do
  words ← ok_or (two args) Count
  a ← byte_word words.0
  b ← byte_word words.1
  Ok (a, b)

-- `N K`
abbrev pub byte_number : List (List ℕ) → Result (ℕ × ℕ) FaultKind
byte_number args = do
  words ← ok_or (two args) Count
  a ← byte_word words.0
  b ← number_word words.1
  Ok (a, b)

-- `K K`
abbrev pub two_numbers : List (List ℕ) → Result (ℕ × ℕ) FaultKind
two_numbers args = do
  words ← ok_or (two args) Count
  a ← number_word words.0
  b ← number_word words.1
  Ok (a, b)

-- `N K L`
abbrev pub byte_number_byte : List (List ℕ) → Result (ℕ × ℕ × ℕ) FaultKind
byte_number_byte args = do
  words ← ok_or (three args) Count
  a ← byte_word words.0
  b ← number_word words.1
  c ← byte_word words.2
  Ok (a, b, c)

-- `RES`
abbrev pub one_res : List (List ℕ) → Result Res FaultKind
one_res args = do
  fits ← fitting (fits_res (first args))
  word ← ok_or (one args) Count
  res_word word
