-- Lines and words of bytes.
use Rattle.std.specs.Prelude.{ℕ, ◌+◌, ◌==◌, List, [], ◌∷◌, ◌++◌, take, if◌then◌else◌, codes, Option, Some, None}
use Rattle.std.specs.List.{onto_first, slice_split, before_first, concat}
use Rattle.std.specs.Str.{bytes_eq}

-- the lines, each with its line feed, byte 10, which the last may lack
abbrev pub lines_of : List ℕ → List (List ℕ)
lines_of [] = []
lines_of (b ∷ bytes) = if b == 10 then (b ∷ []) ∷ lines_of bytes else onto_first b (lines_of bytes)

-- a line without its line feed
abbrev pub text_of : List ℕ → List ℕ
text_of line = before_first (λ b. b == 10) line

-- the words, each parted from the next by one space, byte 32
abbrev pub words_of : List ℕ → List (List ℕ)
words_of text = slice_split (λ b. b == 32) text

-- the words after the first, where a space follows it
abbrev pub words_after : Option (List ℕ) → List (List ℕ)
words_after None = []
words_after (Some text) = words_of text

-- a word by its place, if it is there

abbrev pub first : List (List ℕ) → Option (List ℕ)
first (a ∷ words) = Some a
first words = None

abbrev pub second : List (List ℕ) → Option (List ℕ)
second (a ∷ b ∷ words) = Some b
second words = None

abbrev pub third : List (List ℕ) → Option (List ℕ)
third (a ∷ b ∷ c ∷ words) = Some c
third words = None

-- just so many words
abbrev pub one : List (List ℕ) → Option (List ℕ)
one (a ∷ []) = Some a
one words = None

abbrev pub two : List (List ℕ) → Option (List ℕ × List ℕ)
two (a ∷ b ∷ []) = Some (a, b)
two words = None

abbrev pub three : List (List ℕ) → Option (List ℕ × List ℕ × List ℕ)
three (a ∷ b ∷ c ∷ []) = Some (a, b, c)
three words = None

abbrev pub four : List (List ℕ) → Option (List ℕ × List ℕ × List ℕ × List ℕ)
four (a ∷ b ∷ c ∷ d ∷ []) = Some (a, b, c, d)
four words = None

-- the lines up to the first that is `end` and a line feed
abbrev pub through_end : List (List ℕ) → List (List ℕ)
through_end [] = []
through_end (line ∷ lines) = if bytes_eq line (codes "end" ++ 10 ∷ []) then line ∷ [] else line ∷ through_end lines

-- the bytes of those lines
abbrev pub up_to_end : List ℕ → List ℕ
up_to_end bytes = concat (through_end (lines_of bytes))

-- the most bytes that a script holds
abbrev pub script_limit : ℕ
script_limit = 16777216

-- what is taken as a script: up to the line feed of the first line `end`, and at most one byte over the limit
abbrev pub input_part : List ℕ → List ℕ
input_part bytes = take (script_limit + 1) (up_to_end bytes)
