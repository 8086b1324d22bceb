-- Lock resources, their numbers and their words.
use Rattle.std.specs.Prelude.{ℕ, ◌<◌, ◌+◌, ◌/◌, ◌%◌, List, ◌++◌, ◌∷◌, [], codes}
use Rattle.mdc_types.specs.declared.resources.Res.{Res}
use Rattle.mdc_types.specs.declared.resources.Res.TheVariants.{Bitmap, Token, Message, Ack, NoNewDev, Resync}

-- a bitmap is one of sixteen
abbrev pub IsResource : Res → Type 0
IsResource (Bitmap n) = n < 16
IsResource r = Unit {0}

-- the bitmaps come first, then the others in this order
abbrev pub number_of : Res → ℕ
number_of (Bitmap n) = n
number_of Token = 16
number_of Message = 17
number_of Ack = 18
number_of NoNewDev = 19
number_of Resync = 20

-- the node in three digits
abbrev pub bitmap_word : ℕ → List ℕ
bitmap_word n = codes "bitmap0" ++ (48 + n / 10) ∷ (48 + n % 10) ∷ []

abbrev pub word_of : Res → List ℕ
word_of (Bitmap n) = bitmap_word n
word_of Token = codes "token"
word_of Message = codes "message"
word_of Ack = codes "ack"
word_of NoNewDev = codes "no-new-dev"
word_of Resync = codes "resync"
