-- The lines of commands on images, and what is printed of them.
use Rattle.std.specs.Prelude.{ℕ, zero, suc, ◌+◌, List, [], ◌∷◌, ◌++◌, codes, decimal}
use Rattle.image_faults.specs.declared.faults.ImageFault.{ImageFault}
use Rattle.image_texts.specs.Faults.{fault_words}

-- the name of leg l's file: that of the array, a dot, and the leg
abbrev pub leg_file : List ℕ → ℕ → List ℕ
leg_file name l = name ++ 46 ∷ (48 + l) ∷ []

-- the image of leg l was made
abbrev pub created_line : List ℕ → ℕ → List ℕ
created_line name l = codes "created " ++ leg_file name l

-- the image of leg l was made of one of version 1
abbrev pub upgraded_line : List ℕ → ℕ → List ℕ
upgraded_line name l = codes "upgraded " ++ leg_file name l

-- the image of leg l has this fault
abbrev pub image_line : ℕ → ImageFault → List ℕ
image_line l fault = codes "image " ++ decimal l ++ codes " " ++ fault_words fault

-- the shelf failed in a call on leg l's file, or the leg that it handed out
abbrev pub shelf_line : List ℕ → ℕ → List ℕ
shelf_line name l = codes "shelf " ++ leg_file name l

-- a line with its line feed
abbrev pub printed : List ℕ → List ℕ
printed text = text ++ 10 ∷ []

-- the lines of the numbers below n, each with its line feed
abbrev pub lines_to : (ℕ → List ℕ) → ℕ → List ℕ
lines_to line zero = []
lines_to line (suc n) = lines_to line n ++ printed (line n)

-- a line for each of so many legs
abbrev pub created_text : List ℕ → ℕ → List ℕ
created_text name legs = lines_to (created_line name) legs

abbrev pub upgraded_text : List ℕ → ℕ → List ℕ
upgraded_text name legs = lines_to (upgraded_line name) legs

abbrev pub image_text : ℕ → ImageFault → List ℕ
image_text l fault = printed (image_line l fault)

abbrev pub shelf_text : List ℕ → ℕ → List ℕ
shelf_text name l = printed (shelf_line name l)
