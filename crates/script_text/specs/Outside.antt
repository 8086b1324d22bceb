-- What the objects of the outside give and take, where they tell it.
use Rattle.std.specs.Prelude.{◌≡◌, ℕ, ◌<◌, List, [], ◌++◌, length, take, Option, Some, None}
use Rattle.script_text.specs.Lines.{input_part}

-- what was left before these bytes were given
abbrev pub with_front : List ℕ → Option (List ℕ) → Option (List ℕ)
with_front given None = None
with_front given (Some left) = Some (given ++ left)

-- what is written when these bytes are written too
abbrev pub with_back : Option (List ℕ) → List ℕ → Option (List ℕ)
with_back None bytes = None
with_back (Some written) bytes = Some (written ++ bytes)

-- nothing is left
abbrev pub IsAtEnd : Option (List ℕ) → Type 0
IsAtEnd None = Unit {0}
IsAtEnd (Some left) = left ≡ []

-- some of the bytes were written, from the first on, and not all
abbrev pub WroteFront : Option (List ℕ) → List ℕ → Option (List ℕ) → Type 0
WroteFront old bytes new = (n : ℕ) × (n < length bytes) × (new ≡ with_back old (take n bytes))

-- nothing was taken that stands after the script
abbrev pub TookOfPart : Option (List ℕ) → Option (List ℕ) → Type 0
TookOfPart None new = new ≡ None
TookOfPart (Some left) new = (n : ℕ) × (Some left ≡ with_front (take n (input_part left)) new)

-- a front of the text was written since, and these bytes of it wait
pub record IsDue (before : Option (List ℕ)) (text waiting : List ℕ) (now : Option (List ℕ)) : Type 0 where
  pub front : List ℕ
  pub text_is : text ≡ front ++ waiting
  pub written : now ≡ with_back before front
