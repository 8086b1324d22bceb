-- Lists of entries, each of which names a number, and lists of numbers.
use Rattle.std.specs.Prelude.{◌≡◌, ℕ, zero, suc, ◌+◌, ◌<◌, ◌==◌, if◌then◌else◌, nat_lt, List, [], ◌∷◌, ◌++◌, length, filter}

module _ {I : Type 0} where
  -- the list begins with what was seen
  abbrev pub BeginsWith : List I → List I → Type 0
  BeginsWith xs seen = (rest : List I) × (xs ≡ seen ++ rest)

  -- the longer of two beginnings of one list
  abbrev pub longer : List I → List I → List I
  longer xs ys = if nat_lt (length xs) (length ys) then ys else xs

  -- the entries that name the number n, in their order
  abbrev pub own : (I → ℕ) → ℕ → List I → List I
  own number n xs = filter (λ x. number x == n) xs

  -- the list has one entry more, which names the number n
  abbrev pub Adds : (I → ℕ) → ℕ → List I → List I → Type 0
  Adds number n old new = (x : I) × (number x ≡ n) × (new ≡ old ++ x ∷ [])

-- how often n is among the numbers
abbrev pub times : ℕ → List ℕ → ℕ
times n [] = 0
times n (m ∷ ms) = (if m == n then 1 else 0) + times n ms

-- one of the numbers
abbrev pub Has : List ℕ → ℕ → Type 0
Has numbers n = 0 < times n numbers

-- count numbers from the first on
abbrev pub from : ℕ → ℕ → List ℕ
from first zero = []
from first (suc count) = first ∷ from (suc first) count

-- the first of the numbers
abbrev pub first_of : List ℕ → ℕ
first_of [] = 0
first_of (n ∷ ns) = n

abbrev pub last_of : List ℕ → ℕ
last_of [] = 0
last_of (n ∷ []) = n
last_of (n ∷ m ∷ ms) = last_of (m ∷ ms)

abbrev pub all_but_last : List ℕ → List ℕ
all_but_last [] = []
all_but_last (n ∷ []) = []
all_but_last (n ∷ m ∷ ms) = n ∷ all_but_last (m ∷ ms)
