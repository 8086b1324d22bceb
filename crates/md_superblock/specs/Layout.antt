-- Bytes, numbers and words of a sector, and the checksum.
use Rattle.std.specs.Prelude.{ℕ, zero, suc, ◌+◌, ◌*◌, ◌/◌, ◌%◌, ◌^◌, ◌==◌, nat_lt, nat_le, Bool, ◌&&◌, List, [], ◌∷◌, ◌++◌, length, take, drop, if◌then◌else◌}
use Rattle.std.specs.List.{list_any}
use Rattle.byteorder.specs.Endian.{little_from, little_bytes}

-- the number in the n bytes from byte at on, the lowest first
unfoldable pub number_at : List ℕ → ℕ → ℕ → ℕ
number_at bytes at n = little_from at n bytes

-- the n bytes of a number, the lowest first
unfoldable pub bytes_of : ℕ → ℕ → List ℕ
bytes_of n x = little_bytes n x

-- these bytes with others written from byte at on
unfoldable pub with_bytes : List ℕ → ℕ → List ℕ → List ℕ
with_bytes bytes at new = take at bytes ++ (new ++ drop (at + length new) bytes)

-- f 0 + f 1 + .. , of n numbers
unfoldable pub sum_below : (ℕ → ℕ) → ℕ → ℕ
sum_below f zero = 0
sum_below f (suc n) = sum_below f n + f n

-- word k of 32 bits, where the checksum's own, word 54, counts as 0
abbrev pub word_at : List ℕ → ℕ → ℕ
word_at bytes k = if k == 54 then 0 else number_at bytes (4 * k) 4

-- the sum of the 68 words of bytes 0 to 271
abbrev pub words_sum : List ℕ → ℕ
words_sum bytes = sum_below (word_at bytes) 68

-- the high 32 bits of that sum added to the low ones, in 32 bits
abbrev pub checksum_of : List ℕ → ℕ
checksum_of bytes = (words_sum bytes % 2 ^ 32 + words_sum bytes / 2 ^ 32) % 2 ^ 32

-- where each field begins, and its size in bytes
abbrev pub fields : List (ℕ × ℕ)
fields =
    (0, 4) ∷ (4, 4) ∷ (8, 4) ∷ (16, 16) ∷ (32, 32) ∷ (72, 4) ∷ (80, 8) ∷ (92, 4) ∷ (96, 4)
    ∷ (128, 8) ∷ (136, 8) ∷ (144, 8) ∷ (160, 4) ∷ (168, 16) ∷ (200, 8) ∷ (216, 4) ∷ (220, 4) ∷ (256, 16) ∷ []

-- whether byte i is one of the n from byte at on
abbrev pub covers : ℕ → ℕ → ℕ → Bool
covers at n i = nat_le at i && nat_lt i (at + n)

-- whether a field has byte i
unfoldable pub is_named : ℕ → Bool
is_named i = list_any (λ field. covers field.0 field.1 i) fields
