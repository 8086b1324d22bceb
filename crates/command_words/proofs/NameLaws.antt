-- A word that is a name of an array is one in superblocks too.
use Rattle.std.proofs.Common.{◌≡◌, ℕ, zero, suc, ◌+◌, ◌-◌, ◌≤◌, nat_le, nat_lt, Bool, true, false, not, ◌&&◌, List, [], ◌∷◌, ◌++◌, length, replicate, drop, refl, ap, sym, subst, ◌∙◌, arith}
use Rattle.std.proofs.lemmas.Bool.Decides.{nat_tests}
use Rattle.std.proofs.lemmas.List.{length-append, length-replicate}
use Rattle.std.specs.List.{list_all, position_or_len}
use Rattle.mdc_types.specs.Names.{is_name_byte, name_length, is_zero, is_name}
use Rattle.command_words.specs.Names.{is_name_word, IsArrayName}

both : (a b : Bool) → (a && b) ≡ true → (a ≡ true) × (b ≡ true)
both true b is = (refl, is)
both false b is = cc

-- the first other byte of a name and zeros after it
first_other : (name zeros : List ℕ) → list_all is_name_byte name ≡ true → position_or_len (λ b. not (is_name_byte b)) (name ++ 0 ∷ zeros) ≡ length name
first_other [] zeros all = refl
first_other (b ∷ name) zeros all =
    let h = both (is_name_byte b) (list_all is_name_byte name) all in
    let e : is_name_byte b ≡ true = h.0 in
    let more : 1 + length name ≡ suc (length name) = omega arith in
    rw e (ap (λ n. 1 + n) (first_other name zeros h.1) ∙ more)

all_zero : (n : ℕ) → is_zero (replicate n 0) ≡ true
all_zero zero = refl
all_zero (suc n) = all_zero n

drop_front : (xs ys : List ℕ) → drop (length xs) (xs ++ ys) ≡ ys
drop_front [] ys = refl
drop_front (x ∷ xs) ys = drop_front xs ys

length_is : (name : List ℕ) (n : ℕ) → list_all is_name_byte name ≡ true → name_length (name ++ replicate (suc n) 0) ≡ length name
unfolding name_length
length_is name n all =
    let e : position_or_len (λ b. not (is_name_byte b)) (name ++ replicate (suc n) 0) ≡ length name = first_other name (replicate n 0) all in
    let size = length-append name (replicate (suc n) 0) in
    let more = length-replicate {A = ℕ} (suc n) 0 in
    let t : nat_lt (length name) (length (name ++ replicate (suc n) 0)) ≡ true = grind (arith, nat_tests, size, more) in
    rw (e, t) refl

field_is : (name : List ℕ) (n : ℕ) → 1 ≤ length name → length name ≤ 31 → list_all is_name_byte name ≡ true → is_name (name ++ replicate (suc n) 0) ≡ true
field_is name n some few all =
    let size = length_is name n all in
    let low : nat_le 1 (length name) ≡ true = grind (arith, nat_tests) in
    let high : nat_le (length name) 31 ≡ true = grind (arith, nat_tests) in
    let rest : drop (length name) (name ++ replicate (suc n) 0) ≡ replicate (suc n) 0 = drop_front name (replicate (suc n) 0) in
    rw (size, low, high, rest, all_zero (suc n)) refl

pub word_is : (word : List ℕ) → is_name_word word ≡ true → IsArrayName word
word_is word is =
    let h = both (nat_le 1 (length word) && nat_le (length word) 31) (list_all is_name_byte word) is in
    let size = both (nat_le 1 (length word)) (nat_le (length word) 31) h.0 in
    let some : 1 ≤ length word = grind (arith, nat_tests, size.0) in
    let few : length word ≤ 31 = grind (arith, nat_tests, size.1) in
    let left : 32 - length word ≡ suc (31 - length word) = omega arith in
    record {
      some = some;
      few = few;
      bytes = h.1;
      field = subst (λ n. is_name (word ++ replicate n 0) ≡ true) (sym left) (field_is word (31 - length word) some few h.1);
    }
