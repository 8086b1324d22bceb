-- What `parse` reads is a number of a script.
use Rattle.std.proofs.Common.{◌≡◌, ◌≢◌, ◌⊎◌, inl, inr, ℕ, suc, ◌<◌, ◌≤◌, ◌^◌, ◌==◌, nat_lt, Bool, true, false, ◌&&◌, List, [], ◌∷◌, length, get_or, None, Result, Ok, Err, refl, arith}
use Rattle.std.proofs.lemmas.Bool.Decides.{nat_tests}
use Rattle.std.proofs.lemmas.Str.Parse.{IsNumeralModel, numerals_by_weight, tells_all_ascii_digits, parse_plain}
use Rattle.std.specs.Char.{is_ascii_digit}
use Rattle.std.specs.Result.{OkIff, result_ok}
use Rattle.std.specs.Str.{all_ascii_digits}
use Rattle.std.specs.Str.Parse.{ParsesUnsigned}
use Rattle.script_text.specs.Numbers.{decimal, is_numeral, number_of}
use Rattle.script_text.specs.Steps.{guarded}

own : IsNumeralModel (λ ds. all_ascii_digits ds ≡ true) decimal
own = numerals_by_weight _ tells_all_ascii_digits decimal (record { empty = refl; more = λ c cs r. refl })

-- v is the value of a word of n bytes, and b says whether they are digits
read_as : {E : Type 0} (b : Bool) (n v : ℕ) (r : Result ℕ E) → OkIff r ((b ≡ true) × (0 < n) × (v < 2 ^ 32)) v
    → result_ok r ≡ guarded ((nat_lt 0 n && b) && nat_lt v (2 ^ 32)) v
read_as b n v (Ok x) h =
    let some : nat_lt 0 n ≡ true = grind (arith, nat_tests, h.0.1) in
    let small : nat_lt v (2 ^ 32) ≡ true = grind (arith, nat_tests, h.0.2) in
    rw (h.0.0, some, small, h.1) refl
read_as false n v (Err e) h = elim (nat_lt 0 n) as (λ s. None ≡ guarded ((s && false) && nat_lt v (2 ^ 32)) v) [ true ↦ refl | false ↦ refl ]
read_as true n v (Err e) h =
    elim (nat_lt 0 n) as (λ s. nat_lt 0 n ≡ s → None ≡ guarded ((s && true) && nat_lt v (2 ^ 32)) v) [
      | true ↦ λ s. elim (nat_lt v (2 ^ 32)) as (λ t. nat_lt v (2 ^ 32) ≡ t → None ≡ guarded t v) [
        | true ↦ λ t. absurd (h (refl, grind (arith, nat_tests), grind (arith, nat_tests)))
        | false ↦ λ t. refl
      ] refl
      | false ↦ λ s. refl
    ] refl

-- without a zero in front of other digits
numeral_is : (word : List ℕ) → (get_or word 0 0 ≡ 48 → length word ≤ 1) → is_numeral word ≡ (nat_lt 0 (length word) && all_ascii_digits word)
numeral_is [] le = refl
numeral_is (d ∷ []) le = elim (is_ascii_digit d) as (λ b. b ≡ (b && true)) [ true ↦ refl | false ↦ refl ]
numeral_is (d ∷ e ∷ digits) le =
    let t : d == 48 ≡ false = grind (arith, nat_tests) in
    let some : nat_lt 0 (suc (suc (length digits))) ≡ true = grind (arith, nat_tests) in
    rw (t, some) refl

pub number_read : {E : Type 0} (word : List ℕ) (r : Result ℕ E) → ParsesUnsigned 32 10 word r → get_or word 0 0 ≢ 43 → (get_or word 0 0 ≡ 48 → length word ≤ 1)
    → result_ok r ≡ number_of word
number_read word r h plus zero =
    rw (numeral_is word zero) (read_as (all_ascii_digits word) (length word) (decimal word) r (parse_plain own 32 word r h plus))

-- what `number` has tested before it parses
pub number_parsed : {E : Type 0} (word : List ℕ) (r : Result ℕ E) (zero : Bool) → ParsesUnsigned 32 10 word r → false ≡ (get_or word 0 0 == 43)
    → zero ≡ (get_or word 0 0 == 48) → ((zero ≡ true) × (length word ≤ 1)) ⊎ (zero ≡ false) → result_ok r ≡ number_of word
number_parsed word r zero h plus is (inl one) = number_read word r h (grind (arith, nat_tests)) (λ e. one.1)
number_parsed word r zero h plus is (inr other) = number_read word r h (grind (arith, nat_tests)) (λ e. absurd (grind (arith, nat_tests)))
