-- Bytes from hexadecimal digits.
use Rattle.std.proofs.Common.{◌≡◌, ◌≢◌, ◌⊎◌, inl, inr, ℕ, ◌+◌, ◌-◌, ◌*◌, ◌%◌, ◌<◌, ◌≤◌, true, false, List, [], ◌∷◌, ◌++◌, length, get_or, take, drop, set, replicate, Option, Some, None, refl, ap, sym, ◌∙◌, arith}
use Rattle.std.proofs.lemmas.Bool.Decides.{nat_tests}
use Rattle.std.proofs.lemmas.List.{append_assoc, drop_more, take_more_set, length-take-le, take-append-drop, drop-replicate}
use Rattle.std.specs.Prelude.{codes}
use Rattle.std.specs.Option.{option_map}
use Rattle.std.specs.Str.{bytes_eq}
use Rattle.script_text.specs.Numbers.{hex_digit, hex_byte, onto_bytes, hex_bytes, fits_sector, sector_of, value_of}
use Rattle.script_text.specs.Steps.{guarded, ◌>>=◌}

-- bytes that were read, and those that are still to be read
abbrev pub onto_front : List ℕ → Option (List ℕ) → Option (List ℕ)
onto_front front None = None
onto_front front (Some bytes) = Some (front ++ bytes)

pub hex_next : (digits : List ℕ) (i : ℕ) → 2 * i + 1 < length digits
    → hex_bytes (drop (2 * i) digits) ≡ onto_bytes (hex_byte (hex_digit (get_or digits (2 * i) 0)) (hex_digit (get_or digits (2 * i + 1) 0))) (hex_bytes (drop (2 * (i + 1)) digits))
hex_next digits i lt =
    let one = drop_more digits (2 * i) 0 (omega arith) in
    let two = drop_more digits (2 * i + 1) 0 lt in
    let past : 2 * i + 1 + 1 ≡ 2 * (i + 1) = omega arith in
    ap hex_bytes (one ∙ ap (λ rest. get_or digits (2 * i) 0 ∷ rest) two)
    ∙ ap (λ n. onto_bytes (hex_byte (hex_digit (get_or digits (2 * i) 0)) (hex_digit (get_or digits (2 * i + 1) 0))) (hex_bytes (drop n digits))) past

pub onto_front-onto_bytes : (front : List ℕ) (byte : ℕ) (bytes : Option (List ℕ)) → onto_front front (onto_bytes (Some byte) bytes) ≡ onto_front (front ++ byte ∷ []) bytes
onto_front-onto_bytes front byte None = refl
onto_front-onto_bytes front byte (Some bytes) = ap Some (sym (append_assoc front (byte ∷ []) bytes))

pub onto_front-nil : (bytes : Option (List ℕ)) → onto_front [] bytes ≡ bytes
onto_front-nil None = refl
onto_front-nil (Some bytes) = refl

pub hex_stops : (front digits : List ℕ) (i : ℕ) (whole : Option (List ℕ)) → 2 * i + 1 < length digits
    → whole ≡ onto_front front (hex_bytes (drop (2 * i) digits)) → None ≡ hex_digit (get_or digits (2 * i) 0) → whole ≡ None
hex_stops front digits i whole lt is none =
    is ∙ ap (onto_front front) (hex_next digits i lt
    ∙ ap (λ h. onto_bytes (hex_byte h (hex_digit (get_or digits (2 * i + 1) 0))) (hex_bytes (drop (2 * (i + 1)) digits))) (sym none))

pub hex_goes_on : (bytes digits : List ℕ) (i high low : ℕ) (whole : Option (List ℕ)) → i < length bytes → 2 * i + 1 < length digits
    → whole ≡ onto_front (take i bytes) (hex_bytes (drop (2 * i) digits))
    → Some high ≡ hex_digit (get_or digits (2 * i) 0) → Some low ≡ hex_digit (get_or digits (2 * i + 1) 0)
    → whole ≡ onto_front (take (i + 1) (set bytes i (16 * high + low))) (hex_bytes (drop (2 * (i + 1)) digits))
hex_goes_on bytes digits i high low whole within lt is h l =
    let later = hex_bytes (drop (2 * (i + 1)) digits) in
    is ∙ (ap (onto_front (take i bytes)) (hex_next digits i lt ∙ ap (λ d. onto_bytes (hex_byte d (hex_digit (get_or digits (2 * i + 1) 0))) later) (sym h)
    ∙ ap (λ d. onto_bytes (hex_byte (Some high) d) later) (sym l))
    ∙ (onto_front-onto_bytes (take i bytes) (16 * high + low) later
    ∙ ap (λ front. onto_front front later) (sym (take_more_set bytes i (16 * high + low) within))))

filled : (k n : ℕ) (bytes : List ℕ) → drop n bytes ≡ drop n (replicate k 0) → bytes ≡ take n bytes ++ replicate (k - n) 0
filled k n bytes is = sym (take-append-drop n bytes) ∙ ap (λ rest. take n bytes ++ rest) (is ∙ drop-replicate n k 0)

-- The bytes of a sector in which only the first n differ from zero.
pub sector_from : (n : ℕ) (bytes : List ℕ) → n ≤ length bytes → drop n bytes ≡ drop n (sector_of []).bytes → Some (record { bytes = bytes }) ≡ Some (sector_of (take n bytes))
unfolding sector_of
sector_from n bytes le is =
    let size : length (take n bytes) ≡ n = length-take-le n bytes le in
    ap (λ all. Some (record { bytes = all })) (filled 512 n bytes is ∙ ap (λ m. take n bytes ++ replicate (512 - m) 0) (sym size))

onto_none : (byte : Option ℕ) → onto_bytes byte None ≡ None
onto_none None = refl
onto_none (Some b) = refl

-- what is read of so many digits
pub hex_length : (digits bytes : List ℕ) → hex_bytes digits ≡ Some bytes → length digits ≡ 2 * length bytes
hex_length [] bytes is = let e : [] ≡ bytes = cc in omega (arith, ap length e)
hex_length (d ∷ []) bytes is = cc
hex_length (d ∷ e ∷ digits) bytes is = hex_length_more d e digits (hex_byte (hex_digit d) (hex_digit e)) (hex_bytes digits) bytes is (hex_length digits)
  where
    hex_length_more : (d e : ℕ) (digits : List ℕ) (byte : Option ℕ) (later : Option (List ℕ)) (bytes : List ℕ) → onto_bytes byte later ≡ Some bytes
        → ((rest : List ℕ) → later ≡ Some rest → length digits ≡ 2 * length rest) → length (d ∷ e ∷ digits) ≡ 2 * length bytes
    hex_length_more d e digits None later bytes is f = cc
    hex_length_more d e digits (Some b) None bytes is f = cc
    hex_length_more d e digits (Some b) (Some rest) bytes is f = let e : b ∷ rest ≡ bytes = cc in omega (arith, f rest refl, ap length e)

-- so many digits write no value
abbrev pub IsNoLength : ℕ → Type 0
IsNoLength n = (n < 2) ⊎ ((1024 < n) ⊎ (n % 2 ≢ 0))

unfit : (n : ℕ) (bytes : List ℕ) → n ≡ 2 * length bytes → IsNoLength n → fits_sector bytes ≡ false
unfit n bytes is (inl few) = grind (arith, nat_tests)
unfit n bytes is (inr (inl many)) = grind (arith, nat_tests)
unfit n bytes is (inr (inr odd)) = absurd (omega arith)

module _ (n : ℕ) where
  refused : (read : Option (List ℕ)) → ((bytes : List ℕ) → read ≡ Some bytes → n ≡ 2 * length bytes) → IsNoLength n
      → None ≡ (read >>= λ bytes. guarded (fits_sector bytes) (sector_of bytes))
  refused None size misfit = refl
  refused (Some bytes) size misfit = let e = unfit n bytes (size bytes refl) misfit in rw e refl

  taken : (read : Option (List ℕ)) → ((bytes : List ℕ) → read ≡ Some bytes → n ≡ 2 * length bytes) → 2 ≤ n → n ≤ 1024
      → option_map sector_of read ≡ (read >>= λ bytes. guarded (fits_sector bytes) (sector_of bytes))
  taken None size some few = refl
  taken (Some bytes) size some few =
      let h : n ≡ 2 * length bytes = size bytes refl in
      let e : fits_sector bytes ≡ true = grind (arith, nat_tests) in
      rw e refl

pub value_refused : (word : List ℕ) → false ≡ bytes_eq word (codes "-") → IsNoLength (length word) → None ≡ value_of word
value_refused word not_empty misfit = rw (sym not_empty) (refused (length word) (hex_bytes word) (hex_length word) misfit)

pub value_taken : (word : List ℕ) → false ≡ bytes_eq word (codes "-") → 2 ≤ length word → length word ≤ 1024 → option_map sector_of (hex_bytes word) ≡ value_of word
value_taken word not_empty some few = rw (sym not_empty) (taken (length word) (hex_bytes word) (hex_length word) some few)
