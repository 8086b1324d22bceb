-- Where the first line ends.
use Rattle.std.proofs.Common.{◌≡◌, ℕ, suc, ◌+◌, ◌<◌, ◌≤◌, ◌==◌, nat_lt, true, false, not, cond, List, [], ◌∷◌, length, take, drop, Option, Some, None, refl, ap, subst, sym, arith}
use Rattle.std.proofs.lemmas.List.{take_all, drop_all, length-take}
use Rattle.std.proofs.lemmas.List.Sums.{prefix_len-le-length}
use Rattle.std.proofs.lemmas.Bool.Decides.{nat_tests}
use Rattle.std.specs.List.{onto_first, position_or_len, position}
use Rattle.script_text.specs.Lines.{lines_of, text_of, words_of, words_after, one}
use Rattle.script_text.specs.Reading.{BeginsWithLine}
use Rattle.std.specs.Borrow.{Bor}
use Rattle.std.specs.Option.{option_copied}
use Rattle.std.specs.Prelude.{is_some}
use Rattle.std.proofs.lemmas.Bool.{false≢true}

-- where the first line feed stands, or how many bytes there are
abbrev pub feed : List ℕ → ℕ
feed bytes = position_or_len (λ b. b == 10) bytes

feed_le : (bytes : List ℕ) → feed bytes ≤ length bytes
feed_le bytes = prefix_len-le-length (λ b. not (b == 10)) bytes

pub lines_first : (bytes : List ℕ) → feed bytes < length bytes → lines_of bytes ≡ take (feed bytes + 1) bytes ∷ lines_of (drop (feed bytes + 1) bytes)
lines_first [] lt = absurd (omega arith)
lines_first (b ∷ bytes) lt =
    elim (b == 10) as (λ v. cond (not v) (1 + feed bytes) 0 < suc (length bytes)
    → cond v ((b ∷ []) ∷ lines_of bytes) (onto_first b (lines_of bytes))
    ≡ take (cond (not v) (1 + feed bytes) 0 + 1) (b ∷ bytes) ∷ lines_of (drop (cond (not v) (1 + feed bytes) 0 + 1) (b ∷ bytes))) [
      | true ↦ λ lt. refl
      | false ↦ λ lt. let e : 1 + feed bytes + 1 ≡ suc (feed bytes + 1) = omega arith in rw e (ap (onto_first b) (lines_first bytes (omega arith)))
    ] lt

pub text_first : (bytes : List ℕ) → feed bytes < length bytes → text_of (take (feed bytes + 1) bytes) ≡ take (feed bytes) bytes
text_first [] lt = absurd (omega arith)
text_first (b ∷ bytes) lt =
    elim (b == 10) as (λ v. b == 10 ≡ v → cond (not v) (1 + feed bytes) 0 < suc (length bytes)
    → text_of (take (cond (not v) (1 + feed bytes) 0 + 1) (b ∷ bytes)) ≡ take (cond (not v) (1 + feed bytes) 0) (b ∷ bytes)) [
      | true ↦ λ t lt. rw t refl
      | false ↦ λ t lt.
          let e : 1 + feed bytes + 1 ≡ suc (feed bytes + 1) = omega arith in
          let s : 1 + feed bytes ≡ suc (feed bytes) = omega arith in
          let u : 1 + feed (take (feed bytes + 1) bytes) ≡ suc (feed (take (feed bytes + 1) bytes)) = omega arith in
          rw (e, s, t, u) (ap (λ text. b ∷ text) (text_first bytes (omega arith)))
    ] refl lt

pub lines_only : (bytes : List ℕ) → 0 < length bytes → feed bytes ≡ length bytes → lines_of bytes ≡ bytes ∷ []
lines_only [] some is = absurd (omega arith)
lines_only (b ∷ []) some is =
    elim (b == 10) as (λ v. cond (not v) (1 + 0) 0 ≡ 1 → cond v ((b ∷ []) ∷ []) ((b ∷ []) ∷ []) ≡ (b ∷ []) ∷ []) [
      | true ↦ λ is. refl
      | false ↦ λ is. refl
    ] is
lines_only (b ∷ c ∷ bytes) some is =
    elim (b == 10) as (λ v. cond (not v) (1 + feed (c ∷ bytes)) 0 ≡ suc (length (c ∷ bytes))
    → cond v ((b ∷ []) ∷ lines_of (c ∷ bytes)) (onto_first b (lines_of (c ∷ bytes))) ≡ (b ∷ c ∷ bytes) ∷ []) [
      | true ↦ λ is. absurd (omega (arith, is))
      | false ↦ λ is. ap (onto_first b) (lines_only (c ∷ bytes) (omega arith) (omega (arith, is)))
    ] is

pub begins_first : (bytes : List ℕ) → feed bytes < length bytes → BeginsWithLine bytes (take (feed bytes) bytes) (feed bytes + 1)
begins_first bytes lt = record {
  line = take (feed bytes + 1) bytes;
  lines = lines_first bytes lt;
  text_is = text_first bytes lt;
  size_is = omega (arith, length-take (feed bytes + 1) bytes);
  some = omega arith;
  within = omega arith;
}

pub begins_only : (bytes : List ℕ) → 0 < length bytes → feed bytes ≡ length bytes → BeginsWithLine bytes bytes (length bytes)
begins_only bytes some is = record {
  line = bytes;
  lines = rw (drop_all (length bytes) bytes (omega arith)) (lines_only bytes some is);
  text_is = take_all (feed bytes) bytes (omega (arith, is));
  size_is = refl;
  some = some;
  within = omega arith;
}

-- what `position` finds
pub feed_at : (bytes : List ℕ) (n : ℕ) → position (λ b. b == 10) bytes ≡ Some n → (feed bytes < length bytes) × (feed bytes ≡ n)
feed_at bytes n is =
    elim (nat_lt (feed bytes) (length bytes)) as (λ v. nat_lt (feed bytes) (length bytes) ≡ v → cond v (Some (feed bytes)) None ≡ Some n → (feed bytes < length bytes) × (feed bytes ≡ n)) [
      | true ↦ λ t is. (grind (arith, nat_tests), cc)
      | false ↦ λ t is. cc
    ] refl is

pub feed_none : (bytes : List ℕ) → position (λ b. b == 10) bytes ≡ None → feed bytes ≡ length bytes
feed_none bytes is =
    elim (nat_lt (feed bytes) (length bytes)) as (λ v. nat_lt (feed bytes) (length bytes) ≡ v → cond v (Some (feed bytes)) None ≡ None → feed bytes ≡ length bytes) [
      | true ↦ λ t is. cc
      | false ↦ λ t is. grind (arith, nat_tests, feed_le bytes)
    ] refl is

pub split_found : (bytes : List ℕ) (n : ℕ) → position (λ b. b == 10) bytes ≡ Some n → BeginsWithLine bytes (take n bytes) (n + 1)
split_found bytes n is =
    let f = feed_at bytes n is in
    subst (λ k. BeginsWithLine bytes (take k bytes) (k + 1)) f.1 (begins_first bytes f.0)

pub split_whole : (bytes : List ℕ) → 0 < length bytes → position (λ b. b == 10) bytes ≡ None → BeginsWithLine bytes bytes (length bytes)
split_whole bytes some is = begins_only bytes some (feed_none bytes is)

-- where the first space stands, or how many bytes there are
abbrev pub space : List ℕ → ℕ
space text = position_or_len (λ b. b == 32) text

pub words_only : (text : List ℕ) → space text ≡ length text → words_of text ≡ text ∷ []
words_only [] is = refl
words_only (b ∷ text) is =
    elim (b == 32) as (λ v. cond (not v) (1 + space text) 0 ≡ suc (length text)
    → cond v ([] ∷ words_of text) (onto_first b (words_of text)) ≡ (b ∷ text) ∷ []) [
      | true ↦ λ is. absurd (omega (arith, is))
      | false ↦ λ is. ap (onto_first b) (words_only text (omega (arith, is)))
    ] is

-- there is a first word
pub words_some : (text : List ℕ) → (word : List ℕ) × (others : List (List ℕ)) × (words_of text ≡ word ∷ others)
words_some [] = ([], [], refl)
words_some (b ∷ text) =
    let w = words_some text in
    elim (b == 32) as (λ v. (word : List ℕ) × (others : List (List ℕ)) × (cond v ([] ∷ words_of text) (onto_first b (words_of text)) ≡ word ∷ others)) [
      | true ↦ ([], words_of text, refl)
      | false ↦ (b ∷ w.0, w.1, ap (onto_first b) w.2)
    ]

-- more than one word
pub one_more : (text word : List ℕ) (others : Option (Bor (List ℕ))) → words_of text ≡ word ∷ words_after (option_copied others) → true ≡ is_some others → None ≡ one (words_of text)
one_more text word None is some = absurd (false≢true (sym some))
one_more text word (Some more) is some = let w = words_some more.now in rw (is, w.2) refl
