-- What stands in the bytes after pieces were written: each piece, where none after it overlaps it.
use Rattle.std.proofs.Common.{◌≡◌, inl, inr, ℕ, zero, suc, ◌+◌, ◌*◌, ◌^◌, ◌<◌, ◌≤◌, nat_lt, nat_le, Bool, true, false, ◌&&◌, ◌||◌, List, [], ◌∷◌, ◌++◌, add-one, length, drop, get_or, refl, ◌∙◌, arith}
use Rattle.std.specs.Prelude.{slice_range}
use Rattle.std.specs.List.{list_any, list_all}
use Rattle.std.proofs.lemmas.Bool.{and_parts, or_cases, or_parts, leb-true, and_left, and_right, lt-leb, le-ltb}
use Rattle.mdc_types.specs.declared.roles.Roles.{Roles}
use Rattle.mdc_types.specs.Roles.{role_of, role_code}
use Rattle.md_superblock.specs.Layout.{number_at, bytes_of, with_bytes, covers, fields, is_named}
use Rattle.md_superblock.specs.Pieces.{Piece, piece, number, with_pieces, role_piece, role_pieces}
use Rattle.md_superblock.proofs.Places.{number_at-is, part_is, covers_out, length-with_bytes, get_or-with_bytes_in, get_or-with_bytes_out}

-- each piece lies in the sector and has its size
abbrev pub AllFit : List Piece → Type 0
AllFit [] = Unit {0}
AllFit (p ∷ ps) = (p.at + p.size ≤ 512) × (length p.bytes ≡ p.size) × AllFit ps

-- none of the pieces overlaps the n bytes from at on
abbrev pub are_apart : ℕ → ℕ → List Piece → Bool
are_apart at n [] = true
are_apart at n (p ∷ ps) = (nat_le (at + n) p.at || nat_le (p.at + p.size) at) && are_apart at n ps

-- none of the pieces has byte i
abbrev pub AreAway : ℕ → List Piece → Type 0
AreAway i [] = Unit {0}
AreAway i (p ∷ ps) = (covers p.at p.size i ≡ false) × AreAway i ps

out_below : (at n i : ℕ) → i < at → covers at n i ≡ false
out_below at n i lt = and_left (nat_le at i) (nat_lt i (at + n)) (lt-leb at i lt)

out_past : (at n i : ℕ) → at + n ≤ i → covers at n i ≡ false
out_past at n i le = and_right (nat_le at i) (nat_lt i (at + n)) (le-ltb i (at + n) le)

away : (at n i : ℕ) (ps : List Piece) → are_apart at n ps ≡ true → at ≤ i → i < at + n → AreAway i ps
away at n i [] apart le lt = tt
away at n i (p ∷ ps) apart le lt =
    let parts = and_parts (nat_le (at + n) p.at || nat_le (p.at + p.size) at) (are_apart at n ps) apart in
    let here : covers p.at p.size i ≡ false = elim (or_cases (nat_le (at + n) p.at) (nat_le (p.at + p.size) at) parts.0) [
      | inl before ↦ let order = leb-true (at + n) p.at before in out_below p.at p.size i (omega arith)
      | inr after ↦ let order = leb-true (p.at + p.size) at after in out_past p.at p.size i (omega arith)
    ] in
    (here, away at n i ps parts.1 le lt)

pub length-with_pieces : (bytes : List ℕ) (ps : List Piece) → length bytes ≡ 512 → AllFit ps → length (with_pieces bytes ps) ≡ 512
length-with_pieces bytes [] size fit = size
length-with_pieces bytes (p ∷ ps) size fit =
    length-with_pieces (with_bytes bytes p.at p.bytes) ps (length-with_bytes bytes p.at p.size p.bytes fit.1 (omega (arith, fit.0)) ∙ size) fit.2

-- a byte that no piece has
pub get_or-away : (bytes : List ℕ) (ps : List Piece) (i : ℕ) → length bytes ≡ 512 → AllFit ps → AreAway i ps → get_or (with_pieces bytes ps) i 0 ≡ get_or bytes i 0
get_or-away bytes [] i size fit out = refl
get_or-away bytes (p ∷ ps) i size fit out =
    get_or-away (with_bytes bytes p.at p.bytes) ps i (length-with_bytes bytes p.at p.size p.bytes fit.1 (omega (arith, fit.0)) ∙ size) fit.2 out.1
    ∙ get_or-with_bytes_out bytes p.at p.size p.bytes i fit.1 (omega (arith, fit.0)) out.0

-- the bytes of piece k
pub get_or-piece : (k : ℕ) (bytes : List ℕ) (ps rest : List Piece) (p : Piece) → length bytes ≡ 512 → AllFit ps → drop k ps ≡ p ∷ rest → are_apart p.at p.size rest ≡ true
    → (i : ℕ) → i < p.size → get_or (with_pieces bytes ps) (p.at + i) 0 ≡ get_or p.bytes i 0
get_or-piece zero bytes [] rest p size fit is apart i lt = cc
get_or-piece (suc k) bytes [] rest p size fit is apart i lt = cc
get_or-piece zero bytes (q ∷ ps) rest p size fit is apart i lt =
    let same : q ≡ p = cc in
    let others : ps ≡ rest = cc in
    let fits = fit.0 in
    let len = fit.1 in
    let apart' : are_apart q.at q.size ps ≡ true = rw (same, others) apart in
    let lt' : i < q.size = rw same lt in
    rw (← same) (get_or-away (with_bytes bytes q.at q.bytes) ps (q.at + i) (length-with_bytes bytes q.at q.size q.bytes len (omega arith) ∙ size) fit.2
    (away q.at q.size (q.at + i) ps apart' (omega arith) (omega arith))
    ∙ get_or-with_bytes_in bytes q.at q.size q.bytes i len (omega arith) lt')
get_or-piece (suc k) bytes (q ∷ ps) rest p size fit is apart i lt =
    let fits = fit.0 in
    get_or-piece k (with_bytes bytes q.at q.bytes) ps rest p (length-with_bytes bytes q.at q.size q.bytes fit.1 (omega arith) ∙ size) fit.2 is apart i lt

-- the number of piece k
pub number_of_piece : (k : ℕ) (bytes : List ℕ) (ps rest : List Piece) (at n x : ℕ) → length bytes ≡ 512 → AllFit ps → drop k ps ≡ number at n x ∷ rest → are_apart at n rest ≡ true → x < 256 ^ n
    → number_at (with_pieces bytes ps) at n ≡ x
number_of_piece k bytes ps rest at n x size fit is apart fits =
    number_at-is at n x (with_pieces bytes ps) fits (λ i lt. get_or-piece k bytes ps rest (number at n x) size fit is apart i lt)

-- the bytes of piece k as a part
pub part_of_piece : (k : ℕ) (bytes : List ℕ) (ps rest : List Piece) (at n to : ℕ) (part : List ℕ) → length bytes ≡ 512 → AllFit ps → drop k ps ≡ piece at n part ∷ rest → are_apart at n rest ≡ true
    → at + n ≡ to → to ≤ 512 → length part ≡ n → slice_range (with_pieces bytes ps) at to ≡ part
part_of_piece k bytes ps rest at n to part size fit is apart place fits len =
    part_is at n to (with_pieces bytes ps) part place (omega (arith, length-with_pieces bytes ps size fit)) len
    (λ i lt. get_or-piece k bytes ps rest (piece at n part) size fit is apart i lt)

-- whether the piece lies in the field
abbrev pub lies_in : Piece → ℕ × ℕ → Bool
lies_in p field = nat_le field.0 p.at && nat_le (p.at + p.size) (field.0 + field.1)

out_of_piece : (i : ℕ) (p : Piece) (fs : List (ℕ × ℕ)) → list_any (lies_in p) fs ≡ true → list_any (λ field. covers field.0 field.1 i) fs ≡ false → covers p.at p.size i ≡ false
out_of_piece i p [] lies out = cc
out_of_piece i p (f ∷ fs) lies out =
    let parts = or_parts (covers f.0 f.1 i) (list_any (λ field. covers field.0 field.1 i) fs) out in
    elim (or_cases (lies_in p f) (list_any (lies_in p) fs) lies) [
      | inl here ↦
          let ends = and_parts (nat_le f.0 p.at) (nat_le (p.at + p.size) (f.0 + f.1)) here in
          let low = leb-true f.0 p.at ends.0 in
          let high = leb-true (p.at + p.size) (f.0 + f.1) ends.1 in
          elim (covers_out f.0 f.1 i parts.0) [
            | inl below ↦ out_below p.at p.size i (omega arith)
            | inr past ↦ out_past p.at p.size i (omega arith)
          ]
      | inr there ↦ out_of_piece i p fs there parts.1
    ]

-- pieces that lie in fields have no other byte
pub away_from_fields : (i : ℕ) (ps : List Piece) → list_all (λ p. list_any (lies_in p) fields) ps ≡ true → is_named i ≡ false → AreAway i ps
unfolding is_named
away_from_fields i [] lie out = tt
away_from_fields i (p ∷ ps) lie out =
    let parts = and_parts (list_any (lies_in p) fields) (list_all (λ q. list_any (lies_in q) fields) ps) lie in
    (out_of_piece i p fields parts.0 out, away_from_fields i ps parts.1 out)

-- one piece more
pub with_pieces_push : (bytes : List ℕ) (ps : List Piece) (p : Piece) → with_pieces bytes (ps ++ p ∷ []) ≡ with_bytes (with_pieces bytes ps) p.at p.bytes
with_pieces_push bytes [] p = refl
with_pieces_push bytes (q ∷ ps) p = with_pieces_push (with_bytes bytes q.at q.bytes) ps p

pub role_pieces-zero : (roles : Roles) → role_pieces roles 0 ≡ []
unfolding role_pieces
role_pieces-zero roles = refl

pub role_pieces-suc : (roles : Roles) (n : ℕ) → role_pieces roles (suc n) ≡ role_pieces roles n ++ role_piece roles n ∷ []
unfolding role_pieces
role_pieces-suc roles n = refl

pub one_role_more : (bytes : List ℕ) (roles : Roles) (n : ℕ) → with_pieces bytes (role_pieces roles (n + 1)) ≡ with_bytes (with_pieces bytes (role_pieces roles n)) (256 + 2 * n) (bytes_of 2 (role_code n (role_of roles n)))
one_role_more bytes roles n = rw (add-one, role_pieces-suc) (with_pieces_push bytes (role_pieces roles n) (role_piece roles n))
