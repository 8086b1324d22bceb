-- Numbers and bytes of a sector, by place.
use Rattle.std.proofs.Common.{◌≡◌, ℕ, zero, suc, ◌+◌, ◌-◌, ◌≤◌, List, [], ◌++◌, length, take, drop, refl, ◌∙◌, arith}
use Rattle.std.proofs.lemmas.List.{get_or-drop, take_all, drop_all, drop-drop, append-nil, length-drop}
use borrow.Rule.Slice.PartMut.{put_mid}
use Rattle.byteorder.specs.Endian.{little_from}
use Rattle.byteorder.specs.Numbers.{little_from-take, length-bytes_low_first}
use Rattle.md_superblock.specs.Layout.{number_at, bytes_of, with_bytes}

little_from-drop : (n i j at : ℕ) (bytes : List ℕ) → j ≡ at + i → little_from i n (drop at bytes) ≡ little_from j n bytes
little_from-drop zero i j at bytes e = refl
little_from-drop (suc n) i j at bytes e =
    let byte = get_or-drop at bytes i 0 in
    let rest = little_from-drop n (suc i) (suc j) at bytes (omega arith) in
    rw (byte, rest, e) refl

-- a number of a part of the bytes
pub number_of_part : (n at m : ℕ) (bytes : List ℕ) → n ≤ m → little_from 0 n (take m (drop at bytes)) ≡ number_at bytes at n
unfolding number_at
number_of_part n at m bytes fits = little_from-take 0 n m (drop at bytes) (omega arith) ∙ little_from-drop n 0 at at bytes (omega arith)

-- what a write to the bytes from a place on leaves
pub put_number : (at n : ℕ) (bytes new part : List ℕ) → length bytes ≡ 512 → length new ≡ n → at + n ≤ 512 → part ≡ new ++ drop n (take (512 - at) (drop at bytes))
    → put_mid at (512 - at) bytes part ≡ with_bytes bytes at new
unfolding with_bytes
put_number at n bytes new part whole len fits e =
    let all : take (512 - at) (drop at bytes) ≡ drop at bytes = take_all (512 - at) (drop at bytes) (omega (arith, length-drop at bytes)) in
    let rest : drop n (drop at bytes) ≡ drop (at + n) bytes = drop-drop n at bytes in
    let none : drop (512 - at) (drop at bytes) ≡ [] = drop_all (512 - at) (drop at bytes) (omega (arith, length-drop at bytes)) in
    rw (e, all, rest, none, append-nil, len) refl

pub length-bytes_of : (n x : ℕ) → length (bytes_of n x) ≡ n
unfolding bytes_of
length-bytes_of n x = length-bytes_low_first 0 n x

pub put_bytes_is : (at : ℕ) (bytes new part : List ℕ) → part ≡ new → put_mid at (at + length new - at) bytes part ≡ with_bytes bytes at new
unfolding with_bytes
put_bytes_is at bytes new part e =
    let len : at + length new - at ≡ length new = omega arith in
    let rest : drop (length new) (drop at bytes) ≡ drop (at + length new) bytes = drop-drop (length new) at bytes in
    rw (e, len, rest) refl
