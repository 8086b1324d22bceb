-- Sectors that were written one after another are read again.
use Rattle.std.proofs.Common.{◌≡◌, ℕ, zero, suc, ◌+◌, ◌-◌, ◌*◌, ◌^◌, ◌<◌, List, [], ◌∷◌, ◌++◌, length, get_or, take, drop, refl, ap, sym, ◌∙◌, subst, arith, map}
use Rattle.std.proofs.Math.Seq.{drop-append-add, take-append_seam}
use Rattle.std.proofs.lemmas.List.{length-append, flat_map_more}
use Rattle.std.proofs.lemmas.List.FromFn.{get_or-map-range_with_len, map-range_with_len_more}
use Rattle.std.specs.List.{range_with_len}
use Rattle.mdc_types.specs.Sectors.{zero_sector}
use Rattle.mdc_types.specs.declared.numbers.Sector.{Sector}
use Rattle.leg_shelf.specs.Images.{sector_at, sectors_in, bytes_of, whole_sectors}

-- each has 512 bytes
pub record AreWhole (ss : List Sector) : Type 0 where
  pub each : (k : ℕ) → k < length ss → length (get_or ss k zero_sector).bytes ≡ 512

tail_whole : (s : Sector) (ss : List Sector) → AreWhole (s ∷ ss) → AreWhole ss
tail_whole s ss whole = record { each = λ k lt. whole.each (suc k) (omega arith) }

head_whole : (s : Sector) (ss : List Sector) → AreWhole (s ∷ ss) → length s.bytes ≡ 512
head_whole s ss whole = whole.each 0 (omega arith)

pub bytes_length : (ss : List Sector) → AreWhole ss → length (bytes_of ss) ≡ 512 * length ss
bytes_length [] whole = refl
bytes_length (s ∷ ss) whole =
    let one : length s.bytes ≡ 512 = head_whole s ss whole in
    let rest : length (bytes_of ss) ≡ 512 * length ss = bytes_length ss (tail_whole s ss whole) in
    length-append s.bytes (bytes_of ss) ∙ omega (arith, one, rest)

past_one : (s : Sector) (ss : List Sector) (k : ℕ) → length s.bytes ≡ 512
    → drop (512 * suc k) (s.bytes ++ bytes_of ss) ≡ drop (512 * k) (bytes_of ss)
past_one s ss k one =
    let e : 512 * suc k ≡ length s.bytes + 512 * k = omega (arith, one) in
    ap (λ n. drop n (s.bytes ++ bytes_of ss)) e ∙ drop-append-add s.bytes (bytes_of ss) (512 * k)

seam : (xs ys : List ℕ) → length xs ≡ 512 → take 512 (xs ++ ys) ≡ xs
seam xs ys is = ap (λ n. take n (xs ++ ys)) (sym is) ∙ take-append_seam xs ys

-- sector k of the bytes
part : (ss : List Sector) (k : ℕ) → k < length ss → AreWhole ss
    → take 512 (drop (512 * k) (bytes_of ss)) ≡ (get_or ss k zero_sector).bytes
part [] k lt whole = absurd (omega (arith, lt))
part (s ∷ ss) zero lt whole = seam s.bytes (bytes_of ss) (head_whole s ss whole)
part (s ∷ ss) (suc k) lt whole =
    ap (take 512) (past_one s ss k (head_whole s ss whole)) ∙ part ss k (omega arith) (tail_whole s ss whole)

width : (k : ℕ) → (512 * k + 512) - 512 * k ≡ 512
width k = omega arith

read : (ss : List Sector) (k : ℕ) → k < length ss → AreWhole ss → sector_at (bytes_of ss) k ≡ get_or ss k zero_sector
read ss k lt whole = ap (λ bs. record { bytes = bs })
    (ap (λ n. take n (drop (512 * k) (bytes_of ss))) (width k) ∙ part ss k lt whole)

count : (ss : List Sector) → AreWhole ss → length ss < 2 ^ 32 → whole_sectors (length (bytes_of ss)) ≡ length ss
count ss whole few =
    let size : length (bytes_of ss) ≡ 512 * length ss = bytes_length ss whole in
    ap whole_sectors size ∙ omega (arith, few)

-- what was written is read again
pub sectors_read : (ss : List Sector) (k : ℕ) → k < length ss → AreWhole ss → length ss < 2 ^ 32
    → get_or (sectors_in (bytes_of ss)) k zero_sector ≡ get_or ss k zero_sector
sectors_read ss k lt whole few =
    get_or-map-range_with_len (sector_at (bytes_of ss)) 0 (whole_sectors (length (bytes_of ss))) k k zero_sector
    (subst (λ n. k < n) (sym (count ss whole few)) lt) (omega arith)
    ∙ read ss k lt whole

-- one sector more
pub one_more : (f : ℕ → Sector) (k : ℕ) → bytes_of (map f (range_with_len 0 k)) ++ (f k).bytes ≡ bytes_of (map f (range_with_len 0 (k + 1)))
one_more f k = flat_map_more (λ s. s.bytes) [] (map f (range_with_len 0 k)) (f k)
    ∙ ap bytes_of (sym (map-range_with_len_more f 0 k k (omega arith)))
