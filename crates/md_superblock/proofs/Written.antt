-- What the writer writes spells the superblock.
use Rattle.std.proofs.Common.{◌≡◌, ◌≢◌, inl, inr, ℕ, zero, suc, ◌+◌, ◌*◌, ◌^◌, ◌<◌, ◌≤◌, ◌==◌, true, false, List, [], ◌∷◌, ◌++◌, length, drop, get_or, replicate, refl, sym, ap, ◌∙◌, arith, lit≤, lit<}
use Rattle.std.specs.Prelude.{slice_range}
use Rattle.std.proofs.lemmas.Bool.{cases_eq, eq-eqb, ne_eqb}
use Rattle.std.proofs.lemmas.Bool.Decides.{nat_tests}
use Rattle.std.proofs.lemmas.List.{length-replicate, length-set, get_or-replicate}
use Rattle.mdc_types.specs.declared.roles.Role.{Role}
use Rattle.mdc_types.specs.declared.roles.Role.TheVariants.{Working, Rebuilding, Faulty, Spare}
use Rattle.mdc_types.specs.declared.roles.Roles.{Roles}
use Rattle.mdc_types.specs.Roles.{role_of, role_code}
use Rattle.md_superblock.specs.declared.superblock.Super.{Super}
use Rattle.mdc_types.specs.Sectors.{IsSector}
use Rattle.md_superblock.specs.Layout.{number_at, bytes_of, with_bytes, sum_below, word_at, words_sum, checksum_of, covers, is_named}
use Rattle.mdc_types.specs.Geometry.{data_offset_of}
use Rattle.mdc_types.specs.Names.{device_uuid}
use Rattle.md_superblock.specs.Superblock.{IsSuper, IsWritten}
use Rattle.md_superblock.specs.Pieces.{Piece, piece, number, with_pieces, array_pieces, device_pieces, state_pieces, role_piece, role_pieces}
use Rattle.md_superblock.proofs.Bytes.{length-bytes_of}
use Rattle.md_superblock.proofs.Places.{number_at-agree, get_or-with_bytes_out, sector-with_bytes, bytes_of-lt}
use Rattle.md_superblock.proofs.PieceLaws.{AllFit, get_or-away, are_apart, number_of_piece, part_of_piece, away_from_fields}

-- sums of the same numbers are the same
pub sum_below-agree : (n : ℕ) (f g : ℕ → ℕ) → ((k : ℕ) → k < n → f k ≡ g k) → sum_below f n ≡ sum_below g n
unfolding sum_below
sum_below-agree zero f g same = refl
sum_below-agree (suc n) f g same =
    let last : f n ≡ g n = same n (omega arith) in
    let rest = sum_below-agree n f g (λ k lt. same k (omega arith)) in
    rw (last, rest) refl

words_agree : (xs ys : List ℕ) → ((i : ℕ) → i < 512 → covers 216 4 i ≡ false → get_or xs i 0 ≡ get_or ys i 0) → (k : ℕ) → k < 68 → word_at xs k ≡ word_at ys k
words_agree xs ys same k lt = elim (cases_eq k 54) [
  | inl own ↦ let test = eq-eqb k 54 own in rw test refl
  | inr other ↦
      let test = ne_eqb k 54 other in
      let word : number_at xs (4 * k) 4 ≡ number_at ys (4 * k) 4 = number_at-agree (4 * k) 4 xs ys (λ a le below. same a (omega arith) (out_of_sum a k other le below)) in
      rw (test, word) refl
] where
  out_of_sum : (a k : ℕ) → k ≢ 54 → 4 * k ≤ a → a < 4 * k + 4 → covers 216 4 a ≡ false
  out_of_sum a k other le below = grind (arith, nat_tests)

-- the checksum doesn't depend on its own word
pub checksum-agree : (xs ys : List ℕ) → ((i : ℕ) → i < 512 → covers 216 4 i ≡ false → get_or xs i 0 ≡ get_or ys i 0) → checksum_of xs ≡ checksum_of ys
checksum-agree xs ys same =
    let sums : words_sum xs ≡ words_sum ys = sum_below-agree 68 (word_at xs) (word_at ys) (words_agree xs ys same) in
    rw sums refl

-- the eight roles
abbrev pub eight_pieces : Roles → List Piece
eight_pieces roles =
    role_piece roles 0 ∷ role_piece roles 1 ∷ role_piece roles 2 ∷ role_piece roles 3
    ∷ role_piece roles 4 ∷ role_piece roles 5 ∷ role_piece roles 6 ∷ role_piece roles 7 ∷ []

pub role_pieces-eight : (roles : Roles) → role_pieces roles 8 ≡ eight_pieces roles
unfolding role_pieces
role_pieces-eight roles = refl

-- all but the checksum
abbrev pub unsummed : Super → List Piece
unsummed s = ((array_pieces s ++ device_pieces s) ++ state_pieces s) ++ eight_pieces s.roles

abbrev pub all_pieces : Super → ℕ → List Piece
all_pieces s sum = unsummed s ++ number 216 4 sum ∷ []

abbrev pub zeros : List ℕ
zeros = replicate 512 0

pub record HasSizes (s : Super) : Type 0 where
  pub uuid : length s.uuid ≡ 16
  pub name : length s.name ≡ 32
  pub roles : length s.roles.legs ≡ 8

pub all_fit : (s : Super) (sum : ℕ) → HasSizes s → AllFit (all_pieces s sum)
all_fit s sum sizes =
    let device : length (device_uuid s.uuid s.device) ≡ 16 = length-set s.uuid 15 s.device ∙ sizes.uuid in (
      lit≤ tt,
      length-bytes_of 4 0xa92b4efc,
      (
        lit≤ tt,
        length-bytes_of 4 1,
        (
          lit≤ tt,
          length-bytes_of 4 1,
          (
            lit≤ tt,
            sizes.uuid,
            (
              lit≤ tt,
              sizes.name,
              (
                lit≤ tt,
                length-bytes_of 4 1,
                (
                  lit≤ tt,
                  length-bytes_of 8 s.sectors,
                  (
                    lit≤ tt,
                    length-bytes_of 4 s.geometry_legs,
                    (
                      lit≤ tt,
                      length-bytes_of 4 8,
                      (
                        lit≤ tt,
                        length-bytes_of 8 (data_offset_of (s.version == 2)),
                        (
                          lit≤ tt,
                          length-bytes_of 8 s.room,
                          (
                            lit≤ tt,
                            length-bytes_of 8 8,
                            (
                              lit≤ tt,
                              length-bytes_of 4 s.device,
                              (
                                lit≤ tt,
                                device,
                                (
                                  lit≤ tt,
                                  length-bytes_of 8 s.events,
                                  (
                                    lit≤ tt,
                                    length-bytes_of 4 8,
                                    (
                                      lit≤ tt,
                                      length-bytes_of 2 (role_code 0 (role_of s.roles 0)),
                                      (
                                        lit≤ tt,
                                        length-bytes_of 2 (role_code 1 (role_of s.roles 1)),
                                        (
                                          lit≤ tt,
                                          length-bytes_of 2 (role_code 2 (role_of s.roles 2)),
                                          (
                                            lit≤ tt,
                                            length-bytes_of 2 (role_code 3 (role_of s.roles 3)),
                                            (
                                              lit≤ tt,
                                              length-bytes_of 2 (role_code 4 (role_of s.roles 4)),
                                              (
                                                lit≤ tt,
                                                length-bytes_of 2 (role_code 5 (role_of s.roles 5)),
                                                (
                                                  lit≤ tt,
                                                  length-bytes_of 2 (role_code 6 (role_of s.roles 6)),
                                                  (
                                                    lit≤ tt,
                                                    length-bytes_of 2 (role_code 7 (role_of s.roles 7)),
                                                    (
                                                      lit≤ tt,
                                                      length-bytes_of 4 sum,
                                                      tt,
                                                    ),
                                                  ),
                                                ),
                                              ),
                                            ),
                                          ),
                                        ),
                                      ),
                                    ),
                                  ),
                                ),
                              ),
                            ),
                          ),
                        ),
                      ),
                    ),
                  ),
                ),
              ),
            ),
          ),
        ),
      ),
    )

-- what the writer leaves
pub written : Super → ℕ → List ℕ
written s sum = with_pieces zeros (all_pieces s sum)

unfoldable pub before_sum : Super → List ℕ
before_sum s = with_pieces zeros (unsummed s)

-- the number of piece k
number_in : (s : Super) (sum k at n x : ℕ) → HasSizes s → drop k (all_pieces s sum) ≡ number at n x ∷ drop (suc k) (all_pieces s sum) → are_apart at n (drop (suc k) (all_pieces s sum)) ≡ true → x < 256 ^ n
    → number_at (written s sum) at n ≡ x
unfolding written
number_in s sum k at n x sizes is apart fits = number_of_piece k zeros (all_pieces s sum) (drop (suc k) (all_pieces s sum)) at n x (length-replicate {A = ℕ} 512 0) (all_fit s sum sizes) is apart fits

part_in : (s : Super) (sum k at n to : ℕ) (part : List ℕ) → HasSizes s → drop k (all_pieces s sum) ≡ piece at n part ∷ drop (suc k) (all_pieces s sum) → are_apart at n (drop (suc k) (all_pieces s sum)) ≡ true
    → at + n ≡ to → to ≤ 512 → length part ≡ n → slice_range (written s sum) at to ≡ part
unfolding written
part_in s sum k at n to part sizes is apart place fits len = part_of_piece k zeros (all_pieces s sum) (drop (suc k) (all_pieces s sum)) at n to part (length-replicate {A = ℕ} 512 0) (all_fit s sum sizes) is apart place fits len

role_code-lt : (l : ℕ) (r : Role) → l < 8 → role_code l r < 65536
role_code-lt l Working lt = omega arith
role_code-lt l Rebuilding lt = omega arith
role_code-lt l Faulty lt = omega arith
role_code-lt l Spare lt = omega arith

roles_in : (s : Super) (sum l : ℕ) → HasSizes s → l < 8 → number_at (written s sum) (256 + 2 * l) 2 ≡ role_code l (role_of s.roles l)
roles_in s sum zero sizes lt = number_in s sum 16 256 2 (role_code 0 (role_of s.roles 0)) sizes refl refl (role_code-lt 0 (role_of s.roles 0) lt)
roles_in s sum (suc zero) sizes lt = number_in s sum 17 258 2 (role_code 1 (role_of s.roles 1)) sizes refl refl (role_code-lt 1 (role_of s.roles 1) lt)
roles_in s sum (suc (suc zero)) sizes lt = number_in s sum 18 260 2 (role_code 2 (role_of s.roles 2)) sizes refl refl (role_code-lt 2 (role_of s.roles 2) lt)
roles_in s sum (suc (suc (suc zero))) sizes lt = number_in s sum 19 262 2 (role_code 3 (role_of s.roles 3)) sizes refl refl (role_code-lt 3 (role_of s.roles 3) lt)
roles_in s sum (suc (suc (suc (suc zero)))) sizes lt = number_in s sum 20 264 2 (role_code 4 (role_of s.roles 4)) sizes refl refl (role_code-lt 4 (role_of s.roles 4) lt)
roles_in s sum (suc (suc (suc (suc (suc zero))))) sizes lt = number_in s sum 21 266 2 (role_code 5 (role_of s.roles 5)) sizes refl refl (role_code-lt 5 (role_of s.roles 5) lt)
roles_in s sum (suc (suc (suc (suc (suc (suc zero)))))) sizes lt = number_in s sum 22 268 2 (role_code 6 (role_of s.roles 6)) sizes refl refl (role_code-lt 6 (role_of s.roles 6) lt)
roles_in s sum (suc (suc (suc (suc (suc (suc (suc zero))))))) sizes lt = number_in s sum 23 270 2 (role_code 7 (role_of s.roles 7)) sizes refl refl (role_code-lt 7 (role_of s.roles 7) lt)
roles_in s sum (suc (suc (suc (suc (suc (suc (suc (suc l)))))))) sizes lt = absurd (omega arith)

data_offset-lt : (version : ℕ) → data_offset_of (version == 2) < 256 ^ 8
data_offset-lt version = grind (arith, nat_tests)

rest_in : (s : Super) (sum i : ℕ) → HasSizes s → is_named i ≡ false → i < 512 → get_or (written s sum) i 0 ≡ 0
unfolding written
rest_in s sum i sizes free lt = get_or-away zeros (all_pieces s sum) i (length-replicate {A = ℕ} 512 0) (all_fit s sum sizes) (away_from_fields i (all_pieces s sum) refl free) ∙ get_or-replicate 512 i 0 0 lt

-- all but the sum is as it was before
same_before : (s : Super) (sum i : ℕ) → IsSector (before_sum s) → covers 216 4 i ≡ false → get_or (written s sum) i 0 ≡ get_or (before_sum s) i 0
unfolding written before_sum
same_before s sum i sector out = get_or-with_bytes_out (with_pieces zeros (unsummed s)) 216 4 (bytes_of 4 sum) i (length-bytes_of 4 sum) (let size = sector.size in omega arith) out

sector_in : (s : Super) (sum : ℕ) → IsSector (before_sum s) → IsSector (written s sum)
unfolding written before_sum
sector_in s sum sector = sector-with_bytes (with_pieces zeros (unsummed s)) 216 4 (bytes_of 4 sum) sector (length-bytes_of 4 sum) (omega arith) (λ i. bytes_of-lt 4 sum i)

-- what is written spells the superblock
pub written_spells : (s : Super) (sum : ℕ) → HasSizes s → IsSuper s → IsSector (before_sum s) → sum < 2 ^ 32 → sum ≡ checksum_of (before_sum s) → IsWritten s (written s sum)
written_spells s sum sizes in_range sector fits is =
    let device : length (device_uuid s.uuid s.device) ≡ 16 = length-set s.uuid 15 s.device ∙ sizes.uuid in
    let room = in_range.room in
    let size = in_range.size.1 in
    let legs = in_range.raid_disks.1 in
    let leg = in_range.device in
    let events = in_range.events.1 in
    record {
      sector = sector_in s sum sector;
      magic = number_in s sum 0 0 4 0xa92b4efc sizes refl refl (lit< tt);
      major_version = number_in s sum 1 4 4 1 sizes refl refl (lit< tt);
      feature_map = number_in s sum 2 8 4 1 sizes refl refl (lit< tt);
      array_uuid = part_in s sum 3 16 16 32 s.uuid sizes refl refl refl (lit≤ tt) sizes.uuid;
      name = part_in s sum 4 32 32 64 s.name sizes refl refl refl (lit≤ tt) sizes.name;
      level = number_in s sum 5 72 4 1 sizes refl refl (lit< tt);
      size = number_in s sum 6 80 8 s.sectors sizes refl refl (omega arith);
      raid_disks = number_in s sum 7 92 4 s.geometry_legs sizes refl refl (omega arith);
      bitmap_offset = number_in s sum 8 96 4 8 sizes refl refl (lit< tt);
      data_offset = number_in s sum 9 128 8 (data_offset_of (s.version == 2)) sizes refl refl (data_offset-lt s.version);
      data_size = number_in s sum 10 136 8 s.room sizes refl refl (omega arith);
      superblock_offset = number_in s sum 11 144 8 8 sizes refl refl (lit< tt);
      device_number = number_in s sum 12 160 4 s.device sizes refl refl (omega arith);
      device_uuid = part_in s sum 13 168 16 184 (device_uuid s.uuid s.device) sizes refl refl refl (lit≤ tt) device;
      events = number_in s sum 14 200 8 s.events sizes refl refl (omega arith);
      checksum = number_in s sum 24 216 4 sum sizes refl refl fits ∙ is ∙ sym (checksum-agree (written s sum) (before_sum s) (λ i lt out. same_before s sum i sector out));
      max_dev = number_in s sum 15 220 4 8 sizes refl refl (lit< tt);
      roles = λ l lt. roles_in s sum l sizes lt;
      devices = sizes.roles;
      rest = λ i lt free. rest_in s sum i sizes free lt;
    }

-- the writer's steps, one after the other
pub steps_write : (s : Super) (array device state roles : List ℕ) → array ≡ with_pieces zeros (array_pieces s) → device ≡ with_pieces array (device_pieces s) → state ≡ with_pieces device (state_pieces s)
    → roles ≡ with_pieces state (role_pieces s.roles 8) → roles ≡ before_sum s
unfolding before_sum
steps_write s array device state roles is_array is_device is_state is_roles =
    is_roles
    ∙ ap (with_pieces state) (role_pieces-eight s.roles)
    ∙ ap (λ (bytes : List ℕ). with_pieces bytes (eight_pieces s.roles)) (is_state ∙ ap (λ (bytes : List ℕ). with_pieces bytes (state_pieces s)) (is_device ∙ ap (λ (bytes : List ℕ). with_pieces bytes (device_pieces s)) is_array))

-- and the checksum
pub sum_writes : (s : Super) (sum : ℕ) → with_bytes (before_sum s) 216 (bytes_of 4 sum) ≡ written s sum
unfolding before_sum written
sum_writes s sum = refl
