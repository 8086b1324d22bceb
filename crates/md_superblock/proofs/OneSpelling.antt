-- Two sectors that spell one superblock are equal, byte by byte.
use Rattle.std.proofs.Common.{◌≡◌, inl, inr, ℕ, ◌+◌, ◌-◌, ◌*◌, ◌/◌, ◌<◌, ◌≤◌, nat_lt, nat_le, true, false, List, [], ◌∷◌, get_or, refl, sym, ◌∙◌, arith}
use Rattle.std.specs.List.{list_any}
use Rattle.std.proofs.lemmas.Bool.{or_cases, and_from, le-leb, lt-ltb, cases_Bool, true≢false}
use Rattle.std.proofs.lemmas.List.{ext_get_or}
use Rattle.md_superblock.specs.declared.superblock.Super.{Super}
use Rattle.md_superblock.specs.Layout.{number_at, checksum_of, covers, fields, is_named}
use Rattle.md_superblock.specs.Superblock.{IsWritten}
use Rattle.md_superblock.proofs.Places.{covers_in, same_of_number, same_of_part}
use Rattle.md_superblock.proofs.Written.{checksum-agree}

-- Q holds at each byte of each field
abbrev pub AllHold : (ℕ → Type 0) → List (ℕ × ℕ) → Type 0
AllHold Q [] = Unit {0}
AllHold Q (f ∷ fs) = ((i : ℕ) → covers f.0 f.1 i ≡ true → Q i) × AllHold Q fs

at_named : (Q : ℕ → Type 0) (fs : List (ℕ × ℕ)) (i : ℕ) → AllHold Q fs → list_any (λ field. covers field.0 field.1 i) fs ≡ true → Q i
at_named Q [] i all named = cc
at_named Q (f ∷ fs) i all named = elim (or_cases (covers f.0 f.1 i) (list_any (λ field. covers field.0 field.1 i) fs) named) [
  | inl here ↦ all.0 i here
  | inr there ↦ at_named Q fs i all.1 there
]

named_holds : (Q : ℕ → Type 0) (i : ℕ) → AllHold Q fields → is_named i ≡ true → Q i
unfolding is_named
named_holds Q i all named = at_named Q fields i all named

-- the device whose role has the byte
role_covers : (i : ℕ) → 256 ≤ i → i < 272 → covers (256 + 2 * ((i - 256) / 2)) 2 i ≡ true
role_covers i low high = and_from (nat_le (256 + 2 * ((i - 256) / 2)) i) (nat_lt i (256 + 2 * ((i - 256) / 2) + 2)) (le-leb (256 + 2 * ((i - 256) / 2)) i (omega arith)) (lt-ltb i (256 + 2 * ((i - 256) / 2) + 2) (omega arith))

same_role_bytes : (s : Super) (x y : List ℕ) → IsWritten s x → IsWritten s y → (i : ℕ) → covers 256 16 i ≡ true → get_or x i 0 ≡ get_or y i 0
same_role_bytes s x y w v i inside =
    let place = covers_in 256 16 i inside in
    let low = place.0 in
    let high = place.1 in
    let l : ℕ = (i - 256) / 2 in
    let below : l < 8 = omega arith in
    same_of_number (256 + 2 * l) 2 x y w.sector v.sector (w.roles l below ∙ sym (v.roles l below)) i (role_covers i low (omega arith))

-- what holds where the bytes are the same, and in the checksum, holds in each field
in_fields : (s : Super) (x y : List ℕ) → IsWritten s x → IsWritten s y → (Q : ℕ → Type 0) → ((i : ℕ) → get_or x i 0 ≡ get_or y i 0 → Q i) → ((i : ℕ) → covers 216 4 i ≡ true → Q i) → AllHold Q fields
in_fields s x y w v Q lift sum =
    let same : (at n : ℕ) → number_at x at n ≡ number_at y at n → (i : ℕ) → covers at n i ≡ true → Q i = λ at n e i inside. lift i (same_of_number at n x y w.sector v.sector e i inside) in (
      same 0 4 (w.magic ∙ sym v.magic),
      (
        same 4 4 (w.major_version ∙ sym v.major_version),
        (
          same 8 4 (w.feature_map ∙ sym v.feature_map),
          (
            (λ i inside. lift i (same_of_part 16 16 32 x y refl (w.array_uuid ∙ sym v.array_uuid) i inside)),
            (
              (λ i inside. lift i (same_of_part 32 32 64 x y refl (w.name ∙ sym v.name) i inside)),
              (
                same 72 4 (w.level ∙ sym v.level),
                (
                  same 80 8 (w.size ∙ sym v.size),
                  (
                    same 92 4 (w.raid_disks ∙ sym v.raid_disks),
                    (
                      same 96 4 (w.bitmap_offset ∙ sym v.bitmap_offset),
                      (
                        same 128 8 (w.data_offset ∙ sym v.data_offset),
                        (
                          same 136 8 (w.data_size ∙ sym v.data_size),
                          (
                            same 144 8 (w.superblock_offset ∙ sym v.superblock_offset),
                            (
                              same 160 4 (w.device_number ∙ sym v.device_number),
                              (
                                (λ i inside. lift i (same_of_part 168 16 184 x y refl (w.device_uuid ∙ sym v.device_uuid) i inside)),
                                (
                                  same 200 8 (w.events ∙ sym v.events),
                                  (
                                    sum,
                                    (
                                      same 220 4 (w.max_dev ∙ sym v.max_dev),
                                      (
                                        (λ i inside. lift i (same_role_bytes s x y w v i inside)),
                                        tt,
                                      ),
                                    ),
                                  ),
                                ),
                              ),
                            ),
                          ),
                        ),
                      ),
                    ),
                  ),
                ),
              ),
            ),
          ),
        ),
      ),
    )

same_but_sum : (s : Super) (x y : List ℕ) → IsWritten s x → IsWritten s y → (i : ℕ) → i < 512 → covers 216 4 i ≡ false → get_or x i 0 ≡ get_or y i 0
same_but_sum s x y w v i lt out = elim (cases_Bool (is_named i)) [
  | inl named ↦
      let Q : ℕ → Type 0 = λ k. covers 216 4 k ≡ false → get_or x k 0 ≡ get_or y k 0 in
      named_holds Q i (in_fields s x y w v Q (λ k e out. e) (λ k inside out. absurd (true≢false (sym inside ∙ out)))) named out
  | inr free ↦ w.rest i lt free ∙ sym (v.rest i lt free)
]

pub one_spelling : (s : Super) (x y : List ℕ) → IsWritten s x → IsWritten s y → x ≡ y
one_spelling s x y w v =
    let sums : checksum_of x ≡ checksum_of y = checksum-agree x y (λ i lt out. same_but_sum s x y w v i lt out) in
    let stored : number_at x 216 4 ≡ number_at y 216 4 = w.checksum ∙ sums ∙ sym v.checksum in
    let Q : ℕ → Type 0 = λ k. get_or x k 0 ≡ get_or y k 0 in
    let all = in_fields s x y w v Q (λ k e. e) (λ k inside. same_of_number 216 4 x y w.sector v.sector stored k inside) in
    ext_get_or 0 x y (w.sector.size ∙ sym v.sector.size) (λ i lt. same_at s x y w v all i (let size = w.sector.size in omega arith)) where
      same_at : (s : Super) (x y : List ℕ) → IsWritten s x → IsWritten s y → AllHold (λ k. get_or x k 0 ≡ get_or y k 0) fields → (i : ℕ) → i < 512 → get_or x i 0 ≡ get_or y i 0
      same_at s x y w v all i lt = elim (cases_Bool (is_named i)) [
        | inl named ↦ named_holds (λ k. get_or x k 0 ≡ get_or y k 0) i all named
        | inr free ↦ w.rest i lt free ∙ sym (v.rest i lt free)
      ]
