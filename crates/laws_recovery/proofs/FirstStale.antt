-- At a sound opening no leg that works is stale, and a pending slot answers for what a faulty leg lacks.
use Rattle.std.proofs.Common.{zero, suc, ◌≡◌, inl, inr, ℕ, ◌<◌, ◌≤◌, ◌+◌, ◌==◌, ◌&&◌, ◌||◌, not, if◌then◌else◌, Bool, true, false, List, [], ◌∷◌, Option, refl, sym, ap, subst, ◌∙◌, arith}
use Rattle.std.specs.Prelude.{nat_lt, nat_le, get_or, unwrap_or}
use Rattle.std.proofs.lemmas.Bool.{cases_lt}
use Rattle.std.proofs.lemmas.Bool.Decides.{nat_tests}
use Rattle.std.proofs.lemmas.List.{get_or-replicate}
use Rattle.slot_pages.proofs.GrammarLaws.{no_bit}
use Rattle.dlm_modes.specs.First.{first_such}
use Rattle.mdc_types.specs.Bits.{has_bit}
use Rattle.mdc_types.specs.Geometry.{nodes_of, chunks_of, chunk_of, data_offset, data_offset_of}
use Rattle.mdc_types.specs.Roles.{role_of, eight, is_working, is_faulty}
use Rattle.mdc_types.specs.Sectors.{zero_sector}
use Rattle.mdc_types.specs.declared.numbers.Sector.{Sector}
use Rattle.mdc_types.specs.declared.roles.Role.{Role}
use Rattle.md_superblock.specs.Arrays.{Says, spelled, super_for}
use Rattle.plain_history.specs.History.{values_at}
use Rattle.cluster_model.specs.State.{State, Legs}
use Rattle.cluster_model.specs.Stored.{bit_on, data_on}
use Rattle.cluster_model.specs.Opening.{Origin, header_role, array_of, says_of}
use Rattle.cluster_model.specs.Contents.{IsHeader, SoundOpening, MarksOnAll, works_at, some_mark, is_marked_slot, values_on, with_new, header_sector, slot_sector}
use Rattle.laws_roles.proofs.InState.{working_role, faulty_role}
use Rattle.laws_roles.specs.Laws.{Tells}
use Rattle.laws_writes.proofs.Ghosts.{is_among, same_sector}
use Rattle.laws_writes.proofs.First.{First}
use Rattle.laws_writes.proofs.FirstKeepers.{first_ghost, first_keeper, first_values, marks_all, each_one, each_from, found_one, found_passes, given_or, or_given, working_below}
use Rattle.laws_writes.proofs.Places.{chunk_lt}
use Rattle.laws_writes.proofs.Settled.{Since, Settled}
use Rattle.laws_writes.proofs.Values.{in_among}
use Rattle.laws_recovery.proofs.Ghosts.{Hold}
use Rattle.laws_writes.proofs.Points.{clash}
use Rattle.laws_recovery.proofs.Stale.{Stale}
use Rattle.laws_recovery.proofs.Values.{same_self}

-- The values of images.

among_new : (v : Sector) (us : List Sector) → is_among v (with_new v us) ≡ true
among_new v [] = grind (arith, same_self v)
among_new v (u ∷ us) = grind (arith, among_new v us)

among_kept : (v u : Sector) (us : List Sector) → is_among v us ≡ true → is_among v (with_new u us) ≡ true
among_kept v u [] e = cc
among_kept v u (x ∷ us) e = grind (arith, among_kept v u us)

among_if : (b : Bool) (v u : Sector) (us : List Sector) → is_among v us ≡ true → is_among v (if b then with_new u us else us) ≡ true
among_if true v u us e = among_kept v u us e
among_if false v u us e = e

among_here : (b : Bool) (v : Sector) (us : List Sector) → b ≡ true → is_among v (if b then with_new v us else us) ≡ true
among_here true v us e = among_new v us
among_here false v us e = cc

values_have : (o : Origin) (legs : Legs) (s n l : ℕ) → l < n → works_at o l ≡ true → is_among (data_on o.sizes legs l s) (values_on o legs s n) ≡ true
unfolding values_on
values_have o legs s zero l lt w = absurd (omega arith)
values_have o legs s (suc n) l lt w = elim (cases_lt l n) [
  | inl below ↦ among_if (works_at o n) (data_on o.sizes legs l s) (data_on o.sizes legs n s) (values_on o legs s n) (values_have o legs s n l below w)
  | inr past ↦
      let same : n ≡ l = omega (arith, lt, past) in
      subst (λ k. is_among (data_on o.sizes legs k s) (values_on o legs s (suc n)) ≡ true) same (among_here (works_at o n) (data_on o.sizes legs n s) (values_on o legs s n) (subst (λ k. works_at o k ≡ true) (sym same) w))
]

-- Headers.

header_role_faulty : (legs spares l : ℕ) → is_faulty (header_role legs spares l) ≡ false
header_role_faulty legs spares l = grind arith

eight_faulty : (f : ℕ → Role) (l : ℕ) → ((k : ℕ) → is_faulty (f k) ≡ false) → is_faulty (role_of (eight f) l) ≡ false
eight_faulty f l none = grind (arith, none 0, none 1, none 2, none 3, none 4, none 5, none 6, none 7)

no_faulty : (o : Origin) (legs : Legs) (l : ℕ) → IsHeader o legs → is_faulty (role_of o.roles l) ≡ false
no_faulty o legs l h = ap (λ (x : Origin). is_faulty (role_of x.roles l)) h.header ∙ eight_faulty (header_role o.sizes.legs h.spares) l (header_role_faulty o.sizes.legs h.spares)

past_slots : (second : Bool) → 16 ≤ data_offset_of second
past_slots true = omega arith
past_slots false = omega arith

else_else : {A : Type 0} (a b c : Bool) (x y z : A) → a ≡ false → c ≡ false → (if a then x else if b && c then y else z) ≡ z
else_else a b c x y z e f = grind (arith, e, f)

zero_there : (o : Origin) (l s : ℕ) → header_sector o l (data_offset o.sizes + s) ≡ zero_sector
zero_there o l s =
    let past = past_slots o.sizes.second in
    else_else (data_offset o.sizes + s == 8) (nat_le 16 (data_offset o.sizes + s)) (nat_lt (data_offset o.sizes + s) (data_offset o.sizes))
    (record { bytes = spelled (super_for (array_of o) l (says_of o)) }) (slot_sector o (data_offset o.sizes + s)) zero_sector (not_eight (data_offset o.sizes + s) (omega (arith, past))) (not_below (data_offset o.sizes) s)
  where
    not_eight : (i : ℕ) → 16 ≤ i → (i == 8) ≡ false
    not_eight i lt = grind (arith, nat_tests)

    not_below : (i j : ℕ) → nat_lt (i + j) i ≡ false
    not_below i j = grind (arith, nat_tests)

module _ (o : Origin) (start : State) (sound : SoundOpening o start) where
  working_leg_below : (l : ℕ) → is_working (role_of o.roles l) ≡ true → l < o.sizes.legs
  working_leg_below l e = elim (cases_lt l o.sizes.legs) [
    | inl lt ↦ lt
    | inr le ↦ absurd (clash (is_working (role_of o.roles l)) e (ap is_working (sound.opens.origin.legs l le)))
  ]

  faulty_leg_below : (l : ℕ) → is_faulty (role_of o.roles l) ≡ true → l < o.sizes.legs
  faulty_leg_below l e = elim (cases_lt l o.sizes.legs) [
    | inl lt ↦ lt
    | inr le ↦ absurd (clash (is_faulty (role_of o.roles l)) e (ap is_faulty (sound.opens.origin.legs l le)))
  ]

  header_has : (l s : ℕ) → IsHeader o start.legs → l < o.sizes.legs → s < o.sizes.room → is_among (data_on o.sizes start.legs l s) (get_or o.base s []) ≡ true
  header_has l s h leg lt =
      let there = h.contents l (data_offset o.sizes + s) leg (omega (arith, lt)) (sound.told l leg) ∙ zero_there o l s in
      let base : get_or o.base s [] ≡ zero_sector ∷ [] = ap (λ (x : Origin). get_or x.base s []) h.header ∙ get_or-replicate o.sizes.room s (zero_sector ∷ []) [] lt in
      subst (λ vs. is_among (data_on o.sizes start.legs l s) vs ≡ true) (sym base) (subst (λ v. is_among v (zero_sector ∷ []) ≡ true) (sym there) (alone zero_sector))
    where
      or_left : (a b : Bool) → a ≡ true → (a || b) ≡ true
      or_left a b e = grind arith

      alone : (v : Sector) → is_among v (v ∷ []) ≡ true
      alone v = or_left (same_sector v v) false (same_self v)

  -- a leg that works has one of the opening's values
  pub working_has : (l s : ℕ) → is_working (role_of o.roles l) ≡ true → s < o.sizes.room → is_among (data_on o.sizes start.legs l s) (get_or o.base s []) ≡ true
  working_has l s working lt = elim sound.opens.contents [
    | inl h ↦ header_has l s h (working_leg_below l working) lt
    | inr i ↦
        let base = (i.contents sound.told).base s lt in
        subst (λ vs. is_among (data_on o.sizes start.legs l s) vs ≡ true) (sym base) (values_have o start.legs s 8 l (working_below o sound.opens.origin l working) working)
  ]

  -- A slot that marks the chunk on each leg that works.

  keeps_by : (s : ℕ) → MarksOnAll o start.legs s → (marks_all o start.legs (chunk_of o.sizes s) (first_keeper o start.legs s) ≡ true) × (first_keeper o start.legs s < nodes_of o.sizes)
  keeps_by s all =
      found_passes (marks_all o start.legs (chunk_of o.sizes s)) (nodes_of o.sizes)
      (found_one (marks_all o start.legs (chunk_of o.sizes s)) (nodes_of o.sizes) all.0 all.1
      (each_from (λ l. not (works_at o l) || bit_on o.sizes start.legs all.0 (chunk_of o.sizes s) l) 8
      (λ l lt. given_or (works_at o l) (bit_on o.sizes start.legs all.0 (chunk_of o.sizes s) l) (λ w. all.2 l (working_role (role_of o.roles l) w)))))

  bit_by : (s l : ℕ) → MarksOnAll o start.legs s → is_working (role_of o.roles l) ≡ true → bit_on o.sizes start.legs (first_keeper o start.legs s) (chunk_of o.sizes s) l ≡ true
  bit_by s l all working = or_given (works_at o l) (bit_on o.sizes start.legs (first_keeper o start.legs s) (chunk_of o.sizes s) l)
      (each_one (λ j. not (works_at o j) || bit_on o.sizes start.legs (first_keeper o start.legs s) (chunk_of o.sizes s) j) 8 (keeps_by s all).0 l (working_below o sound.opens.origin l working)) working

  abbrev lacks_first : ℕ → ℕ → Bool
  lacks_first l s = nat_lt s o.sizes.room && not (is_among (data_on o.sizes start.legs l s) (first_values o s))

  room : (l s : ℕ) → lacks_first l s ≡ true → s < o.sizes.room
  room l s e = below s o.sizes.room (left (nat_lt s o.sizes.room) (not (is_among (data_on o.sizes start.legs l s) (first_values o s))) e)
    where
      below : (i j : ℕ) → nat_lt i j ≡ true → i < j
      below i j e = grind (arith, nat_tests)

      left : (a b : Bool) → (a && b) ≡ true → a ≡ true
      left a b e = grind arith

  not_in : (l s : ℕ) → lacks_first l s ≡ true → is_among (data_on o.sizes start.legs l s) (get_or o.base s []) ≡ false
  not_in l s e = by (nat_lt s o.sizes.room) refl e
    where
      right : (b : Bool) → (true && not b) ≡ true → b ≡ false
      right b e = grind arith

      by : (b : Bool) → nat_lt s o.sizes.room ≡ b → (b && not (is_among (data_on o.sizes start.legs l s) (if b then values_at o.base s else zero_sector ∷ []))) ≡ true → is_among (data_on o.sizes start.legs l s) (get_or o.base s []) ≡ false
      by true t e = right (is_among (data_on o.sizes start.legs l s) (values_at o.base s)) e
      by false t e = cc

  pub first_fresh : (l s : ℕ) → is_working (role_of o.roles l) ≡ true → lacks_first l s ≡ false
  first_fresh l s working = by (lacks_first l s) refl
    where
      by : (b : Bool) → lacks_first l s ≡ b → b ≡ false
      by false e = refl
      by true e = absurd (clash (is_among (data_on o.sizes start.legs l s) (get_or o.base s [])) (working_has l s working (room l s e)) (not_in l s e))

  -- what a faulty leg lacks is marked
  faulty_marks : (l s : ℕ) → is_faulty (role_of o.roles l) ≡ true → lacks_first l s ≡ true → MarksOnAll o start.legs s
  faulty_marks l s faulty e = elim (sound.faulty l s (faulty_leg_below l faulty) (faulty_role (role_of o.roles l) faulty) (room l s e)) [
    | inl has ↦ absurd (clash (is_among (data_on o.sizes start.legs l s) (get_or o.base s [])) (in_among _ (get_or o.base s []) has) (not_in l s e))
    | inr marks ↦ marks
  ]

  pub first_holds : (l s x : ℕ) → is_faulty (role_of o.roles l) ≡ true → lacks_first l s ≡ true → is_working (role_of o.roles x) ≡ true
      → (nat_lt (first_keeper o start.legs s) (nodes_of o.sizes) && bit_on o.sizes start.legs (first_keeper o start.legs s) (chunk_of o.sizes s) x) ≡ true
  first_holds l s x faulty e working =
      let all = faulty_marks l s faulty e in
      and_true (nat_lt (first_keeper o start.legs s) (nodes_of o.sizes)) _ (below (first_keeper o start.legs s) (nodes_of o.sizes) (keeps_by s all).1) (bit_by s x all working)
    where
      below : (i j : ℕ) → i < j → nat_lt i j ≡ true
      below i j e = grind (arith, nat_tests)

      and_true : (a b : Bool) → a ≡ true → b ≡ true → (a && b) ≡ true
      and_true a b e f = grind arith

  some_works_leg : (l : ℕ) × (l < 8) × (is_working (role_of o.roles l) ≡ true)
  some_works_leg = let f = found_passes (λ l. is_working (role_of o.roles l)) 8 sound.opens.origin.leg in (unwrap_or (first_such (λ l. is_working (role_of o.roles l)) 0 8) 0, f.1, f.0)

  pub holder_pending : (l s : ℕ) → is_faulty (role_of o.roles l) ≡ true → lacks_first l s ≡ true → has_bit o.pending (first_keeper o start.legs s) ≡ true
  holder_pending l s faulty e = elim sound.opens.contents [
    | inl h ↦ absurd (clash (is_faulty (role_of o.roles l)) faulty (no_faulty o start.legs l h))
    | inr h ↦
        let all = faulty_marks l s faulty e in
        let k = keeps_by s all in
        let j = some_works_leg in
        let c : ℕ = chunk_of o.sizes s in
        let mark : some_mark o start.legs (first_keeper o start.legs s) c ≡ true
        = found_one (λ i. works_at o i && bit_on o.sizes start.legs (first_keeper o start.legs s) c i) 8 j.0 j.1 (and_both (works_at o j.0) _ j.2 (bit_by s j.0 all j.2)) in
        let slot : is_marked_slot o start.legs (first_keeper o start.legs s) ≡ true
        = found_one (some_mark o start.legs (first_keeper o start.legs s)) (chunks_of o.sizes) c (chunk_lt o.sizes s sound.opens.origin.sizes (room l s e)) mark in
        (h.contents sound.told).pending (first_keeper o start.legs s) k.1 ∙ slot
  ]
    where
      and_both : (a b : Bool) → a ≡ true → b ≡ true → (a && b) ≡ true
      and_both a b e f = grind arith

  pub holder_out : (l s : ℕ) → is_faulty (role_of o.roles l) ≡ true → lacks_first l s ≡ true → has_bit o.members (first_keeper o start.legs s) ≡ false
  holder_out l s faulty e = elim sound.opens.contents [
    | inl h ↦ absurd (clash (is_faulty (role_of o.roles l)) faulty (no_faulty o start.legs l h))
    | inr h ↦ ap (λ m. has_bit m (first_keeper o start.legs s)) h.nobody.0 ∙ no_bit (first_keeper o start.legs s)
  ]

module _ (o : Origin) (start : State) (sound : SoundOpening o start) (tells : Tells o start) (sup : ℕ → Option Says) (home : ℕ) where
  or_second : (a b : Bool) → b ≡ true → (a || b) ≡ true
  or_second a b e = grind arith

  abbrev pub first_hold : Hold
  first_hold = record { hold = λ l s. first_keeper o start.legs s }

  abbrev pub first_since : Since
  first_since = record { since = λ n s. false }

  pub first_stale : Stale (First o start sound tells sup home) (first_ghost o start.legs) first_hold first_since
  first_stale = record {
    not_stale = λ l s good. first_fresh o start sound l s good;
    buffer_value = λ n b e. cc;
    holder = λ l s missed lack. or_second (has_bit o.members (first_keeper o start.legs s)) (has_bit o.pending (first_keeper o start.legs s)) (holder_pending o start sound l s missed lack);
    holder_working = λ l s x missed lack working. first_holds o start sound l s x missed lack working;
    holder_good = λ l s x faulty lack good. first_holds o start sound l s x faulty lack good;
    holder_set = λ l s missed lack live. let out = holder_out o start sound l s missed lack in cc;
    holder_read = λ l s m missed lack e f. cc;
    again_arm = λ n l s e lack f past. cc;
    again_targets = λ n l s x e lack f past written. cc;
    again_fresh = λ n l s m e lack lt some. cc;
    covered_arm = λ n l s e lack f. cc;
    covered_good = λ n l s x e lack f good. cc;
    covered_fresh = λ n l s e lack some. cc;
  }

  pub first_settled : Settled (First o start sound tells sup home) first_since
  first_settled = record {
    since_pass = λ n s some e. cc;
    since_settled = λ n s some e. cc;
    read_need = λ n s lt e f. cc;
  }
