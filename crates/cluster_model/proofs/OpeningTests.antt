-- Openings: one that is sound, and for each way in which one may be unsound one that is so.
use Rattle.std.proofs.Common.{◌≡◌, ◌<◌, ◌≤◌, ℕ, zero, suc, true, false, [], ◌∷◌, ◌++◌, inl, inr, length, get_or, replicate, refl, sym, ap, arith}
use Rattle.std.proofs.lemmas.List.{get_or-replicate}
use Rattle.dlm_modes.specs.First.{first_such}
use Rattle.mdc_types.specs.Geometry.{IsGeometry}
use Rattle.mdc_types.specs.Names.{name_length}
use Rattle.mdc_types.specs.Roles.{eight, role_of}
use Rattle.mdc_types.specs.Sectors.{zero_sector}
use Rattle.mdc_types.specs.declared.numbers.Sector.{Sector}
use Rattle.mdc_types.specs.declared.roles.Role.TheVariants as roles
use Rattle.slot_pages.specs.Slot.{bits_below, spelled_page}
use Rattle.leg_failure.proofs.SetLaws.{has_bit-zero}
use Rattle.cluster_model.specs.State.{State}
use Rattle.cluster_model.specs.Opening.{Origin, IsOrigin, header_at, core_at}
use Rattle.cluster_model.specs.Contents.{header_sector, Opens, SoundOpening}
use Rattle.cluster_model.proofs.Legs.{old, new, old_is_not_new, only_one, with_legs, all_old}
use Rattle.cluster_model.proofs.RowTests.{two_legs, opening}

-- A new array of two nodes.

abbrev header : Origin
header = header_at two_legs 2 true 0

no_other_legs : (l : ℕ) → 2 ≤ l → role_of header.roles l ≡ roles.Spare
no_other_legs zero past = absurd (omega arith)
no_other_legs (suc zero) past = absurd (omega arith)
no_other_legs (suc (suc zero)) past = refl
no_other_legs (suc (suc (suc zero))) past = refl
no_other_legs (suc (suc (suc (suc zero)))) past = refl
no_other_legs (suc (suc (suc (suc (suc zero))))) past = refl
no_other_legs (suc (suc (suc (suc (suc (suc zero)))))) past = refl
no_other_legs (suc (suc (suc (suc (suc (suc (suc zero))))))) past = refl
no_other_legs (suc (suc (suc (suc (suc (suc (suc (suc l)))))))) past = refl

small_enough : IsGeometry two_legs
small_enough = record {
  legs = (omega arith, omega arith);
  sectors = (omega arith, omega arith);
  room = omega arith;
  chunk = refl;
  bits = omega arith;
}

is_origin : IsOrigin header
unfolding first_such name_length
is_origin = record {
  sizes = small_enough;
  name = refl;
  lengths = (refl, refl);
  members = omega arith;
  pending = omega arith;
  clean = λ n is. has_bit-zero n;
  events = (omega arith, omega arith);
  leg = refl;
  legs = no_other_legs;
}

one_value : (s : ℕ) → s < 16 → length (get_or header.base s []) ≡ 1
one_value s within = ap length (get_or-replicate 16 s (zero_sector ∷ []) [] within)

none_faulty : (l : ℕ) → l < 2 → ¬ (role_of header.roles l ≡ roles.Faulty)
none_faulty zero leg is = cc
none_faulty (suc zero) leg is = cc
none_faulty (suc (suc l)) leg is = absurd (omega arith)

header_opens : Opens header (opening 2 true)
header_opens = record {
  origin = is_origin;
  core = refl;
  contents = inl (record {
    nodes = 2;
    spares = 0;
    some = (omega arith, omega arith);
    header = refl;
    contents = λ l at leg place told. refl;
  });
}

header_is_sound : SoundOpening header (opening 2 true)
header_is_sound = record {
  opens = header_opens;
  told = λ l leg. refl;
  base = λ s within two. absurd (let one = one_value s within in omega arith);
  faulty = λ l s leg role within. absurd (none_faulty l leg role);
}

-- its slots have the members' bits: legs without them are no header's
first_bytes : (v w : Sector) → get_or v.bytes 0 0 ≡ 0 → get_or w.bytes 0 0 ≡ 98 → ¬ (v ≡ w)
first_bytes v w zeros magic same = let e = ap (λ (x : Sector). get_or x.bytes 0 0) same in omega arith

magic : get_or (header_sector header 0 16).bytes 0 0 ≡ 98
unfolding bits_below spelled_page
magic = refl

empty_is_no_header : ¬ Opens header (with_legs (core_at header) all_old)
empty_is_no_header opens = elim opens.contents [
  | inl h ↦ first_bytes old (header_sector header 0 16) refl magic (h.contents 0 16 (omega arith) (omega arith) refl)
  | inr images ↦ let warm : true ≡ false = images.nobody.1 in cc
]

-- Two values that no slot marks.

abbrev two_values : Origin
two_values = record (header_at two_legs 2 false 0) { base = replicate 5 (old ∷ []) ++ (old ∷ new ∷ []) ∷ [] }

two_unmarked : ¬ SoundOpening two_values (with_legs (core_at two_values) all_old)
two_unmarked sound =
    let marks = sound.base 5 (omega arith) (omega arith) in
    let bit : false ≡ true = marks.2 0 refl in cc

-- A faulty leg that has another value, which no slot marks.

abbrev one_faulty : Origin
one_faulty = record (header_at two_legs 2 false 0) { roles = eight (λ l. elim l [ zero ↦ roles.Working | suc k ↦ roles.Faulty ]) }

abbrev second_new : ℕ → ℕ → Sector
second_new zero at = old
second_new (suc l) at = new

faulty_unmarked : ¬ SoundOpening one_faulty (with_legs (core_at one_faulty) second_new)
faulty_unmarked sound = elim (sound.faulty 1 5 (omega arith) refl (omega arith)) [
  | inl candidate ↦ old_is_not_new (sym (only_one new old candidate))
  | inr marks ↦ let bit : false ≡ true = marks.2 0 refl in cc
]

-- A leg that doesn't tell its contents.

abbrev untold : State
untold = record { core = core_at header; legs = record { told = λ l. false; content = all_old } }

untold_is_not_sound : ¬ SoundOpening header untold
untold_is_not_sound sound = let told : false ≡ true = sound.told 0 (omega arith) in cc
