-- An opening of a header has one value at each sector, and no faulty leg.
use Rattle.std.proofs.Common.{◌≡◌, inl, inr, ℕ, ◌&&◌, if◌then◌else◌, Bool, true, false, sym, ap, ◌∙◌}
use Rattle.std.specs.Prelude.{nat_lt, not}
use Rattle.std.proofs.lemmas.Bool.{cases_lt}
use Rattle.mdc_types.specs.Bits.{has_bit}
use Rattle.mdc_types.specs.Roles.{role_of, eight}
use Rattle.mdc_types.specs.declared.roles.Role.TheVariants.{Working, Spare, Faulty}
use Rattle.mdc_types.proofs.RolesLaws.{role_of-eight, role_of-eight_past}
use Rattle.cluster_model.specs.Opening.{Origin, header_role}
use Rattle.laws_writes.specs.Laws.{HeadersAreSound}
use Rattle.laws_writes.proofs.FirstKeepers.{header_one}

not_faulty : (legs spares l : ℕ) → header_role legs spares l ≡ Faulty → ⊥
not_faulty legs spares l e = by (nat_lt l legs && not (has_bit spares l)) e
  where
    by : (b : Bool) → (if b then Working else Spare) ≡ Faulty → ⊥
    by true e = cc
    by false e = cc

none_faulty : (legs spares l : ℕ) → role_of (eight (header_role legs spares)) l ≡ Faulty → ⊥
none_faulty legs spares l e = elim (cases_lt l 8) [
  | inl lt ↦ not_faulty legs spares l (sym (role_of-eight (header_role legs spares) l lt) ∙ e)
  | inr past ↦ let spare = role_of-eight_past (header_role legs spares) l past in cc
]

pub headers_are_sound : HeadersAreSound
headers_are_sound o start opens h told = record {
  opens = opens;
  told = told;
  base = λ s lt two. absurd (header_one o start.legs s h two);
  faulty = λ l s leg role lt. absurd (none_faulty o.sizes.legs h.spares l (sym (ap (λ (x : Origin). role_of x.roles l) h.header) ∙ role));
}
