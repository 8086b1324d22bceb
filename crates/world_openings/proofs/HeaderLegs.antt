-- Legs of a header, one after another, and what they are to an opening.
use Rattle.std.proofs.Common.{◌≡◌, ℕ, ◌+◌, ◌<◌, ◌≤◌, Bool, List, [], ◌∷◌, ◌++◌, length, map, get_or, refl, arith, ap, sym, subst, ◌∙◌, inl, inr, None}
use Rattle.std.proofs.lemmas.Bool.{cases_lt}
use Rattle.std.proofs.lemmas.List.{length_push, get_or_append_left, get_or_push, length-map, get_or-map, map-append}
use Rattle.mdc_types.specs.Geometry.{Sizes, length_of, nodes_of}
use Rattle.mdc_types.specs.Sectors.{zero_sector}
use Rattle.leg_store.specs.Memory.{Memory, told}
use Rattle.cluster_model.specs.Opening.{Origin, header_at}
use Rattle.cluster_model.specs.Contents.{IsHeader, header_sector}
use Rattle.world_state.specs.Told.{Fits, legs_of, sectors_of}
use Rattle.world_openings.specs.Legs.{AreHeaderLegs, sectors_at}

old_at : (legs : List Memory) (leg : Memory) (l : ℕ) → l < length legs → sectors_at (legs ++ leg ∷ []) l ≡ sectors_at legs l
old_at legs leg l lt =
    ap (λ ts. sectors_of (get_or ts l None)) (map-append told legs (leg ∷ []))
    ∙ ap sectors_of (get_or_append_left (map told legs) (told leg ∷ []) None l (subst (λ k. l < k) (sym (length-map legs told)) lt))

new_at : (legs : List Memory) (leg : Memory) (l : ℕ) → length legs ≡ l → sectors_at (legs ++ leg ∷ []) l ≡ leg.sectors
new_at legs leg l count =
    ap (λ ts. sectors_of (get_or ts l None)) (map-append told legs (leg ∷ []))
    ∙ ap sectors_of (get_or_push (map told legs) (told leg) None l (length-map legs told ∙ count))

-- no leg yet
pub header_legs_none : (o : Origin) → AreHeaderLegs o 0 []
header_legs_none o = record {
  count = refl;
  lengths = λ l lt. absurd (omega (arith, lt));
  sectors = λ l at lt within. absurd (omega (arith, lt));
}

-- one leg more
pub header_legs_more : (o : Origin) (n : ℕ) (legs : List Memory) (leg : Memory) → AreHeaderLegs o n legs
    → length leg.sectors ≡ length_of o.sizes
    → ((at : ℕ) → at < length_of o.sizes → get_or leg.sectors at zero_sector ≡ header_sector o n at)
    → AreHeaderLegs o (n + 1) (legs ++ leg ∷ [])
header_legs_more o n legs leg are size each = record {
  count = length_push legs leg ∙ ap (λ k. k + 1) are.count;
  lengths = λ l lt. elim (cases_lt l n) [
    | inl below ↦ ap length (old_at legs leg l (subst (λ k. l < k) (sym are.count) below)) ∙ are.lengths l below
    | inr past ↦ let last : n ≡ l = omega arith in ap length (new_at legs leg l (are.count ∙ last)) ∙ size
  ];
  sectors = λ l at lt within. elim (cases_lt l n) [
    | inl below ↦ ap (λ xs. get_or xs at zero_sector) (old_at legs leg l (subst (λ k. l < k) (sym are.count) below)) ∙ are.sectors l at below within
    | inr past ↦ let last : n ≡ l = omega arith in
        ap (λ xs. get_or xs at zero_sector) (new_at legs leg l (are.count ∙ last)) ∙ each at within ∙ ap (λ k. header_sector o k at) last
  ];
}

-- the opening of a header is that of its legs
pub header_legs_are : (o : Origin) (g : Sizes) (nodes : ℕ) (warm : Bool) (spares : ℕ) (legs : List Memory)
    → o ≡ header_at g nodes warm spares → 1 ≤ nodes → nodes ≤ nodes_of g → AreHeaderLegs o o.sizes.legs legs
    → IsHeader o (legs_of (map told legs))
header_legs_are o g nodes warm spares legs is some most are = record {
  nodes = nodes;
  spares = spares;
  some = (some, subst (λ h. nodes ≤ nodes_of h) (sym (ap (λ p. p.sizes) is)) most);
  header = is ∙ ap (λ p. header_at p.sizes nodes p.warm spares) (sym is);
  contents = λ l at below within told. are.sectors l at below within;
}

-- and they have its lengths
pub header_legs_fit : (o : Origin) (legs : List Memory) → AreHeaderLegs o o.sizes.legs legs
    → Fits o.sizes (map (λ leg. length leg.sectors) legs)
header_legs_fit o legs are = record {
  count = length-map legs (λ leg. length leg.sectors) ∙ are.count;
  each = λ l lt. size_at legs l (subst (λ k. l < k) (sym are.count) lt) ∙ are.lengths l lt;
} where
  nothing : Memory
  nothing = record { sectors = []; failing = []; transfers = 0; faults = 0 }

  size_at : (legs : List Memory) (l : ℕ) → l < length legs → get_or (map (λ leg. length leg.sectors) legs) l 0 ≡ length (sectors_at legs l)
  size_at legs l lt = get_or-map (λ leg. length leg.sectors) legs l nothing 0 lt
      ∙ sym (ap (λ t. length (sectors_of t)) (get_or-map told legs l nothing None lt))
